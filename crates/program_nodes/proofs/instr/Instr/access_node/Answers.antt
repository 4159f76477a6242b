-- `program_nodes::instr::Instr::access_node`: the context's number is that of a kind. Assumes nothing.
use Rattle.program_nodes.proofs.Facts.{context_low}
use Rattle.program_nodes.proofs.KindNumbers.{context_ok}
use Rattle.program_nodes.proofs.instr.Instr.access_node.Goals as goal

pub unwrap-requires : goal.unwrap-requires
unwrap-requires c = context_ok _ _ c.try_from.ensures (rw c.id-in-ContextRead.ensures (context_low c.args.self c.requires.is.0 c.in-ContextRead.is))

-- `program_nodes::instr::Instr::kind_number`: the head lies within the record. Assumes nothing.
use native.Mathlib.Omega.{arith}
use Rattle.program_nodes.proofs.Facts.{instr_result_fits}
use Rattle.program_nodes.proofs.instr.Instr.kind_number.Goals as goal

pub id-requires : goal.id-requires
id-requires c = omega (arith, instr_result_fits c.args.self)

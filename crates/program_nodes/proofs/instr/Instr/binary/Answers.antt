-- `program_nodes::instr::Instr::binary`: the fields of an operator's kind. Assumes nothing.
use mathlib.Core.Path.{sym}
use Rattle.program_nodes.proofs.KindNumbers.{binary_here}
use Rattle.program_nodes.proofs.instr.Instr.binary.Goals as goal

pub returns : goal.returns
returns c = rw (← c.requires.0, c.ty.ensures, c.id.ensures, c.id-2.ensures) (sym (binary_here _ _ _ _))

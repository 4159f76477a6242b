-- `u32::from` of a type: the number of its tag and its name. Assumes nothing.
use native.Mathlib.Omega.{arith}
use Rattle.ir.proofs.Codes.{coded}
use Rattle.ir.proofs.U32FromIrType.from.Goals as goal

pub returns : goal.returns
returns c = coded _ c.parts-tag.ensures (omega arith) (omega arith)

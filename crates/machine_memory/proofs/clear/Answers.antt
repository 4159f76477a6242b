-- `machine_memory::clear`: the part is filled with zeros. Assumes nothing.
use Prim.Native.Nat.{◌+◌}
use native.Mathlib.Omega.{arith}
use Rattle.writer.proofs.Writing.{part_zeroed}
use Rattle.machine_memory.specs.Cells.{cleared}
use Rattle.machine_memory.proofs.clear.Goals as goal

pub returns : goal.returns
unfolding cleared
returns c = let a = c.args in part_zeroed a.at (a.at + a.n) a.n a.memory.now _ (omega arith) c.requires (omega arith) (c.fill.ensures.after (λ y same. same))

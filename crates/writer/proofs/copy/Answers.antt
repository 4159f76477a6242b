-- `writer::copy`: what is left of the run is stored from `to + i` on. Assumes nothing.
use mathlib.Core.Path.{◌≡◌, sym, ◌∙◌}
use Prim.Native.Nat.{◌-◌}
use native.Mathlib.Omega.{arith}
use Rattle.writer.proofs.Writing.{copy_front}
use Rattle.writer.proofs.copy.Goals as goal

pub loop-i-preserved : goal.loop-i-preserved
loop-i-preserved c = let l = c.loop-i in sym (copy_front l.out _ _ _ l.i _ c.loop-i-test.true c.requires.0) ∙ l.invariant

pub returns : goal.returns
returns c = let none : c.args.n - c.loop-i.i ≡ 0 = omega arith in rw none at c.loop-i.invariant

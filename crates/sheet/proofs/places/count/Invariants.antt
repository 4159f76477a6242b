-- `sheet::places::count`: what is counted and what is left make the count. Assumes nothing.
use Prim.Native.Nat.{◌-◌}
use Rattle.sheet.proofs.Counts.{Counting}
use Rattle.sheet.proofs.places.count.Given as goal

abbrev pub invariant-loop-place : goal.invariant-loop-place
invariant-loop-place l = Counting l.s l.at l.end l.place l.n

abbrev pub decreases-loop-place : goal.decreases-loop-place
decreases-loop-place l = l.end - l.place

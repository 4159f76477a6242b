-- `writer::copy`: what is left of the run is stored from `to + i` on. Assumes nothing.
use mathlib.Core.Path.{◌≡◌}
use Prim.Native.Nat.{◌+◌, ◌-◌}
use lib.ListN.{take, drop}
use lib.Seq.{sets}
use Rattle.writer.proofs.copy.Given as goal

abbrev pub invariant-loop-i : goal.invariant-loop-i
invariant-loop-i l = sets l.out (l.to + l.i) (take (l.n - l.i) (drop (l.at + l.i) l.from)) ≡ sets l.initial.out l.to (take l.n (drop l.at l.from))

-- `sheet::records::after`: what is left of the pattern decides. Assumes nothing.
use Rattle.std.proofs.Common.{length}
use Rattle.sheet.proofs.Patterns.{Seeking}
use Rattle.sheet.proofs.records.after.Given as goal

abbrev pub invariant-loop-left : goal.invariant-loop-left
invariant-loop-left l = Seeking l.pattern l.class l.left

abbrev pub decreases-loop-left : goal.decreases-loop-left
decreases-loop-left l = length l.left

-- `sheet::limits::limits`: each record decides as `limit_trees` has it, and what is left of the depth falls. Assumes nothing.
use Rattle.std.proofs.Common.{◌-◌}
use Rattle.sheet.specs.Limits.{counts_of}
use Rattle.sheet.proofs.Within.{Limiting}
use Rattle.sheet.proofs.limits.+limits.Given as goal

-- the depth left
abbrev pub decreases-limits : goal.decreases-limits
decreases-limits l = 41 - l.depth

abbrev pub invariant-loop-place : goal.invariant-loop-place
invariant-loop-place l = Limiting l.s l.at l.end l.depth l.place (counts_of l.before)

abbrev pub decreases-loop-place : goal.decreases-loop-place
decreases-loop-place l = l.end - l.place

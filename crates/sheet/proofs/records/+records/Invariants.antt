-- `sheet::records::records`: each record decides as `check_records` has it, and what is left of the bytes falls. Assumes nothing.
use Rattle.std.proofs.Common.{◌-◌}
use Rattle.sheet.proofs.Checks.{Going}
use Rattle.sheet.proofs.records.+records.Given as goal

-- the bytes left
abbrev pub decreases-records : goal.decreases-records
decreases-records l = l.end - l.at

abbrev pub invariant-loop-place : goal.invariant-loop-place
invariant-loop-place l = Going l.s l.at l.end l.pattern l.place l.left

abbrev pub decreases-loop-place : goal.decreases-loop-place
decreases-loop-place l = l.end - l.place

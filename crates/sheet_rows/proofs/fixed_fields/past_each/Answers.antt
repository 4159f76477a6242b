-- `sheet_rows::fixed_fields::past_each`: the fields that are left decide. Assumes nothing.
use Rattle.std.proofs.Common.{arith}
use Rattle.sheet_rows.proofs.Fields.{all_passed, not_passed, passed}
use Rattle.sheet_rows.proofs.fixed_fields.past_each.Goals as goal

pub returns-in_err-place : goal.returns-in_err-place
returns-in_err-place c = rw c.from_residual.ensures (not_passed c.loop-field.invariant _ c.loop-field-test.true c.in_err-place.ensures)

pub loop-field-preserved : goal.loop-field-preserved
loop-field-preserved c = passed c.loop-field.invariant _ c.loop-field-test.true c.in_ok-place.ensures

pub returns : goal.returns
returns c = all_passed c.loop-field.invariant (omega arith)

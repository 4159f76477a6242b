-- `sheet_rows::fixed_fields::past_each`: the fields that are left decide. Assumes nothing.
use Rattle.sheet_rows.proofs.Fields.{Passing}
use Rattle.sheet_rows.proofs.fixed_fields.past_each.Given as goal

abbrev pub invariant-loop-field : goal.invariant-loop-field
invariant-loop-field l = Passing l.s l.at l.stop l.fields l.place l.field-index

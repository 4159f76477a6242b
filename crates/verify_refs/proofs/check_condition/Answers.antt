-- `verify_refs::check_condition`: the value, and its type. Assumes nothing.
use mathlib.Core.Path.{sym, ◌∙◌}
use Rattle.ir.proofs.Exits.{exit}
use Rattle.verify_refs.proofs.Types.{condition_failed, condition_other, condition_fits}
use Rattle.verify_refs.proofs.check_condition.Goals as goal

pub returns-in_err-ty : goal.returns-in_err-ty
returns-in_err-ty c = rw (exit c.from_residual.ensures.1) (condition_failed c.in_err-ty.ensures)

pub returns-then-not-same_type : goal.returns-then-not-same_type
returns-then-not-same_type c = condition_other c.in_ok-ty.ensures (sym c.same_type.ensures ∙ c.if-not-same_type.true)

pub returns : goal.returns
returns c = condition_fits c.in_ok-ty.ensures (sym c.same_type.ensures ∙ c.if-not-same_type.false)

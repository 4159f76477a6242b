-- `verify_refs::check_values`: the first is not defined, or the rest decides. Assumes nothing.
use Rattle.ir.proofs.Exits.{exit}
use Rattle.verify_refs.proofs.Values.{all_left, values_failed, values_passed, values_over}
use Rattle.verify_refs.proofs.check_values.Goals as goal

pub loop-v-init : goal.loop-v-init
loop-v-init c = rw c.into_iter-v-iterator.ensures.into_iter_gives (all_left _)

pub returns-in_err-check_value : goal.returns-in_err-check_value
returns-in_err-check_value c = rw (exit c.from_residual.ensures.1) (values_failed _ _ c.in-Some.ensures.steps.is c.loop-v.invariant c.in_err-check_value.ensures)

pub loop-v-preserved : goal.loop-v-preserved
loop-v-preserved c = values_passed _ _ c.in-Some.ensures.steps.is c.loop-v.invariant c.in_ok-check_value.ensures

pub returns : goal.returns
returns c = values_over c.in-None.ensures.steps.0 c.loop-v.invariant

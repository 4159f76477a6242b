-- `machine_outside::steps::step_store`: both operands, then the run ends. Assumes nothing.
use mathlib.Core.Path.{refl}
use Rattle.definitions.specs.Bench.{step_instr}
use Rattle.machine_state.proofs.Running.{value_is}
use Rattle.machine_state.proofs.Asking.{halts_by, stops}
use Rattle.machine_outside.proofs.steps.step_store.Goals as goal

pub returns-in_err-_a : goal.returns-in_err-_a
unfolding step_instr
returns-in_err-_a c o offset state outside =
    stops (halts_by _ c.in_err-_a.ensures.value c.from_residual.ensures.1) (λ lent frames block depth m R. rw (value_is R _ c.value.ensures c.in_err-_a.ensures.ok_part))

pub returns-in_err-_b : goal.returns-in_err-_b
unfolding step_instr
returns-in_err-_b c o offset state outside =
    stops (halts_by _ c.in_err-_b.ensures.value c.from_residual-in_err-_b.ensures.1)
    (λ lent frames block depth m R. rw (value_is R _ c.value.ensures c.in_ok-_a.ensures.ok_part, value_is R _ c.value-2.ensures c.in_err-_b.ensures.ok_part))

pub returns : goal.returns
unfolding step_instr
returns c o offset state outside =
    stops refl (λ lent frames block depth m R. rw (value_is R _ c.value.ensures c.in_ok-_a.ensures.ok_part, value_is R _ c.value-2.ensures c.in_ok-_b.ensures.ok_part))

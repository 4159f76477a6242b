-- `machine_steps::step_assert`: its operand, then it passes. Assumes nothing.
use Rattle.definitions.specs.Bench.{step_instr}
use Rattle.machine_state.proofs.Running.{value_is}
use Rattle.machine_state.proofs.Asking.{halts_by, goes_on, stops}
use Rattle.machine_steps.proofs.step_assert.Goals as goal

pub returns-in_err-_word : goal.returns-in_err-_word
unfolding step_instr
returns-in_err-_word c o state outside =
    stops (halts_by _ c.in_err-_word.ensures.value c.from_residual.ensures.1) (λ lent frames block depth m R. rw (value_is R _ c.value.ensures c.in_err-_word.ensures.ok_part))

pub returns : goal.returns
unfolding step_instr
returns c o state outside = goes_on (λ lent frames block depth m R. rw (value_is R _ c.value.ensures c.in_ok-_word.ensures.ok_part) R)

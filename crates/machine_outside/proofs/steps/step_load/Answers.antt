-- `machine_outside::steps::step_load`: its base, then the next outside result. Assumes nothing.
use Rattle.definitions.specs.Bench.{step_instr}
use Rattle.machine_state.proofs.Running.{value_is}
use Rattle.machine_state.proofs.Asking.{halts_by, stops}
use Rattle.machine_outside.specs.Outside.{taken_into}
use Rattle.machine_outside.proofs.Taking.{taken}
use Rattle.machine_outside.proofs.steps.step_load.Goals as goal

pub returns-in_err-_word-clause-does : goal.returns-in_err-_word-clause-does
unfolding step_instr
returns-in_err-_word-clause-does c ty offset state =
    stops (halts_by _ c.in_err-_word.ensures.value c.from_residual.ensures.1) (λ lent frames block depth m R. rw (value_is R _ c.value.ensures c.in_err-_word.ensures.ok_part))

pub returns-clause-does : goal.returns-clause-does
unfolding step_instr taken_into
returns-clause-does c ty offset state = taken c.take_outside.ensures.does (λ lent frames block depth m R. rw (value_is R _ c.value.ensures c.in_ok-_word.ensures.ok_part))

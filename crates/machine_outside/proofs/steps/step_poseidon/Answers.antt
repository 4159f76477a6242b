-- `machine_outside::steps::step_poseidon`: both operands, then the next outside result. Assumes nothing.
use Rattle.definitions.specs.Bench.{step_instr}
use Rattle.machine_state.proofs.Running.{value_is}
use Rattle.machine_state.proofs.Asking.{halts_by, stops}
use Rattle.machine_outside.specs.Outside.{taken_into}
use Rattle.machine_outside.proofs.Taking.{taken}
use Rattle.machine_outside.proofs.steps.step_poseidon.Goals as goal

pub returns-in_err-_a-clause-does : goal.returns-in_err-_a-clause-does
unfolding step_instr
returns-in_err-_a-clause-does c state =
    stops (halts_by _ c.in_err-_a.ensures.value c.from_residual.ensures.1) (λ lent frames block depth m R. rw (value_is R _ c.value.ensures c.in_err-_a.ensures.ok_part))

pub returns-in_err-_b-clause-does : goal.returns-in_err-_b-clause-does
unfolding step_instr
returns-in_err-_b-clause-does c state =
    stops (halts_by _ c.in_err-_b.ensures.value c.from_residual-in_err-_b.ensures.1)
    (λ lent frames block depth m R. rw (value_is R _ c.value.ensures c.in_ok-_a.ensures.ok_part, value_is R _ c.value-2.ensures c.in_err-_b.ensures.ok_part))

pub returns-clause-does : goal.returns-clause-does
unfolding step_instr taken_into
returns-clause-does c state =
    taken c.take_outside.ensures.does
    (λ lent frames block depth m R. rw (value_is R _ c.value.ensures c.in_ok-_a.ensures.ok_part, value_is R _ c.value-2.ensures c.in_ok-_b.ensures.ok_part))

-- `machine_steps::step_write_local`: the local takes the value's word. Assumes nothing.
use borrow.Author.Rules.{rules}
use Rattle.definitions.specs.Bench.{step_instr}
use Rattle.machine_state.proofs.Running.{wrote, value_is}
use Rattle.machine_state.proofs.Asking.{halts_by, goes_on, stops}
use Rattle.machine_steps.proofs.step_write_local.Goals as goal

pub returns-in_err-word : goal.returns-in_err-word
unfolding step_instr
returns-in_err-word c o state outside =
    stops (halts_by _ c.in_err-word.ensures.value c.from_residual.ensures.1) (λ lent frames block depth m R. rw (value_is R _ c.value.ensures c.in_err-word.ensures.ok_part))

pub returns : goal.returns
unfolding step_instr
returns c o state outside =
    goes_on (λ lent frames block depth m R.
    rw (value_is R _ c.value.ensures c.in_ok-word.ensures.ok_part, c.write_local.ensures) (wrote R c.args.local.0 c.in_ok-word.word (search rules) c.requires.own))

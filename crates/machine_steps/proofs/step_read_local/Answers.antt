-- `machine_steps::step_read_local`: its result takes the local's word. Assumes nothing.
use borrow.Author.Rules.{rules}
use Rattle.definitions.specs.Bench.{step_instr}
use Rattle.machine_state.proofs.Running.{local_is}
use Rattle.machine_state.proofs.Asking.{halts_by, goes_on, stops, result}
use Rattle.machine_steps.proofs.step_read_local.Goals as goal

pub returns-in_err-word : goal.returns-in_err-word
unfolding step_instr
returns-in_err-word c ty state outside =
    stops (halts_by _ c.in_err-word.ensures.value c.from_residual.ensures.1) (λ lent frames block depth m R. rw (local_is R _ c.local.ensures c.in_err-word.ensures.ok_part))

pub returns : goal.returns
unfolding step_instr
returns c ty state outside =
    goes_on (λ lent frames block depth m R. rw (local_is R _ c.local.ensures c.in_ok-word.ensures.ok_part) (result R c.requires (search rules) c.give.ensures))

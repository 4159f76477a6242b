-- `machine_steps::all_set`: what is left of the values decides for all of them. Assumes nothing.
use Rattle.machine_state.proofs.Asking.{halts_by}
use Rattle.machine_steps.proofs.Operands.{all_to_ask, asked_on, asked_lacks, asked_all}
use Rattle.machine_steps.proofs.all_set.Goals as goal

pub loop-v-init : goal.loop-v-init
loop-v-init c = rw c.into_iter-v-iterator.ensures.into_iter_gives all_to_ask

pub returns-in_err-_word : goal.returns-in_err-_word
returns-in_err-_word c =
    asked_lacks c.loop-v.invariant c.in-Some.ensures.steps.is c.value.ensures c.in_err-_word.ensures.ok_part
    (halts_by _ c.in_err-_word.ensures.value c.from_residual.ensures.1)

pub loop-v-preserved : goal.loop-v-preserved
loop-v-preserved c = asked_on c.loop-v.invariant c.in-Some.ensures.steps.is c.value.ensures c.in_ok-_word.ensures.ok_part

pub returns : goal.returns
returns c = asked_all c.loop-v.invariant c.in-None.ensures.steps.0

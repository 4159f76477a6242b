-- `machine_outside::steps::take_outside`: the next one, if there is one. Assumes nothing.
use mathlib.Core.Path.{refl, ap}
use borrow.Author.Rules.{rules}
use Rattle.definitions.specs.Bench.{take_outside}
use Rattle.machine_state.proofs.Asking.{halts_by, result}
use Rattle.machine_outside.specs.Outside.{left, taken_into}
use Rattle.machine_outside.specs.declared.lent.Outside.{Outside}
use Rattle.machine_outside.proofs.steps.take_outside.Goals as goal

pub returns-in_err-word-clause-does : goal.returns-in_err-word-clause-does
unfolding taken_into take_outside
returns-in_err-word-clause-does c =
    let none_left = rw c.in_err-word.ensures.ok_part at c.next.ensures.steps in
    record {
      run = λ frames state block depth m R. rw (halts_by _ c.in_err-word.ensures.value c.from_residual.ensures.1, R.outside_is, none_left.0) refl;
      kept = λ h z. (refl, ap left none_left.1);
    }

pub returns-clause-does : goal.returns-clause-does
unfolding taken_into take_outside
returns-clause-does c =
    let first = rw c.in_ok-word.ensures.ok_part at c.next.ensures.steps in
    record {
      run = λ frames state block depth m R.
          rw (R.outside_is, first.0)
          (result (record { top = R.top; callers = R.callers; state_is = R.state_is; outside_is = refl; shallow = R.shallow }) c.requires (search rules) c.give.ensures);
      kept = λ h z. cc;
    }

pub returns-in_err-word-clause-uses : goal.returns-in_err-word-clause-uses
returns-in_err-word-clause-uses c =
    let none_left = rw c.in_err-word.ensures.ok_part at c.next.ensures.steps in
    record { words = ap (λ (o : Outside). o.words.now) none_left.1; kept = λ h z. none_left.1 }

pub returns-clause-uses : goal.returns-clause-uses
returns-clause-uses c =
    let first = rw c.in_ok-word.ensures.ok_part at c.next.ensures.steps in
    record { words = first.1; kept = λ h z. cc }

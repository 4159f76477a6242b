-- `machine_steps::step_branch`: the condition, then to one of the blocks. Assumes nothing.
use mathlib.Core.Path.{refl}
use borrow.Author.Tests.{eq-eqb, ne_eqb}
use Rattle.definitions.specs.Bench.{step_terminator}
use Rattle.machine_state.proofs.Running.{value_is}
use Rattle.machine_state.proofs.Asking.{halts_by}
use Rattle.machine_steps.proofs.step_branch.Goals as goal

pub returns-in_err-word : goal.returns-in_err-word
unfolding step_terminator
returns-in_err-word c = record {
  run = λ frames state outside m R. rw (halts_by _ c.in_err-word.ensures.value c.from_residual.ensures.1, value_is R _ c.value.ensures c.in_err-word.ensures.ok_part) refl;
  kept = λ h e. refl;
}

pub returns-then-word-eq0 : goal.returns-then-word-eq0
unfolding step_terminator
returns-then-word-eq0 c = record {
  run = λ frames state outside m R.
      rw (value_is R _ c.value.ensures c.in_ok-word.ensures.ok_part, eq-eqb c.in_ok-word.word 0 c.if-word-eq0.true) (c.go_to.ensures.run c.args.memory.now frames state outside m R);
  kept = c.go_to.ensures.kept;
}

pub returns : goal.returns
unfolding step_terminator
returns c = record {
  run = λ frames state outside m R.
      rw (value_is R _ c.value.ensures c.in_ok-word.ensures.ok_part, ne_eqb c.in_ok-word.word 0 c.if-word-eq0.false) (c.go_to-2.ensures.run c.args.memory.now frames state outside m R);
  kept = c.go_to-2.ensures.kept;
}

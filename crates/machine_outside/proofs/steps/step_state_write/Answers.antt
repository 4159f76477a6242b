-- `machine_outside::steps::step_state_write`: the value, then the slot, which takes its word. Assumes nothing.
use mathlib.Core.Path.{ap}
use mathlib.Core.List.{List}
use Prim.Native.Nat.{ℕ}
use lib.ListN.{set}
use Rattle.definitions.specs.Bench.{step_instr}
use Rattle.ir.proofs.Exits.{exit}
use Rattle.machine_state.proofs.Running.{value_is}
use Rattle.machine_state.proofs.Asking.{halts_by, goes_on, stops}
use Rattle.machine_outside.proofs.steps.step_state_write.Goals as goal

pub returns-in_err-word : goal.returns-in_err-word
unfolding step_instr
returns-in_err-word c o outside =
    stops (halts_by _ c.in_err-word.ensures.value c.from_residual.ensures.1) (λ lent frames block depth m R. rw (value_is R _ c.value.ensures c.in_err-word.ensures.ok_part))

pub returns-in_err-_before : goal.returns-in_err-_before
unfolding step_instr
returns-in_err-_before c o outside =
    stops (exit c.from_residual-in_err-_before.ensures.1)
    (λ lent frames block depth m R. rw (value_is R _ c.value.ensures c.in_ok-word.ensures.ok_part, ← c.in_err-_before.ensures.is.is m R.state_is))

pub returns : goal.returns
unfolding step_instr
returns c o outside =
    goes_on (λ lent frames block depth m R.
    rw (value_is R _ c.value.ensures c.in_ok-word.ensures.ok_part, ← c.in_ok-_before.ensures.is.is m R.state_is)
    (record { top = R.top; callers = R.callers; state_is = ap (λ (x : List ℕ). set x c.args.slot c.in_ok-word.word) R.state_is; outside_is = R.outside_is; shallow = R.shallow }))

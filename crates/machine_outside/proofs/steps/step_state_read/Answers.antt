-- `machine_outside::steps::step_state_read`: the slot, then its result takes its word. Assumes nothing.
use mathlib.Core.Path.{◌≡◌}
use mathlib.Core.Option as maths
use Prim.Native.Nat.{ℕ}
use borrow.Author.Rules.{rules}
use Rattle.definitions.specs.Result as defs
use Rattle.definitions.specs.Result.{◌>>=◌}
use Rattle.definitions.specs.Ir.{IrType, Instruction}
use Rattle.definitions.specs.Bench.{Stop, Machine, Lent, plain_words, state_word, give_result, step_instr}
use Rattle.ir.proofs.Exits.{exit}
use Rattle.machine_state.proofs.Asking.{goes_on, stops, steps_to, result}
use Rattle.machine_outside.proofs.steps.step_state_read.Goals as goal

-- the step, by the slot's word
reads : (lent : Lent) (m : Machine ℕ) (o : maths.Option ℕ) (t : IrType) (slot : ℕ) {x : defs.Result (Stop ℕ) ℕ} → x ≡ state_word m slot
    → step_instr plain_words lent m o (Instruction.StateRead t slot) ≡ (x >>= λ n. defs.ok (give_result o n m))
unfolding step_instr
reads lent m o t slot e = rw (← e)

pub returns-in_err-word : goal.returns-in_err-word
returns-in_err-word c ty outside = stops (exit c.from_residual.ensures.1) (λ lent frames block depth m R. reads lent m _ ty c.args.slot (c.in_err-word.ensures.is.is m R.state_is))

pub returns : goal.returns
returns c ty outside = goes_on (λ lent frames block depth m R. steps_to (reads lent m _ ty c.args.slot (c.in_ok-word.ensures.is.is m R.state_is)) (result R c.requires (search rules) c.give.ensures))

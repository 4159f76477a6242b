-- `machine_steps::step_binary`: the left operand, the right one, then the number. Assumes nothing.
use mathlib.Core.Path.{◌≡◌}
use mathlib.Core.Option as maths
use Prim.Native.Nat.{ℕ}
use borrow.Author.Rules.{rules}
use Rattle.definitions.specs.Result as defs
use Rattle.definitions.specs.Result.{◌>>=◌}
use Rattle.definitions.specs.Ast.{BinOp}
use Rattle.definitions.specs.Ir.{IrType, Instruction}
use Rattle.definitions.specs.Bench.{Stop, Machine, Lent, word_at, plain_words, binary_word, give_result, step_instr}
use Rattle.ir.proofs.Exits.{exit}
use Rattle.machine_state.proofs.Running.{value_is}
use Rattle.machine_state.proofs.Asking.{halts_by, goes_on, stops, steps_to, result}
use Rattle.machine_steps.proofs.step_binary.Goals as goal

-- the step, by the two words and what is computed of them
computes : (lent : Lent) (m : Machine ℕ) (o : maths.Option ℕ) (op : BinOp) (t : IrType) (l r : ℕ) {a b : ℕ} {x : defs.Result (Stop ℕ) ℕ} → word_at l m.top.values ≡ maths.some a → word_at r m.top.values ≡ maths.some b
    → x ≡ binary_word op a b → step_instr plain_words lent m o (Instruction.Binary op t l r) ≡ (x >>= λ n. defs.ok (give_result o n m))
unfolding step_instr
computes lent m o op t l r p q e = rw (p, q, ← e)

pub returns-in_err-a : goal.returns-in_err-a
unfolding step_instr
returns-in_err-a c ty state outside =
    stops (halts_by _ c.in_err-a.ensures.value c.from_residual.ensures.1) (λ lent frames block depth m R. rw (value_is R _ c.value.ensures c.in_err-a.ensures.ok_part))

pub returns-in_err-b : goal.returns-in_err-b
unfolding step_instr
returns-in_err-b c ty state outside =
    stops (halts_by _ c.in_err-b.ensures.value c.from_residual-in_err-b.ensures.1)
    (λ lent frames block depth m R. rw (value_is R _ c.value.ensures c.in_ok-a.ensures.ok_part, value_is R _ c.value-2.ensures c.in_err-b.ensures.ok_part))

pub returns-in_err-word : goal.returns-in_err-word
returns-in_err-word c ty state outside =
    stops (exit c.from_residual-in_err-word.ensures.1)
    (λ lent frames block depth m R. computes lent m _ _ ty _ _ (value_is R _ c.value.ensures c.in_ok-a.ensures.ok_part) (value_is R _ c.value-2.ensures c.in_ok-b.ensures.ok_part) c.in_err-word.ensures)

pub returns : goal.returns
returns c ty state outside =
    goes_on (λ lent frames block depth m R.
    steps_to (computes lent m _ _ ty _ _ (value_is R _ c.value.ensures c.in_ok-a.ensures.ok_part) (value_is R _ c.value-2.ensures c.in_ok-b.ensures.ok_part) c.in_ok-word.ensures)
    (result R c.requires (search rules) c.give.ensures))

-- The arguments of an event lowered one by one, and then the event. Assumes nothing.
use Prim.Native.Nat.{ℕ}
use mathlib.Core.Path.{◌≡◌, ap, ◌∙◌}
use mathlib.Core.List.{List}
use Rattle.definitions.specs.Result.{ok, ◌>>=◌}
use Rattle.definitions.specs.Ast.{Exprs, enil, Contract}
use Rattle.definitions.specs.Ir.{Instruction}
use Rattle.definitions.specs.Lower.{Lowering}
use Rattle.lower_walk.specs.Log.{Log, log_instr}
use Rattle.lower_walk.specs.Held.{Held}
use Rattle.lower_walk.specs.Exprs.{walk_args}
use Rattle.lower_walk.specs.Stmts.{LogCtx, with_log, push_c}
use Rattle.lower_exprs.proofs.ArgSteps.{Going, finishes}

-- the event, with the values of all its arguments
abbrev pub emitted : (event : ℕ) → Held → LogCtx → List ℕ → Log → Lowering (LogCtx × Held)
emitted event E c ids l = ok (with_log (log_instr (Instruction.Emit event ids) l) c, E)

-- the walk of an Emit
abbrev pub walk_emit : Contract → Held → (event : ℕ) → Exprs → LogCtx → Lowering (LogCtx × Held)
walk_emit K E event es c = walk_args K E es c.log >>= λ p. emitted event E c p.1 p.0

-- of the arguments `all`, before which the state is c, `left` are left after the values ids, and the state is d
abbrev pub Emitting : Contract → Held → (event : ℕ) → (all : Exprs) (c : LogCtx) (left : Exprs) (ids : List ℕ) (d : LogCtx) → Type 0
Emitting K E event all c = Going K E (emitted event E c) (walk_emit K E event all c) c

-- none is left, and the event's record is pushed
pub emits : {K : Contract} {E : Held} (event : ℕ) (all : Exprs) {left : Exprs} {c d x : LogCtx} {ids : List ℕ} → Emitting K E event all c left ids d → left ≡ enil → x ≡ push_c (Instruction.Emit event ids) d → ok (x, E) ≡ walk_emit K E event all c
emits {E = E} event all {d = d} {ids = ids} g none pushed =
    ap (λ (x : LogCtx). ok (x, E)) (pushed ∙ ap (with_log (log_instr (Instruction.Emit event ids) d.log)) g.same) ∙ finishes g none

-- Arguments lowered one by one, of a call or an event: their values are collected, and what is left gives what the whole gives.
-- Assumes nothing.
use mathlib.Core.Path.{◌≡◌, refl, ap, sym, ◌∙◌}
use mathlib.Core.List.{List, [], ◌∷◌, ◌++◌, append-nil, append_assoc}
use Prim.Native.Nat.{ℕ, ◌+◌, ◌≤◌}
use native.Mathlib.Omega.{arith}
use lib.ListN.{length, length-append}
use Rattle.definitions.specs.Result.{err, ok, ◌>>=◌}
use Rattle.definitions.specs.Ast.{Expr, Exprs, enil, econs, Contract}
use Rattle.definitions.specs.Ir as defs
use Rattle.definitions.specs.Lower.{LoweringError, Lowering, Value, count}
use Rattle.lower_walk.specs.Held.{Held}
use Rattle.lower_walk.specs.Log.{Log}
use Rattle.lower_walk.specs.Stmts.{LogCtx, with_log}
use Rattle.lower_walk.specs.Exprs.{walk_args, walk_expr_value}
use Rattle.lower_values.specs.Values.{LogAlone}

-- THE LOG ALONE has changed, twice
pub then_alone : (c d e : LogCtx) → LogAlone c d → LogAlone d e → LogAlone c e
then_alone c d e h g = g ∙ ap (with_log e.log) h

-- THE ARGUMENTS that are left, after those whose values are known; then F of all the values
module _ {A : Type 0} (K : Contract) (E : Held) (F : List ℕ → Log → Lowering A) where
  unfoldable pub go_on : Exprs → List ℕ → Log → Lowering A
  go_on es ids c = walk_args K E es c >>= λ p. F (ids ++ p.1) p.0

  go_end : (ids : List ℕ) (c : Log) → go_on enil ids c ≡ F ids c
  unfolding go_on walk_args
  go_end ids c = ap (λ (l : List ℕ). F l c) (append-nil ids)

  abbrev consed : ℕ → Log × List ℕ → Lowering (Log × List ℕ)
  consed v p = ok (p.0, v ∷ p.1)

  after_value : (ids : List ℕ) (v : ℕ) (r : Lowering (Log × List ℕ)) → r >>= consed v >>= (λ p. F (ids ++ p.1) p.0) ≡ r >>= λ p. F (ids ++ (v ∷ []) ++ p.1) p.0
  after_value ids v (err x) = refl
  after_value ids v (ok p) = ap (λ (l : List ℕ). F l p.0) (sym (append_assoc ids (v ∷ []) p.1))

  -- the first of them, given what came of it
  first_then : Exprs → List ℕ → Lowering (Log × Value) → Lowering A
  first_then es ids r = r >>= (λ p. walk_args K E es p.0 >>= consed p.1.0) >>= λ p. F (ids ++ p.1) p.0

  go_first : (e : Expr) (es : Exprs) (ids : List ℕ) (c : Log) → go_on (econs e es) ids c ≡ first_then es ids (walk_expr_value K E e c)
  unfolding go_on walk_args walk_expr_value first_then
  go_first e es ids c = refl

  go_value : (e : Expr) (es : Exprs) (ids : List ℕ) (c x : Log) (v : ℕ) (t : defs.IrType) → ok (x, (v, t)) ≡ walk_expr_value K E e c → go_on (econs e es) ids c ≡ go_on es (ids ++ (v ∷ [])) x
  unfolding go_on first_then
  go_value e es ids c x v t h = go_first e es ids c ∙ (ap (first_then es ids) (sym h) ∙ after_value ids v (walk_args K E es x))

  go_refused : (e : Expr) (es : Exprs) (ids : List ℕ) (c : Log) (x : LoweringError) → err x ≡ walk_expr_value K E e c → go_on (econs e es) ids c ≡ err x
  unfolding first_then
  go_refused e es ids c x h = go_first e es ids c ∙ ap (first_then es ids) (sym h)

-- THE LOOP: `es` are the arguments that are left, `ids` the values of those before them, it all gives R, and but for the log the state is as
-- it was before them
pub record Going {A : Type 0} (K : Contract) (E : Held) (F : List ℕ → Log → Lowering A) (R : Lowering A) (c₀ : LogCtx) (es : Exprs) (ids : List ℕ) (c : LogCtx) : Type 0 where
  pub few : length ids + count es ≤ 16
  pub is : go_on K E F es ids c.log ≡ R
  pub same : LogAlone c₀ c

-- before the first of them
pub begins : {A : Type 0} {K : Contract} {E : Held} {F : List ℕ → Log → Lowering A} {R : Lowering A} {es : Exprs} {vs : List ℕ} {c : LogCtx} → count es ≤ 16 → vs ≡ [] → (walk_args K E es c.log >>= λ p. F p.1 p.0) ≡ R → Going K E F R c es vs c
unfolding go_on
begins few none h = rw none (record { few = omega (arith, few); is = h; same = refl })

module _ {A : Type 0} {K : Contract} {E : Held} {F : List ℕ → Log → Lowering A} {R : Lowering A} {c₀ : LogCtx} {es : Exprs} {ids : List ℕ} {c : LogCtx} (g : Going K E F R c₀ es ids c) where
  -- there is none left
  pub finishes : es ≡ enil → F ids c.log ≡ R
  finishes h = sym (go_end K E F ids c.log) ∙ (ap (λ (es : Exprs). go_on K E F es ids c.log) (sym h) ∙ g.is)

  module _ {e : Expr} {rest : Exprs} (h : es ≡ econs e rest) where
    reached : go_on K E F (econs e rest) ids c.log ≡ R
    reached = ap (λ (es : Exprs). go_on K E F es ids c.log) (sym h) ∙ g.is

    -- it has a value
    pub goes_on : {d : LogCtx} {v : ℕ} {t : defs.IrType} → ok (d.log, (v, t)) ≡ walk_expr_value K E e c.log → LogAlone c d → Going K E F R c₀ rest (ids ++ (v ∷ [])) d
    goes_on {d} {v} {t} w same = record {
      few = rw length-append (omega (arith, g.few, ap count h));
      is = sym (go_value K E F e rest ids c.log d.log v t w) ∙ reached;
      same = then_alone c₀ c d g.same same;
    }

    -- it is refused
    pub refuses : {x : LoweringError} → err x ≡ walk_expr_value K E e c.log → err x ≡ R
    refuses {x} w = sym (go_refused K E F e rest ids c.log x w) ∙ reached

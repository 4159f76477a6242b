-- A call whose arguments are lowered: what is left of it before the first of them. Assumes nothing.
use mathlib.Core.Path.{◌≡◌, refl, ap, sym, ◌∙◌}
use mathlib.Core.List.{List, []}
use Prim.Native.Nat.{ℕ, ◌≤◌}
use Rattle.definitions.specs.Result.{ok, ◌>>=◌}
use Rattle.definitions.specs.Ast.{Exprs, Contract}
use Rattle.definitions.specs.Lower.{Lowering, count}
use Rattle.format.specs.declared.program.ContextKind.{ContextKind}
use Rattle.lower_walk.specs.Held.{Held}
use Rattle.lower_walk.specs.Log.{Log}
use Rattle.lower_walk.specs.Stmts.{LogCtx}
use Rattle.lower_walk.specs.Exprs.{Called, resolve, finish_call, with_arguments, walk_call, walk_args}
use Rattle.lower_values.specs.declared.calls.Called as calls
use Rattle.lower_values.specs.declared.calls.Called.TheVariants as called
use Rattle.lower_values.specs.Values.{called_of}
use Rattle.lower_exprs.specs.Calls.{call_of}
use Rattle.lower_exprs.proofs.ArgSteps.{Going, begins}

-- of what is no read of the context, the arguments come first
not_context : (d : calls.Called) (walk_arguments : Log → Lowering (Log × List ℕ)) (c : Log) → ((k : ContextKind) → d ≡ called.Context k → ⊥) → with_arguments (called_of d) walk_arguments c ≡ (walk_arguments c >>= λ (p : Log × List ℕ). finish_call (called_of d) p.1 p.0)
not_context (called.Context k) walk_arguments c h = absurd (h k refl)
not_context called.Poseidon walk_arguments c h = refl
not_context (called.User f t) walk_arguments c h = refl

pub call_starts : (K : Contract) (E : Held) (n : ℕ) (es : Exprs) (c : LogCtx) {many : ℕ} {d : calls.Called} {vs : List ℕ} → many ≡ count es → count es ≤ 16 → ok (called_of d) ≡ resolve K n many → ((k : ContextKind) → d ≡ called.Context k → ⊥) → vs ≡ []
    → Going K E (finish_call (called_of d)) (call_of K E n es c.log) c es vs c
unfolding walk_call
call_starts K E n es c {d = d} many_is few w other none =
    let arguments = λ (b : Log). walk_args K E es b in
    begins few none (sym (not_context d arguments c.log other) ∙ ap (λ (r : Lowering Called). r >>= λ d. with_arguments d arguments c.log) (w ∙ ap (resolve K n) many_is))

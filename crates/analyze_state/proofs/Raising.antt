-- `ok_or` on what was looked up: it is there, or the error is raised. Assumes nothing.
use mathlib.Core.Path.{◌≡◌, refl, ap, ◌∙◌}
use Rattle.std.specs.Prelude.{Option, None, Some, Result}
use Rattle.std.specs.Option.{ok_or}
use Rattle.std.proofs.Math.Option as maths
use Rattle.definitions.specs.Result.{ok_or_else}
use Rattle.ir.specs.Answers.{option_of, result_of}
use Rattle.analyze_state.specs.Errors.{error_of}
use Rattle.analyze_state.specs.declared.SemaError.{SemaError}

pub raised : {A B : Type 0} (f : A → B) (o : Option A) (x : SemaError) {b : maths.Option B} {r : Result A SemaError} → option_of f o ≡ b → r ≡ ok_or o x → result_of error_of f r ≡ ok_or_else b (error_of x)
raised {A} f o x q e = ap (result_of error_of f) e ∙ (both o ∙ ap (λ b. ok_or_else b (error_of x)) q)
  where
    both : (o : Option A) → result_of error_of f (ok_or o x) ≡ ok_or_else (option_of f o) (error_of x)
    both None = refl
    both (Some a) = refl

-- A list of expressions: what is left of it gives what all of it gives. Assumes nothing.
use mathlib.Core.Path.{◌≡◌, refl, ap, sym, ◌∙◌}
use mathlib.Core.List.{List, ◌∷◌}
use Rattle.definitions.specs.Result.{err, ok, ◌>>=◌, ◌>>◌}
use Rattle.definitions.specs.Ast.{Expr, Exprs, enil, econs, Contract}
use Rattle.definitions.specs.Analyze.{Ty, Env}
use Rattle.analyze_walk.specs.Stops.{Checking, check_expr, check_arguments}
use Rattle.analyze_simple.specs.Checked.{args_checked}

module _ (K : Contract) (env : Env) {es : Exprs} {R : Checking Env} (is : args_checked K env es ≡ R) where
  pub none_left : es ≡ enil → ok env ≡ R
  unfolding check_expr
  none_left h = ap (args_checked K env) (sym h) ∙ is

  module _ {e : Expr} {rest : Exprs} (h : es ≡ econs e rest) where
    abbrev of_first : Checking Ty → Checking Env
    of_first r = (r >>= λ ty. check_arguments K env rest >>= λ tys. ok (ty ∷ tys)) >> ok env

    pub first_is : {r : Checking Ty} → r ≡ check_expr K env e → of_first r ≡ R
    unfolding check_expr
    first_is w = ap of_first w ∙ (ap (args_checked K env) (sym h) ∙ is)

    dropped : (t : Ty) (r : Checking (List Ty)) → ((r >>= λ tys. ok (t ∷ tys)) >> ok env) ≡ (r >> ok env)
    dropped t (err x) = refl
    dropped t (ok tys) = refl

    pub first_typed : {t : Ty} → ok t ≡ check_expr K env e → args_checked K env rest ≡ R
    first_typed {t} w = sym (dropped t (check_arguments K env rest)) ∙ first_is w

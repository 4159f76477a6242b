-- Calls, over the definitions alone: whether the arguments fit is one Bool, which is carried on an argument at a time. Assumes nothing.
use mathlib.Core.Path.{◌≡◌, refl, ap, sym, ◌∙◌}
use mathlib.Core.Bool.{Bool, true, false, not, ◌&&◌, and_assoc, and-true}
use mathlib.Core.List.{List, [], ◌∷◌, ◌++◌}
use mathlib.Core.Option.{Option, none, some}
use Prim.Native.Nat.{ℕ}
use lib.Dec.{eqb}
use lib.ListN.{length}
use Rattle.definitions.specs.Result.{◌>>◌, ok, Done, check}
use Rattle.definitions.specs.Ir.{IrType}
use Rattle.definitions.specs.Analyze.{Ty, known, Signature, differs}
use Rattle.analyze_walk.specs.Stops.{Checking, sema, refuse_if, agree, call}
use Rattle.analyze_exprs.specs.Calls.{nth_ty, param_ty, fitting, params_fitting, finished}

-- THE CHECK of the types is one test
one_check : (p : ℕ) (d f : Bool) (A : Checking Done) → A ≡ check f (sema p 11) → (refuse_if d (sema p 11) >> A) ≡ check (not d && f) (sema p 11)
one_check p true f A e = refl
one_check p false f A e = e

pub agreed : (p : ℕ) (params : List IrType) (acts : List Ty) → agree p params acts ≡ check (fitting params acts) (sema p 11)
unfolding agree fitting
agreed p [] acts = refl
agreed p (t ∷ ts) [] = refl
agreed p (t ∷ ts) (a ∷ acts) = one_check p (differs (known t) a) (fitting ts acts) (agree p ts acts) (agreed p ts acts)

-- THE CALL, by the count of its arguments and that test
pub called : (p : ℕ) (sig : Option Signature) (acts : List Ty) → call p sig acts ≡ finished p sig (length acts) (params_fitting sig acts)
unfolding call
called p none acts = refl
called p (some (params, ret)) acts = ap (λ (A : Checking Done). check (eqb (length params) (length acts)) (sema p 10) >> (A >> ok (known ret))) (agreed p params acts)

-- ONE ARGUMENT MORE
pub no_argument : (params : List IrType) → fitting params [] ≡ true
unfolding fitting
no_argument [] = refl
no_argument (t ∷ ts) = refl

pub one_more : (params : List IrType) (acts : List Ty) (t : Ty) → fitting params (acts ++ (t ∷ [])) ≡ (fitting params acts && not (differs (nth_ty params (length acts)) t))
unfolding fitting
one_more [] acts t = refl
one_more (e ∷ es) [] t = ap (λ (b : Bool). not (differs (known e) t) && b) (no_argument es) ∙ and-true (not (differs (known e) t))
one_more (e ∷ es) (a ∷ acts) t = ap (λ (b : Bool). not (differs (known e) a) && b) (one_more es acts t) ∙ sym (and_assoc (not (differs (known e) a)) (fitting es acts) (not (differs (nth_ty es (length acts)) t)))

-- the same of what is called
pub no_argument_of : (sig : Option Signature) → params_fitting sig [] ≡ true
no_argument_of none = refl
no_argument_of (some s) = no_argument s.0

pub one_more_of : (sig : Option Signature) (acts : List Ty) (t : Ty) → params_fitting sig (acts ++ (t ∷ [])) ≡ (params_fitting sig acts && not (differs (param_ty sig (length acts)) t))
one_more_of none acts t = refl
one_more_of (some s) acts t = one_more s.0 acts t

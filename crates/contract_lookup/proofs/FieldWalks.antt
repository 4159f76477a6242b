-- The fields of a struct as the code walks over them: the position of the first of a name, and the last of a name. Assumes nothing.
use mathlib.Core.Path.{◌≡◌, refl, ap, sym, ◌∙◌, subst}
use mathlib.Core.Bool.{Bool, true, false, cond}
use mathlib.Core.List.{List, [], ◌∷◌, reverse, reverse-append, reverse-cons}
use mathlib.Core.Option.{Option, none, some}
use Prim.Native.Nat.{ℕ, suc}
use native.Mathlib.Numerals.{add-one}
use lib.Dec.{eqb}
use lib.ListN.{length}
use Rattle.std.specs.Prelude.{Option as Maybe, None, Some}
use Rattle.std.specs.Iterator.Adapters.{rev_source, rev_steps}
use Rattle.std.specs.List.{position_from, find}
use Rattle.std.specs.Option.{MatchOption, IsSomeAnd, option_map, option_or}
use Rattle.std.proofs.lemmas.Iterator.{YieldsList}
use Rattle.std.proofs.lemmas.Option.{none-some, same_Some}
use Rattle.std.proofs.lemmas.Iterator.Consumers.{YieldsList-from_shown}
use Rattle.std.proofs.lemmas.List.Folds.{find-append}
use Rattle.definitions.specs.Ast.{Param}
use Rattle.definitions.specs.Names.{first_named, last_named, or_this}
use Rattle.definitions.specs.Sema.{from_str}
use Rattle.definitions.proofs.Results.{by_test}
use Rattle.ir.specs.Answers.{option_of}
use Rattle.ir.specs.Types.{as_type}
use Rattle.ir.specs.declared.IrType.{IrType}
use Rattle.contract_nodes.specs.Nodes.{params_left, TakesNextParam, TakesLastParam}
use Rattle.contract_nodes.specs.declared.contract.Param.{Param as Field}
use Rattle.contract_nodes.specs.declared.contract.ParamIter.{ParamIter}
use Rattle.contract_lookup.specs.Answers.{type_in, field_type_named}

abbrev pub field_of : Field → Param
field_of f = record { name = f.name.0; ty = f.ty.0 }

-- a walk gives the fields in order
pub walk : (w : ParamIter) → YieldsList TakesNextParam field_of w (params_left w)
walk w = YieldsList-from_shown TakesNextParam field_of params_left (λ s t p. ap length p) (λ s x t p. p.is) w

-- and from the end on
pub walk_back : {s : _} (w : ParamIter) → rev_source s ≡ w → YieldsList (rev_steps TakesLastParam) field_of s (reverse (params_left w))
walk_back {s} w e = subst (λ (v : ParamIter). YieldsList (rev_steps TakesLastParam) field_of s (reverse (params_left v))) e
    (YieldsList-from_shown (rev_steps TakesLastParam) field_of (λ u. reverse (params_left (rev_source u))) (λ u t p. ap (λ (ps : List Param). length (reverse ps)) p)
    (λ u x t p. ap reverse p.is ∙ reverse-append (params_left (rev_source t)) (field_of x ∷ [])) s)

abbrev pub has : ℕ → Param → Bool
has n p = eqb p.name n

abbrev name_of : Param → ℕ
name_of p = p.name

-- THE FIRST
pub first_is : (n i : ℕ) (ps : List Param) → option_of (λ i. i) (position_from (has n) i ps) ≡ first_named name_of i ps n
first_is n i [] = refl
first_is n i (p ∷ ps) =
    by_test (has n p)
    (λ q. rw (q, first_named))
    (λ q. rw (q, first_named, add-one) (first_is n (suc i) ps))

-- THE LAST, from the end on
abbrev field_in : Option (ℕ × Param) → Maybe Param
field_in (some p) = Some p.1
field_in none = None

from_end : (n i : ℕ) (ps : List Param) → find (has n) (reverse ps) ≡ field_in (last_named name_of i ps n)
from_end n i [] = refl
from_end n i (p ∷ ps) = rw (reverse-cons p ps, find-append (has n) (reverse ps) (p ∷ []), from_end n (suc i) ps) (later (last_named name_of (suc i) ps n) (has n p))
  where
    later : (k : Option (ℕ × Param)) (b : Bool) → option_or (field_in k) (cond b (Some p) None) ≡ field_in (or_this k b (i, p))
    later (some k) b = refl
    later none true = refl
    later none false = refl

typed : (r : Maybe Field) (k : Option (ℕ × Param)) (t : Maybe IrType) → option_map field_of r ≡ field_in k → MatchOption r (t ≡ None) (λ f. IsSomeAnd t (λ y. as_type y ≡ from_str f.ty.0)) → option_of as_type t ≡ type_in k
typed None none t e m = ap (option_of as_type) m
typed None (some x) t e m = absurd (none-some x.1 e)
typed (Some f) none t e m = absurd (none-some (field_of f) (sym e))
typed (Some f) (some x) None e m = absurd m
typed (Some f) (some x) (Some y) e m = ap some (m ∙ ap (λ (p : Param). from_str p.ty) (same_Some (field_of f) x.1 e))

-- the first from the end that has the name, and its type
pub last_typed : (n : ℕ) (ps : List Param) (r : Maybe Field) (t : Maybe IrType) → option_map field_of r ≡ find (has n) (reverse ps) → MatchOption r (t ≡ None) (λ f. IsSomeAnd t (λ y. as_type y ≡ from_str f.ty.0)) → option_of as_type t ≡ field_type_named ps n
unfolding field_type_named
last_typed n ps r t is m = typed r (last_named name_of 0 ps n) t (is ∙ from_end n 0 ps) m

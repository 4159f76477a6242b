-- References to values: defined or not, and of what type. Assumes nothing.
use mathlib.Core.Path.{◌≡◌, refl}
use mathlib.Core.List.{List, [], ◌∷◌}
use mathlib.Core.Option.{Option, none, some}
use Prim.Native.Nat.{ℕ}
use Rattle.std.specs.Prelude.{Option as Option', None, Some, Ok, Err}
use Rattle.std.specs.Option.{ok_or}
use Rattle.definitions.specs.Result.{err, ok, ◌>>◌, map_err}
use Rattle.definitions.specs.Ir as ir
use Rattle.definitions.specs.Verify.{VerifyError, Checked, Defined, defined_type, check_value_ref, check_value_refs}
use Rattle.ir.specs.Types.{as_type}
use Rattle.ir.specs.Answers.{option_of}
use Rattle.ir.specs.declared.IrType.{IrType}
use Rattle.program_nodes.specs.Definitions.{Definition, type_of_definition, first_type}
use Rattle.program_nodes.specs.Nodes.{definitions_of}
use Rattle.program_nodes.specs.declared.program.Function.{Function}
use Rattle.verify_state.specs.Errors.{error_of, in_function}
use Rattle.verify_state.specs.Promises.{Agree, SameTable, Checks}
use Rattle.verify_state.specs.declared.VerifyError.{VerifyError as Fault}
use Rattle.verify_state.proofs.Steps.{Leads, lead_over, lead_failed, lead_passed}
use Rattle.verify_refs.specs.Promises.{Finds}

-- the table has the type that the search gives
agrees : (o : Option Definition) (d : Option ir.IrType) → Agree o d → type_of_definition o ≡ d
agrees none none h = refl
agrees none (some t) h = absurd h
agrees (some e) none h = absurd h
agrees (some e) (some t) h = h

module _ (f : Function) (v : ℕ) where
  finds_type : (t : IrType) → some (as_type t) ≡ first_type v (definitions_of f) → Finds f v (Ok t)
  finds_type t e = record { finds = λ ds S. rw (← agrees _ (defined_type v ds) (S v), ← e, check_value_ref) }

  finds_none : (x : Fault) → error_of x ≡ (f.name.0, VerifyError.UndefinedValue v) → none ≡ first_type v (definitions_of f) → Finds f v (Err x)
  finds_none x z e = record { finds = λ ds S. rw (← agrees _ (defined_type v ds) (S v), ← e, check_value_ref, z) }

  pub finds : (o : Option' IrType) (x : Fault) → error_of x ≡ (f.name.0, VerifyError.UndefinedValue v) → option_of as_type o ≡ first_type v (definitions_of f) → Finds f v (ok_or o x)
  finds None x z e = finds_none x z e
  finds (Some t) x z e = finds_type t e

-- what that says of a check
abbrev pair : ℕ → VerifyError → ℕ × VerifyError
pair n y = (n, y)

found_err : {A : Type 0} {x : ℕ × VerifyError} (n : ℕ) (r : Checked A) → err x ≡ map_err (λ (y : VerifyError). pair n y) r → err x ≡ in_function n r
found_err n (err y) e = cc
found_err n (ok a) e = cc

found_ok : {A : Type 0} {a : A} (n : ℕ) (r : Checked A) → ok a ≡ map_err (λ (y : VerifyError). pair n y) r → r ≡ ok a
found_ok n (err y) e = cc
found_ok n (ok b) e = cc

module _ {f : Function} {v : ℕ} where
  pub value_failed : {x : Fault} → Finds f v (Err x) → Checks f (err (error_of x)) (check_value_ref v)
  value_failed F = record { says = λ ds S. found_err f.name.0 (check_value_ref v ds) (F.finds ds S) }

  pub value_is : {t : IrType} → Finds f v (Ok t) → (ds : Defined) → SameTable ds (definitions_of f) → check_value_ref v ds ≡ ok (as_type t)
  value_is F ds S = found_ok f.name.0 (check_value_ref v ds) (F.finds ds S)

  pub value_passed : {t : IrType} → Finds f v (Ok t) → Checks f (ok tt) (check_value_ref v)
  value_passed F = record { says = λ ds S. rw (value_is F ds S) }

-- LISTS OF VALUES: the first decides, or leaves it to the rest
pub all_left : {f : Function} (vs : List ℕ) → Leads f (check_value_refs vs) (check_value_refs vs)
all_left vs = record { same = λ ds S. refl }

module _ {A : Type 0} {f : Function} {whole : Defined → Checked A} {vs : List ℕ} (v : ℕ) (ws : List ℕ) (e : vs ≡ v ∷ ws) (L : Leads f whole (check_value_refs vs)) where
  from_value : Leads f whole (λ (ds : Defined). check_value_ref v ds >> check_value_refs ws ds)
  unfolding check_value_refs
  from_value = rw e at L

  pub values_failed : {x : Fault} → Finds f v (Err x) → Checks f (err (error_of x)) whole
  values_failed F = lead_failed (check_value_ref v) (check_value_refs ws) from_value (value_failed F)

  pub values_passed : {t : IrType} → Finds f v (Ok t) → Leads f whole (check_value_refs ws)
  values_passed F = lead_passed (check_value_ref v) (check_value_refs ws) from_value (value_passed F)

pub values_over : {A : Type 0} {f : Function} {whole : Defined → Checked A} {vs : List ℕ} → vs ≡ [] → Leads f whole (check_value_refs vs) → Checks f (ok tt) whole
unfolding check_value_refs
values_over e L = lead_over (rw e at L) (record { says = λ ds S. refl })

-- A part of the check that failed or passed, and what follows it. Assumes nothing.
use mathlib.Core.Path.{◌≡◌, refl, sym, ◌∙◌}
use Prim.Native.Nat.{ℕ}
use Rattle.definitions.specs.Result.{err, ok, ◌>>=◌, ◌>>◌, map_err, Done}
use Rattle.definitions.specs.Verify.{VerifyError, Checked, Defined}
use Rattle.program_nodes.specs.Nodes.{definitions_of}
use Rattle.program_nodes.specs.declared.program.Function.{Function}
use Rattle.verify_state.specs.Errors.{Outcome, in_function}
use Rattle.verify_state.specs.Promises.{SameTable, Says, Checks}

pub failed : {A B : Type 0} {x : ℕ × VerifyError} (n : ℕ) (r : Checked A) (k : A → Checked B) → err x ≡ in_function n r → err x ≡ in_function n (r >>= k)
failed n (err y) k e = e
failed n (ok a) k e = cc

pub passed : {A : Type 0} (n : ℕ) (r : Checked A) → ok tt ≡ in_function n r → (a : A) × (r ≡ ok a)
passed n (err y) e = cc
passed n (ok a) e = (a, refl)

pub goes_on : {A B : Type 0} (n : ℕ) (r : Checked A) (k : A → Checked B) (a : A) → r ≡ ok a → in_function n (r >>= k) ≡ in_function n (k a)
goes_on n r k a e = rw e

-- the same for a part that gives nothing
pub failed_then : {A B : Type 0} {x : ℕ × VerifyError} (n : ℕ) (r : Checked A) (k : Checked B) → err x ≡ in_function n r → err x ≡ in_function n (r >> k)
failed_then n (err y) k e = e
failed_then n (ok a) k e = cc

pub passed_then : {A B : Type 0} (n : ℕ) (r : Checked A) (k : Checked B) → ok tt ≡ in_function n r → in_function n (r >> k) ≡ in_function n k
passed_then n (err y) k e = cc
passed_then n (ok a) k e = refl

-- `map_err` with the function's name
pub mapped : (n : ℕ) (r : Checked Done) → map_err (λ (x : VerifyError). (n, x)) r ≡ in_function n r
mapped n (err x) = refl
mapped n (ok tt) = refl

-- WITH A FUNCTION'S TABLE: what is left says what the whole says
pub record Leads {A B : Type 0} (f : Function) (whole : Defined → Checked A) (left : Defined → Checked B) : Type 0 where
  pub same : (ds : Defined) → SameTable ds (definitions_of f) → in_function f.name.0 (left ds) ≡ in_function f.name.0 (whole ds)

module _ {A B : Type 0} {f : Function} {whole : Defined → Checked A} {left : Defined → Checked B} (L : Leads f whole left) where
  pub lead_over : {r : Outcome} → Checks f r left → Checks f r whole
  lead_over h = record { says = λ ds S. h.says ds S ∙ L.same ds S }

module _ {A B C : Type 0} {f : Function} {whole : Defined → Checked A} (first : Defined → Checked B) (rest : Defined → Checked C) (L : Leads f whole (λ (ds : Defined). first ds >> rest ds)) where
  pub lead_failed : {x : ℕ × VerifyError} → Checks f (err x) first → Checks f (err x) whole
  lead_failed h = record { says = λ ds S. failed_then f.name.0 (first ds) (rest ds) (h.says ds S) ∙ L.same ds S }

  pub lead_passed : Checks f (ok tt) first → Leads f whole rest
  lead_passed h = record { same = λ ds S. sym (passed_then f.name.0 (first ds) (rest ds) (h.says ds S)) ∙ L.same ds S }

-- a part that no table is asked for
pub says_all : {A : Type 0} {f : Function} {r : Outcome} (x : Checked A) → Says f r x → Checks f r (λ (ds : Defined). x)
says_all x e = record { says = λ ds S. e }

-- Taking a computed `Result` apart. Assumes nothing.
use Prim.Native.Nat.{ℕ, zero, suc, ◌+◌, ◌≤◌, ◌<◌}
use mathlib.Core.Path.{◌≡◌, refl, sym, ap, ◌∙◌}
use mathlib.Core.Bool.{Bool, true, false, ◌&&◌}
use mathlib.Core.List.{List, [], ◌∷◌}
use mathlib.Core.Option.{Option, none, some}
use native.Mathlib.Omega.{arith}
use lib.Dec.{eqb}
use borrow.Author.Tests.{eqb-true, eqb-false}
use lib.ListN.{length, take}
use Rattle.definitions.specs.Names.{or_this, last_named, first_named}
use Rattle.definitions.specs.Answers.{padded}
use Rattle.definitions.specs.Result.{Result, err, ok, ◌>>=◌, ◌>>◌, ok_or_else, check}

pub some_none : {A : Type 0} (a : A) → some a ≡ none → ⊥
some_none a e = let z : ◌≡◌ {A = ℕ} 0 1 = cc in omega arith

pub ok_inj : {E A : Type 0} {a b : A} → ◌≡◌ {A = Result E A} (ok a) (ok b) → a ≡ b
ok_inj e = cc

pub err_ok : {E A : Type 0} {x : E} {b : A} → ◌≡◌ {A = Result E A} (err x) (ok b) → ⊥
err_ok e = let z : ◌≡◌ {A = ℕ} 0 1 = cc in omega arith

-- a test, with its equation in each of the two cases
pub by_test : {G : Type 0} (t : Bool) → (t ≡ true → G) → (t ≡ false → G) → G
by_test true y n = y refl
by_test false y n = n refl

-- two numbers, likewise
pub by_eq : {G : Type 0} (a b : ℕ) → (a ≡ b → G) → ((a ≡ b → ⊥) → G) → G
by_eq a b same other = by_test (eqb a b) (λ q. same (eqb-true a b q)) (λ q. other (eqb-false a b q))

pub both_true : (a b : Bool) → (a && b) ≡ true → a ≡ true
both_true true b e = refl
both_true false b e = e

-- what is said of a value by a reading of it, said of the value that it was found to be
pub told : {A B : Type 0} (f : A → B) {x y : A} {z : B} → x ≡ y → f x ≡ z → f y ≡ z
told f q e = sym (ap f q) ∙ e

-- What was found is handed to the rest of the proof, which then speaks of variables.
pub taking : {E A B G : Type 0} (r : Result E A) (k : A → Result E B) {b : B} → (r >>= k) ≡ ok b → ((a : A) → r ≡ ok a → k a ≡ ok b → G) → G
taking (err x) k e rest = absurd (err_ok e)
taking (ok a) k e rest = rest a refl e

pub taking_then : {E A B G : Type 0} (r : Result E A) (k : Result E B) {b : B} → (r >> k) ≡ ok b → ((a : A) → r ≡ ok a → k ≡ ok b → G) → G
taking_then (err x) k e rest = absurd (err_ok e)
taking_then (ok a) k e rest = rest a refl e

pub taking_some : {E A B G : Type 0} (o : Option A) (x : E) (k : A → Result E B) {b : B} → (ok_or_else o x >>= k) ≡ ok b → ((a : A) → o ≡ some a → k a ≡ ok b → G) → G
taking_some none x k e rest = absurd (err_ok e)
taking_some (some a) x k e rest = rest a refl e

pub taking_check : {E B G : Type 0} (t : Bool) (x : E) (k : Result E B) {b : B} → (check t x >> k) ≡ ok b → (t ≡ true → k ≡ ok b → G) → G
taking_check true x k e rest = rest refl e
taking_check false x k e rest = absurd (err_ok e)

-- the position of a row that was found by name
pub last_below : {A : Type 0} (name : A → ℕ) (i : ℕ) (rs : List A) (n : ℕ) (r : ℕ × A) → last_named name i rs n ≡ some r → r.0 < i + length rs
last_below name i [] n r e = absurd (some_none r (sym e))
last_below {A} name i (a ∷ rs) n r e = go (last_named name (suc i) rs n) (eqb (name a) n) e (λ h. last_below name (suc i) rs n r h)
  where
    go : (o : Option (ℕ × A)) (t : Bool) → or_this o t (i, a) ≡ some r → (o ≡ some r → r.0 < suc i + length rs) → r.0 < i + length (a ∷ rs)
    go (some s) t e below = omega (arith, below e)
    go none true e below = let y : i ≡ r.0 = cc in omega arith
    go none false e below = absurd (some_none r (sym e))

pub first_below : {A : Type 0} (name : A → ℕ) (i : ℕ) (rs : List A) (n k : ℕ) → first_named name i rs n ≡ some k → k < i + length rs
first_below name i [] n k e = absurd (some_none k (sym e))
first_below name i (a ∷ rs) n k e =
    by_test (eqb (name a) n)
    (λ q. let y : some i ≡ some k = rw (q, first_named) at e in let z : i ≡ k = cc in omega arith)
    (λ q. omega (arith, first_below name (suc i) rs n k (rw (q, first_named) at e)))

-- what is written stands at the output's start
pub take_padded : (n : ℕ) (l : List ℕ) → length l ≤ n → take (length l) (padded n l) ≡ l
take_padded n [] h = refl
take_padded zero (x ∷ l) h = absurd (omega arith)
take_padded (suc n) (x ∷ l) h = ap (λ (r : List ℕ). x ∷ r) (take_padded n l (omega arith))

-- The last row of a name from the end on: the last row has the name and serves, or what is before it gives the same. Assumes nothing.
use mathlib.Core.Path.{◌≡◌, ap}
use mathlib.Core.List.{List, [], ◌∷◌, ◌++◌}
use mathlib.Core.Option.{some}
use Prim.Native.Nat.{ℕ, suc, ◌+◌}
use native.Mathlib.Nat.{add-zero}
use native.Mathlib.Omega.{arith}
use lib.ListN.{length}
use borrow.Author.Tests.{eq-eqb, ne_eqb}
use Rattle.definitions.specs.Names.{last_named}

module _ {A : Type 0} (name : A → ℕ) (t : A) (n : ℕ) where
  pub last_here : name t ≡ n → (i : ℕ) (ts : List A) → last_named name i (ts ++ (t ∷ [])) n ≡ some (i + length ts, t)
  last_here q i [] = rw (eq-eqb (name t) n q, add-zero)
  last_here q i (u ∷ ts) = rw (last_here q (suc i) ts) (ap (λ (k : ℕ). some (k, t)) (omega arith))

  pub last_not : (name t ≡ n → ⊥) → (i : ℕ) (ts : List A) → last_named name i (ts ++ (t ∷ [])) n ≡ last_named name i ts n
  last_not q i [] = rw (ne_eqb (name t) n q)
  last_not q i (u ∷ ts) = rw (last_not q (suc i) ts)

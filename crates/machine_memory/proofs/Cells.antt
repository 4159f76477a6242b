-- What a cell holds after a store: the cell itself, and every cell apart from it. Assumes nothing.
use mathlib.Core.Path.{◌≡◌, refl, ◌∙◌}
use mathlib.Core.List.{List, [], ◌∷◌}
use mathlib.Core.Logic.{◌⊎◌, inl, inr, ⊎_elim}
use mathlib.Core.Option.{none, some}
use Prim.Native.Nat.{ℕ, zero, suc, ◌+◌, ◌-◌, ◌^◌, ◌≤◌, ◌<◌}
use native.Mathlib.Numerals.{add-one}
use native.Mathlib.Nat.{add-zero}
use native.Mathlib.Omega.{arith}
use lib.ListN.{length, get_or, set, length-set, replicate, length-replicate, get_or-replicate}
use lib.Seq.{sets, length-sets, get_or-set_same, get_or-set_other}
use Rattle.definitions.specs.Fields.{le, bytes}
use Rattle.definitions.proofs.Fields.{Stands, nil, cons, le_bytes, length_bytes}
use Rattle.machine_memory.specs.Cells.{word_width, cell_width, cell, stored, emptied, cleared}

-- A RUN OF STORES, byte by byte
pub outside : (l : List ℕ) (i : ℕ) (vs : List ℕ) (k : ℕ) → (k < i) ⊎ (i + length vs ≤ k) → get_or (sets l i vs) k 0 ≡ get_or l k 0
outside l i [] k h = refl
outside l i (v ∷ vs) k h =
    let n : k ≡ i → ⊥ = λ e. ⊎_elim (λ a. omega arith) (λ a. omega arith) h in
    outside (set l i v) (suc i) vs k (⊎_elim (λ a. inl (omega arith)) (λ a. inr (omega arith)) h) ∙ get_or-set_other l i k v 0 n

pub inside : (l : List ℕ) (i : ℕ) (vs : List ℕ) (k : ℕ) → k < length vs → i + length vs ≤ length l → get_or (sets l i vs) (i + k) 0 ≡ get_or vs k 0
inside l i [] k h r = absurd (omega arith)
inside l i (v ∷ vs) zero h r =
    rw (add-zero i) (outside (set l i v) (suc i) vs i (inl (omega arith)) ∙ get_or-set_same l i v 0 (omega arith))
inside l i (v ∷ vs) (suc k) h r =
    let e : i + suc k ≡ suc i + k = omega arith in
    rw e (inside (set l i v) (suc i) vs k (omega arith) (rw length-set (omega arith)))

-- the bytes that were stored stand there
stands : (l : List ℕ) (i : ℕ) (vs : List ℕ) → i + length vs ≤ length l → Stands (sets l i vs) i vs
stands l i [] r = nil
stands l i (v ∷ vs) r =
    cons {b = vs} (outside (set l i v) (suc i) vs i (inl (omega arith)) ∙ get_or-set_same l i v 0 (omega arith))
    (rw add-one (stands (set l i v) (suc i) vs (rw length-set (omega arith))))

-- the number of n bytes depends on them only
le_same : (n : ℕ) (a b : List ℕ) (p : ℕ) → ((k : ℕ) → p ≤ k → k < p + n → get_or a k 0 ≡ get_or b k 0) → le n a p ≡ le n b p
unfolding le
le_same zero a b p h = refl
le_same (suc n) a b p h =
    let x : get_or a p 0 ≡ get_or b p 0 = h p (omega arith) (omega arith) in
    let y : le n a (p + 1) ≡ le n b (p + 1) = le_same n a b (p + 1) (λ k i j. h k (omega arith) (omega arith)) in
    rw (x, y)

-- TWO MEMORIES THAT AGREE ON A CELL
pub agree : (a b : List ℕ) (p : ℕ) → ((k : ℕ) → p ≤ k → k < p + cell_width → get_or a k 0 ≡ get_or b k 0) → cell a p ≡ cell b p
unfolding cell
agree a b p h =
    let x : get_or a (p + word_width) 0 ≡ get_or b (p + word_width) 0 = h (p + word_width) (omega arith) (omega arith) in
    let y : le word_width a p ≡ le word_width b p = le_same word_width a b p (λ k i j. h k i (omega arith)) in
    rw (x, y)

-- n bytes at p and the cell at r have no byte in common
abbrev pub Apart : ℕ → ℕ → ℕ → Type 0
Apart p n r = (r + cell_width ≤ p) ⊎ (p + n ≤ r)

-- A WORD STORED
module _ (m : List ℕ) (p w : ℕ) where
  long : length (bytes word_width w) ≡ word_width
  long = length_bytes word_width w

  pub stored_same : w < 2 ^ 64 → p + cell_width ≤ length m → cell (stored m p w) p ≡ some w
  unfolding cell stored
  stored_same h r =
      let l = long in
      let n = sets m p (bytes word_width w) in
      let a : get_or (set n (p + word_width) 1) (p + word_width) 0 ≡ 1 = get_or-set_same n (p + word_width) 1 0 (rw length-sets (omega arith)) in
      let b : le word_width (set n (p + word_width) 1) p ≡ le word_width n p = le_same word_width _ _ p (λ k i j. get_or-set_other n (p + word_width) k 1 0 (λ e. omega arith)) in
      let c : le word_width n p ≡ w = le_bytes word_width (omega arith) (stands m p (bytes word_width w) (omega arith)) in
      rw (a, b, c)

  pub stored_apart : (r : ℕ) → Apart p cell_width r → cell (stored m p w) r ≡ cell m r
  unfolding stored
  stored_apart r d =
      let l = long in
      agree (set (sets m p (bytes word_width w)) (p + word_width) 1) m r (λ k i j.
      get_or-set_other (sets m p (bytes word_width w)) (p + word_width) k 1 0 (λ e. ⊎_elim (λ x. omega arith) (λ x. omega arith) d)
      ∙ outside m p (bytes word_width w) k (⊎_elim (λ x. inl (omega arith)) (λ x. inr (omega arith)) d))

  pub length_stored : length (stored m p w) ≡ length m
  unfolding stored
  length_stored = simp (length-set, length-sets)

-- A CELL UNSET
module _ (m : List ℕ) (p : ℕ) where
  pub emptied_same : p + cell_width ≤ length m → cell (emptied m p) p ≡ none
  unfolding cell emptied
  emptied_same r = let a : get_or (set m (p + word_width) 0) (p + word_width) 0 ≡ 0 = get_or-set_same m (p + word_width) 0 0 (omega arith) in rw a

  pub emptied_apart : (r : ℕ) → Apart p cell_width r → cell (emptied m p) r ≡ cell m r
  unfolding emptied
  emptied_apart r d = agree (set m (p + word_width) 0) m r (λ k i j. get_or-set_other m (p + word_width) k 0 0 (λ e. ⊎_elim (λ x. omega arith) (λ x. omega arith) d))

  pub length_emptied : length (emptied m p) ≡ length m
  unfolding emptied
  length_emptied = simp length-set

-- A RUN OF ZEROS
module _ (m : List ℕ) (p n : ℕ) where
  pub cleared_within : (r : ℕ) → p + n ≤ length m → p ≤ r → r + cell_width ≤ p + n → cell (cleared m p n) r ≡ none
  unfolding cell cleared
  cleared_within r f a b =
      let l : length {A = ℕ} (replicate n 0) ≡ n = length-replicate n 0 in
      let e : r + word_width ≡ p + (r + word_width - p) = omega arith in
      let z : get_or (sets m p (replicate n 0)) (r + word_width) 0 ≡ 0 =
      rw e (inside m p (replicate n 0) (r + word_width - p) (omega arith) (omega arith) ∙ get_or-replicate n (r + word_width - p) 0 0 (omega arith)) in
      rw z

  pub cleared_apart : (r : ℕ) → Apart p n r → cell (cleared m p n) r ≡ cell m r
  unfolding cleared
  cleared_apart r d =
      let l : length {A = ℕ} (replicate n 0) ≡ n = length-replicate n 0 in
      agree (sets m p (replicate n 0)) m r (λ k i j. outside m p (replicate n 0) k (⊎_elim (λ x. inl (omega arith)) (λ x. inr (omega arith)) d))

  pub length_cleared : length (cleared m p n) ≡ length m
  unfolding cleared
  length_cleared = simp length-sets

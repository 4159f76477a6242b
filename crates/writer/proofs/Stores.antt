-- Two runs of stores are one, and zeros stored behind what an output begins with. Assumes nothing.
use mathlib.Core.Path.{◌≡◌, refl, sym, ap, ◌∙◌}
use mathlib.Core.List.{List, [], ◌∷◌, ◌++◌, append-nil}
use Prim.Native.Nat.{ℕ, zero, suc, ◌+◌, ◌-◌, ◌≤◌}
use native.Mathlib.Omega.{arith}
use native.Mathlib.Nat.{add-zero, sub-zero}
use lib.ListN.{length, take, set, replicate, length-replicate}
use lib.Seq.{sets, sets-eq, drop-length}
use Rattle.definitions.specs.Answers.{padded}

pub sets_append : (x y l : List ℕ) (a : ℕ) → sets l a (x ++ y) ≡ sets (sets l a x) (a + length x) y
sets_append [] y l a = rw (add-zero a)
sets_append (v ∷ x) y l a =
    let e : suc a + length x ≡ a + suc (length x) = omega arith in
    rw (← e) (sets_append x y (set l a v) (suc a))

zeros : (n : ℕ) → padded n [] ≡ replicate n 0
zeros zero = refl
zeros (suc n) = ap (λ (l : List ℕ). 0 ∷ l) (zeros n)

pub padded_is : (n : ℕ) (l : List ℕ) → length l ≤ n → padded n l ≡ l ++ replicate (n - length l) 0
padded_is n [] h = rw sub-zero (zeros n)
padded_is zero (x ∷ l) h = absurd (omega arith)
padded_is (suc n) (x ∷ l) h = let e : suc n - suc (length l) ≡ n - length l = omega arith in rw e (ap (λ (r : List ℕ). x ∷ r) (padded_is n l (omega arith)))

pub padded_length : (n : ℕ) (l : List ℕ) → length (padded n l) ≡ n
padded_length zero l = refl
padded_length (suc n) [] = ap suc (padded_length n [])
padded_length (suc n) (x ∷ l) = ap suc (padded_length n l)

pub then_zeros : (b out : List ℕ) → length b ≤ length out → take (length b) out ≡ b → sets out (length b) (replicate (length out - length b) 0) ≡ padded (length out) b
then_zeros b out h e =
    let z : length (replicate {A = ℕ} (length out - length b) 0) ≡ length out - length b = length-replicate (length out - length b) 0 in
    let w : length b + length (replicate {A = ℕ} (length out - length b) 0) ≡ length out = omega (arith, z, h) in
    sets-eq (replicate (length out - length b) 0) out (length b) (omega (arith, w))
    ∙ rw (e, w) (ap (λ (k : List ℕ). b ++ replicate (length out - length b) 0 ++ k) (drop-length out) ∙ append-nil _)
    ∙ sym (padded_is (length out) b h)

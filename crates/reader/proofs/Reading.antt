-- What every read of a little-endian number shares, over its width n. Assumes nothing.
use mathlib.Core.Path.{◌≡◌, refl, sym, ap, ◌∙◌}
use mathlib.Core.List.{List, [], ◌∷◌, ◌++◌}
use Prim.Native.Nat.{ℕ, suc, ◌+◌, ◌-◌, ◌*◌, ◌^◌, ◌≤◌, ◌<◌}
use native.Mathlib.Nat.{pow-suc, pow-le-pow_right, add-zero, sub_self, sub-zero}
use native.Mathlib.Omega.{arith}
use lib.ListN.{get_or, length, take, drop}
use Rattle.std.proofs.lemmas.List.{get_or-take, get_or-drop, get_or_push, get_or_append_left, length_push, length-drop, length-take-le}
use Rattle.definitions.specs.Fields.{le}

-- the bytes of an n byte number from the i-th on are summed up
pub record Held (n : ℕ) (s : List ℕ) (at i sum : ℕ) : Type 0 where
  pub within : i ≤ n
  pub is : sum ≡ le (n - i) s (at + i)
  pub below : sum < 256 ^ (n - i)

pub none : (n : ℕ) (s : List ℕ) (at : ℕ) → Held n s at n 0
unfolding le
none n s at = record { within = omega arith; is = rw sub_self; below = rw sub_self (omega arith) }

pub more : {n : ℕ} {s : List ℕ} {at i sum : ℕ} → Held n s at i sum → 0 < i → get_or s (at + (i - 1)) 0 < 256 → Held n s at (i - 1) (sum * 256 + get_or s (at + (i - 1)) 0)
unfolding le
more {n} {s} {at} {i} {sum} h pos byte =
    let w : i ≤ n = h.within in
    let e : n - (i - 1) ≡ suc (n - i) = omega arith in
    let f : at + (i - 1) + 1 ≡ at + i = omega arith in
    let g : sum ≡ le (n - i) s (at + i) = h.is in
    let l : sum < 256 ^ (n - i) = h.below in
    record { within = omega arith; is = rw (e, f) (omega arith); below = rw (e, pow-suc) (omega arith) }

all : {n : ℕ} {s : List ℕ} {at sum : ℕ} → Held n s at 0 sum → (sum ≡ le n s at) × (sum < 256 ^ n)
all h = (simp (sub-zero, add-zero) at h.is, simp sub-zero at h.below)

-- the first bytes of the number are left to be read, and those behind them are summed up
pub record Left (n : ℕ) (s : List ℕ) (at : ℕ) (rest : List ℕ) (sum : ℕ) : Type 0 where
  pub front : (i : ℕ) → i < length rest → get_or rest i 0 ≡ get_or s (at + i) 0
  pub held : Held n s at (length rest) sum

pub unread : (n : ℕ) (s : List ℕ) (at : ℕ) (part : List ℕ) → at + n ≤ length s → part ≡ take (at + n - at) (drop at s) → Left n s at part 0
unread n s at part h is =
    let width : at + n - at ≡ n = omega arith in
    let long : length part ≡ n = ap length is ∙ rw width (length-take-le n (drop at s) (omega (arith, length-drop {A = ℕ}))) in
    record { front = λ i k. rw (is, width) (get_or-take n (drop at s) i 0 (omega (arith, long)) ∙ get_or-drop at s i 0); held = rw long (none n s at) }

module _ {n : ℕ} {s : List ℕ} {at : ℕ} {rest : List ℕ} {sum : ℕ} (g : Left n s at rest sum) where
  -- its last byte
  module _ (left : List ℕ) (b : ℕ) (e : rest ≡ left ++ (b ∷ [])) (byte : (i : ℕ) → get_or s i 0 < 256) where
    here : b ≡ get_or s (at + length left) 0
    here = sym (get_or_push left b 0 (length left) refl) ∙ sym (ap (λ (l : List ℕ). get_or l (length left) 0) e) ∙ g.front (length left) (omega (arith, ap length e, length_push left b))

    pub last : Left n s at left (sum * 256 + b)
    last =
        let long : length rest ≡ length left + 1 = ap length e ∙ length_push left b in
        let one : length left + 1 - 1 ≡ length left = omega arith in
        record {
          front = λ i h. sym (get_or_append_left left (b ∷ []) 0 i h) ∙ sym (ap (λ (l : List ℕ). get_or l i 0) e) ∙ g.front i (omega (arith, long));
          held = rw here (rw one at (more (rw long at g.held) (omega arith) (byte _)));
        }

    pub fits : n ≤ 8 → sum * 256 + b < 2 ^ 64
    fits short =
        let k = last.held in
        let p : 256 ^ (n - length left) ≤ 256 ^ 8 = pow-le-pow_right {n = 256} (omega arith) {j = 8} (omega arith) in
        let l : sum * 256 + b < 256 ^ (n - length left) = k.below in
        omega arith

  -- nothing is left
  pub read : length rest ≡ 0 → (sum ≡ le n s at) × (sum < 256 ^ n)
  read e = all (rw e at g.held)

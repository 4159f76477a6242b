-- Bytes that stand at a place of a sheet, and the number in them, of any width. Assumes nothing.
use mathlib.Core.Path.{◌≡◌, refl, ap, sym}
use mathlib.Core.List.{List, [], ◌∷◌, ◌++◌}
use Prim.Native.Nat.{ℕ, zero, suc, ◌+◌, ◌*◌, ◌/◌, ◌%◌, ◌^◌, ◌<◌}
use native.Mathlib.Nat.{pow-suc, add-zero, zero-add}
use native.Mathlib.Omega.{arith}
use lib.ListN.{length, get_or}
use lib.Seq.{ext_get_or}
use Rattle.definitions.specs.Fields.{Bytes, bytes, le}

pub data Stands (s : List ℕ) : ℕ → List ℕ → Type 0 where
  nil : {at : ℕ} → Stands s at []
  cons : {at x : ℕ} {b : List ℕ} → get_or s at 0 ≡ x → Stands s (at + 1) b → Stands s at (x ∷ b)

pub record Both (s : List ℕ) (at : ℕ) (a b : List ℕ) : Type 0 where
  pub front : Stands s at a
  pub back : Stands s (at + length a) b

-- what stands as one list stands as its two parts
pub split : (a : List ℕ) {b s : List ℕ} {at : ℕ} → Stands s at (a ++ b) → Both s at a b
split [] {b} {s} {at} h = record { front = nil; back = rw (add-zero at) h }
split (x ∷ a) {b} {s} {at} (cons e h) =
    let r : Both s (at + 1) a b = split a h in
    let k : at + 1 + length a ≡ at + suc (length a) = omega arith in
    record { front = cons e r.front; back = rw k at r.back }

shift : {x : ℕ} {s b : List ℕ} {at : ℕ} → Stands s at b → Stands (x ∷ s) (suc at) b
shift nil = nil
shift {x} {s} {b} {at} (cons e h) =
    let k : suc (at + 1) ≡ suc at + 1 = omega arith in
    cons e (rw k at (shift {x = x} h))

-- a sheet stands at its own start
pub whole : (s : List ℕ) → Stands s 0 s
whole [] = nil
whole (x ∷ s) = cons refl (shift (whole s))

-- the number of n bytes is what was written
pub le_bytes : (n : ℕ) {v : ℕ} {s : List ℕ} {at : ℕ} → v < 256 ^ n → Stands s at (bytes n v) → le n s at ≡ v
unfolding le bytes
le_bytes zero l h = omega arith
le_bytes (suc n) {v} {s} {at} l (cons e h) =
    let m : v < 256 ^ n * 256 = rw pow-suc at l in
    let q : v / 256 < 256 ^ n = omega arith in
    let r : le n s (at + 1) ≡ v / 256 = le_bytes n q h in
    omega arith

pub length_bytes : (n v : ℕ) → length (bytes n v) ≡ n
unfolding bytes
length_bytes zero v = refl
length_bytes (suc n) v = ap suc (length_bytes n (v / 256))

-- a number of n bytes
pub le_low : (n : ℕ) (s : List ℕ) (at : ℕ) → Bytes s → le n s at < 256 ^ n
unfolding le
le_low zero s at h = omega arith
le_low (suc n) s at h = rw pow-suc (omega (arith, h.each at, le_low n s (at + 1) h))

-- the bytes of the number that was read are those that stand there
pub bytes_le : (n : ℕ) (s : List ℕ) (at : ℕ) → Bytes s → Stands s at (bytes n (le n s at))
unfolding le bytes
bytes_le zero s at h = nil
bytes_le (suc n) s at h =
    let b : get_or s at 0 < 256 = h.each at in
    let m : get_or s at 0 ≡ (get_or s at 0 + 256 * le n s (at + 1)) % 256 = omega arith in
    let d : (get_or s at 0 + 256 * le n s (at + 1)) / 256 ≡ le n s (at + 1) = omega arith in
    cons m (rw (← d) at (bytes_le n s (at + 1) h))

-- what stands one after the other stands as one list
pub join : {s a b : List ℕ} {at : ℕ} → Stands s at a → Stands s (at + length a) b → Stands s at (a ++ b)
join {s = s} {b = b} {at = at} nil k = rw (add-zero at) at k
join {s = s} {b = b} {at = at} (cons {b = a} e h) k =
    let z : at + suc (length a) ≡ at + 1 + length a = omega arith in
    cons e (join h (rw z at k))

byte_at : {s b : List ℕ} {at : ℕ} → Stands s at b → (i : ℕ) → i < length b → get_or b i 0 ≡ get_or s (at + i) 0
byte_at nil i l = absurd (omega arith)
byte_at {at = at} (cons e h) zero l = rw (add-zero at) (sym e)
byte_at {s} {at = at} (cons e h) (suc i) l =
    let z : at + suc i ≡ at + 1 + i = omega arith in
    rw z (byte_at h i (omega arith))

-- what stands at a sheet's start and is as long is the sheet
pub whole_back : {s b : List ℕ} → Stands s 0 b → length b ≡ length s → b ≡ s
whole_back {s} {b} h e = ext_get_or 0 b s e (λ i l. rw zero-add at (byte_at h i l))

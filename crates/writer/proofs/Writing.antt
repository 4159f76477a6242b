-- One byte of a run that is stored, and a part of a slice that was lent and written whole. Assumes nothing.
use mathlib.Core.Path.{◌≡◌, refl, sym, ap, ◌∙◌}
use mathlib.Core.List.{List, ◌++◌, append_assoc, append-nil}
use Prim.Native.Nat.{ℕ, zero, suc, ◌+◌, ◌-◌, ◌/◌, ◌%◌, ◌≤◌, ◌<◌}
use native.Mathlib.Nat.{zero-add}
use native.Mathlib.Numerals.{add-one, sub-one}
use native.Mathlib.Omega.{arith}
use borrow.Rule.Slice.PartMut.{put_mid, mid_len, Post-is}
use lib.ListN.{length, get_or, set, take, drop, replicate, length-replicate}
use lib.Seq.{sets, sets-eq, drop-cons, drop-length}
use Rattle.definitions.specs.Fields.{bytes}

pub bytes_front : (l : List ℕ) (at n v : ℕ) → 0 < n → sets l at (bytes n v) ≡ sets (set l at (v % 256)) (at + 1) (bytes (n - 1) (v / 256))
unfolding bytes
bytes_front l at zero v p = absurd (omega arith)
bytes_front l at (suc n) v p = rw (sub-one, add-one) refl

pub stored_whole : (l part : List ℕ) → length l ≡ length part → sets l 0 part ≡ part
stored_whole l part e = sets-eq part l 0 (omega arith) ∙ rw (← e, zero-add) (ap (λ (r : List ℕ). part ++ r) (drop-length l) ∙ append-nil part)

pub part_is_stored : (a e : ℕ) (l part : List ℕ) → a ≤ e → e ≤ length l → length part ≡ e - a → put_mid a (e - a) l part ≡ sets l a part
part_is_stored a e l part h k long =
    let end : e ≡ a + length part = omega arith in
    rw (Post-is a e l h) (sym (append_assoc (take a l) part (drop e l)) ∙ ap (λ (n : ℕ). take a l ++ part ++ drop n l) end ∙ sym (sets-eq part l a (omega arith)))

-- a part of n bytes that was filled with zeros
pub part_zeroed : (a e n : ℕ) (l part : List ℕ) → a ≤ e → e ≤ length l → e - a ≡ n → part ≡ replicate (length (take (e - a) (drop a l))) 0 → put_mid a (e - a) l part ≡ sets l a (replicate n 0)
part_zeroed a e n l part h k is z =
    let zeros : part ≡ replicate n 0 = z ∙ ap (λ (m : ℕ). replicate m 0) (mid_len a e l k ∙ is) in
    rw zeros (part_is_stored a e l (replicate n 0) h k (length-replicate n 0 ∙ sym is))

pub copy_front : (l from : List ℕ) (to at i n : ℕ) → i < n → at + n ≤ length from
    → sets l (to + i) (take (n - i) (drop (at + i) from)) ≡ sets (set l (to + i) (get_or from (at + i) 0)) (to + (i + 1)) (take (n - (i + 1)) (drop (at + (i + 1)) from))
copy_front l from to at i n h k =
    let e : n - i ≡ suc (n - (i + 1)) = omega arith in
    let f : to + (i + 1) ≡ suc (to + i) = omega arith in
    let g : at + (i + 1) ≡ suc (at + i) = omega arith in
    rw (e, f, g, drop-cons from (at + i) 0 (omega arith)) refl

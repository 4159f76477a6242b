-- A number's digits as std prints them, the last of them, and a part of a list that they were copied to. Assumes nothing.
use mathlib.Core.Path.{◌≡◌, refl, sym, ap, ◌∙◌}
use mathlib.Core.Bool.{Bool, true, false}
use mathlib.Core.List.{List, [], ◌∷◌, ◌++◌}
use Prim.Native.Nat.{ℕ, zero, suc, ◌+◌, ◌-◌, ◌/◌, ◌%◌, ◌^◌, ◌≤◌, ◌<◌}
use native.Mathlib.Nat.{sub-zero}
use native.Mathlib.Omega.{arith}
use borrow.Author.Tests.{ltb-true, ltb-false}
use borrow.Rule.Slice.PartMut.{put_mid, mid_len, same_len_mid}
use lib.Dec.{ltb}
use lib.ListN.{length, take, drop, length-append}
use lib.Seq.{take-length, drop-length}
use Rattle.std.specs.Fmt.{decimal}
use Rattle.std.proofs.lemmas.Fmt.{decimal_step, decimal_digit}
use Rattle.std.proofs.lemmas.List.{drop-append-le, length-drop}
use Rattle.std.proofs.lemmas.Slice.{take-put_mid, drop-put_mid}
use Rattle.definitions.specs.Lines.{digits_within}
use Rattle.digits.specs.Digits.{DigitsPut}

-- the last k digits
last_digits : (k n : ℕ) → n < 2 ^ 64 → digits_within k n ≡ drop (length (decimal n) - k) (decimal n)
unfolding digits_within
last_digits zero n h = rw (sub-zero (length (decimal n)), drop-length (decimal n)) refl
last_digits (suc k) n h = go (last_digits k (n / 10) (omega arith)) (ltb n 10) refl
  where
    go : digits_within k (n / 10) ≡ drop (length (decimal (n / 10)) - k) (decimal (n / 10)) → (t : Bool) → ltb n 10 ≡ t → digits_within (suc k) n ≡ drop (length (decimal n) - suc k) (decimal n)
    go tenths true q =
        let one : 1 - suc k ≡ 0 = omega arith in
        rw (q, decimal_digit n (ltb-true n 10 q), one) refl
    go tenths false q =
        let tenth = decimal (n / 10) in
        let digit = (48 + n % 10) ∷ [] in
        let left : length (tenth ++ digit) - suc k ≡ length tenth - k = simp length-append (omega arith) in
        rw (q, decimal_step n (ltb-false n 10 q) h, left, tenths) (sym (drop-append-le (length tenth - k) tenth digit (omega arith)))

-- the part that takes them
pub digits_put : (most v at : ℕ) (out all part : List ℕ) (from : ℕ) → v < 2 ^ 64 → at + most ≤ length out → all ≡ decimal v → from ≡ length all - most
    → part ≡ take (length all - from) (drop from all)
    → DigitsPut most v out at (put_mid at (at + length (take (length all - from) (drop from all)) - at) out part) (at + length (take (length all - from) (drop from all)))
digits_put most v at out all part from h fits text start copied =
    let whole : take (length all - from) (drop from all) ≡ drop from all = rw (← length-drop from all) (take-length (drop from all)) in
    let digits : drop from all ≡ digits_within most v = rw (start, text) (sym (last_digits most v h)) in
    let long : length (digits_within most v) ≡ length all - from = ap length (sym digits) ∙ length-drop from all in
    let few : length (digits_within most v) ≤ most = omega arith in
    let n = length (digits_within most v) in
    let room : at + n - at ≡ n = omega arith in
    rw (copied, whole, digits) (record {
      front = take-put_mid at (at + n - at) out (digits_within most v) (at + n) refl (omega arith);
      behind = drop-put_mid at (at + n - at) out (digits_within most v) (at + n) (omega arith) (omega arith) (sym room);
      same_length = same_len_mid at (at + n - at) out (digits_within most v) (sym (mid_len at (at + n) out (omega arith) ∙ room));
      low = omega arith;
      high = omega arith;
    })

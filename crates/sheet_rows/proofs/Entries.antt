-- What holds of every one of some entries, or fails for one. Assumes nothing.
use Rattle.std.proofs.Common.{◌≡◌, ℕ, zero, suc, ◌+◌, ◌*◌, ◌<◌, refl, sym, ◌∙◌, ◌&&◌, Bool, true, false, List, [], ◌∷◌, length, get_or, arith}
use Rattle.std.specs.Bool.{MatchBool}
use Rattle.std.specs.List.{AllWithin, HoldsAt, range_with_len}
use Rattle.std.proofs.lemmas.List.FromFn.{get_or-range_with_len, length-range_with_len}
use Rattle.std.specs.Iterator.{ChecksAll}
use Rattle.std.specs.Fn.{Called}
use Rattle.std.specs.declared.ops.Range.{Range}
use Rattle.std.proofs.iter.Yields.{nat_range_steps}
use Rattle.std.proofs.lemmas.Iterator.{cases_from_all, YieldsList-from_range}
use denote.Param.Members.{Mut}
use native.Mathlib.Nat.{mul-suc, not-suc-le-zero}
use Rattle.definitions.specs.Grammar.{Entry, Pattern}
use Rattle.definitions.specs.Records.{size_of, ok_item, ok_items, may_end}
use Rattle.sheet_rows.specs.declared.tables.Child.{Child}
use Rattle.sheet_rows.specs.declared.tables.Often.{Often}
use Rattle.sheet_rows.specs.declared.tables.Often.TheVariants as often
use Rattle.sheet_rows.specs.Tables.{then_child, pattern_of}

module _ (e : Entry) (s : List ℕ) where
  abbrev pub Valid : ℕ → ℕ → Type 0
  Valid at i = ok_item e s (at + size_of e * i) ≡ true

  abbrev pub Invalid : ℕ → ℕ → Type 0
  Invalid at i = ok_item e s (at + size_of e * i) ≡ false

  next_place : (at i : ℕ) → at + size_of e * suc i ≡ at + size_of e + size_of e * i
  next_place at i = omega (arith, mul-suc (size_of e) i)

  each_valid : (n at : ℕ) → ((i : ℕ) → i < n → Valid at i) → ok_items e n s at ≡ true
  unfolding ok_items
  each_valid zero at f = refl
  each_valid (suc n) at f =
      let z : at + size_of e * 0 ≡ at = omega arith in
      rw (rw z at (f 0 (omega arith))) (each_valid n (at + size_of e) (λ i h. rw (next_place at i) at (f (suc i) (omega arith))))

  one_invalid : (n at i : ℕ) → i < n → Invalid at i → ok_items e n s at ≡ false
  unfolding ok_items
  one_invalid zero at i h f = absurd (not-suc-le-zero h)
  one_invalid (suc n) at zero h f = let z : at + size_of e * 0 ≡ at = omega arith in rw (rw z at f)
  one_invalid (suc n) at (suc i) h f = go (ok_item e s at) (one_invalid n (at + size_of e) i (omega arith) (rw (next_place at i) at f))
    where
      go : (b : Bool) {r : Bool} → r ≡ false → b && r ≡ false
      go true q = q
      go false q = refl

  pub valid : (n at : ℕ) (r : Bool) → MatchBool r (AllWithin (Valid at) (range_with_len 0 n) 0 (length (range_with_len 0 n))) ((k : ℕ) × (k < length (range_with_len 0 n)) × HoldsAt (Invalid at) (range_with_len 0 n) k) → r ≡ ok_items e n s at
  valid n at true f = sym (each_valid n at (λ i h. let z : get_or (range_with_len 0 n) i 0 ≡ i = omega (arith, get_or-range_with_len 0 n i 0 h) in rw z at (f i 0 (omega arith) (omega (arith, length-range_with_len 0 n)))))
  valid n at false f =
      let h : f.0 < n = omega (arith, f.1, length-range_with_len 0 n) in
      let z : get_or (range_with_len 0 n) f.0 0 ≡ f.0 = omega (arith, get_or-range_with_len 0 n f.0 0 h) in
      sym (one_invalid n at f.0 h (rw z at (f.2 0)))

  -- the code's loop over n entries, whatever it asks of each
  pub all_valid : {F : Type 0} {g : Mut F (ℕ × Unit {0}) Bool} (at : ℕ) {n : ℕ} {u : Range ℕ} {f : F} {r : Bool} → ChecksAll nat_range_steps g (record { start = 0; end = n }) f r u
      → ((x : ℕ) (b : Bool) (q : F) → Called g f (x, tt) b q → (q ≡ f) × (ok_item e s (at + size_of e * x) ≡ b)) → r ≡ ok_items e n s at
  all_valid at {n} {u} {f} {r} ran told =
      valid n at r (cases_from_all u f r (Valid at) (Invalid at) ran (YieldsList-from_range 0 n n refl (omega arith)) (λ x q. told x true q) (λ x q k. (told x false q k).1))

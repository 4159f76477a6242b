-- A sheet that passed the check is what is written of the records that are read from it: no byte is overlooked. Assumes nothing.
use mathlib.Core.Path.{◌≡◌, refl, sym, ◌∙◌}
use mathlib.Core.Bool.{true}
use mathlib.Core.List.{List, [], ◌∷◌, ◌++◌}
use mathlib.Core.Option.{Option, some}
use Prim.Native.Nat.{ℕ, zero, suc, ◌+◌, ◌-◌, ◌*◌, ◌/◌, ◌%◌, ◌≤◌}
use native.Mathlib.Nat.{mul-suc, mul-zero, add-zero, div-add-mod}
use native.Mathlib.Omega.{arith}
use lib.Dec.{leb, eqb}
use lib.ListN.{length, length-append}
use borrow.Author.Tests.{leb-true, eqb-true, eqb-false}
use Rattle.definitions.specs.Fields.{Bytes, bytes, le}
use Rattle.definitions.specs.Grammar.{Entry, up_to, optional, number, ir_type, value_and_type, name_and_type, Field, single, counted, listed, Pattern}
use Rattle.definitions.specs.Ir.{IrType, name_of, tag_of}
use Rattle.definitions.specs.Records.{opt, field_end, fields_end, ok_field, ok_item, ok_items, ok_type, opt_from, past_all, read_item, read_items, read_records, read_value, read_values, size_of, type_from, write_item, write_items, write_record, write_trees, write_type, write_value, write_values}
use Rattle.definitions.proofs.Fields.{Stands, nil, join, bytes_le, length_bytes}
use Rattle.definitions.specs.Fine.{Fine, ends, goes}
use Rattle.definitions.proofs.Sheets.Passed.{picked, both_true, counted_ok, field_within, first_past, read_end, read_step}
use Rattle.definitions.proofs.Sheets.Reads.{items_count}

-- the bytes b stand from `at` to `stop`
pub record Lies (s : List ℕ) (at stop : ℕ) (b : List ℕ) : Type 0 where
  pub stands : Stands s at b
  pub long : at + length b ≡ stop

none_lies : {s : List ℕ} (at : ℕ) → Lies s at at []
none_lies at = record { stands = nil; long = add-zero at }

both : {s a b : List ℕ} {at mid stop : ℕ} → Lies s at mid a → Lies s mid stop b → Lies s at stop (a ++ b)
both {s} {a} {b} {at} {mid} {stop} x y =
    let k : at + length a ≡ mid = x.long in
    record { stands = join x.stands (rw k y.stands); long = rw length-append (omega arith) }

-- a type's two numbers
abbrev Numbers : ℕ → ℕ → IrType → Type 0
Numbers t n x = (tag_of x ≡ t) × (name_of x ≡ n)

type_back : (t n : ℕ) → ok_type t n ≡ true → Numbers t n (type_from t n)
unfolding ok_type type_from
type_back t n e =
    let N : IrType → Type 0 = Numbers t n in
    picked N (eqb t 0) _ _ (λ q. plain 0 (eqb-true t 0 q) refl) (λ a. picked N (eqb t 1) _ _ (λ q. plain 1 (eqb-true t 1 q) refl)
    (λ b. picked N (eqb t 2) _ _ (λ q. plain 2 (eqb-true t 2 q) refl) (λ c. picked N (eqb t 3) _ _ (λ q. (sym (eqb-true t 3 q), refl)) (λ d.
    let g = both_true (leb t 4) _ (rw d at e) in
    (omega (arith, eqb-false t 0 a, eqb-false t 1 b, eqb-false t 2 c, eqb-false t 3 d, leb-true t 4 g.0), sym (eqb-true n 0 g.1))))))
  where
    plain : (j : ℕ) → t ≡ j → ok_type j n ≡ eqb n 0 → (j ≡ t) × (0 ≡ n)
    plain j q r = (sym q, sym (eqb-true n 0 (sym r ∙ rw q at e)))

module _ {s : List ℕ} (h : Bytes s) where
  number_lies : (n at : ℕ) → Lies s at (at + n) (bytes n (le n s at))
  number_lies n at = record { stands = bytes_le n s at h; long = rw length_bytes }

  two_lie : (at : ℕ) → Lies s at (at + 4) (bytes 2 (le 2 s at) ++ bytes 2 (le 2 s (at + 2)))
  two_lie at = let z : at + 2 + 2 ≡ at + 4 = omega arith in rw z at (both (number_lies 2 at) (number_lies 2 (at + 2)))

  type_lies : (at : ℕ) → ok_type (le 2 s at) (le 2 s (at + 2)) ≡ true → Lies s at (at + 4) (write_type (type_from (le 2 s at) (le 2 s (at + 2))))
  unfolding write_type
  type_lies at e = let q = type_back _ _ e in rw (q.0, q.1) (two_lie at)

  item_lies : (e : Entry) (at : ℕ) → ok_item e s at ≡ true → Lies s at (at + size_of e) (write_item (read_item e s at))
  unfolding ok_item read_item write_item size_of opt_from
  item_lies (up_to m) at e = number_lies 2 at
  item_lies optional at e =
      picked (λ (o : Option ℕ). Lies s at (at + 2) (write_item (opt o))) (eqb (le 2 s at) 65535) _ _ (λ q. rw (eqb-true (le 2 s at) 65535 q) at (number_lies 2 at)) (λ _. number_lies 2 at)
  item_lies (number n) at e = number_lies n at
  item_lies ir_type at e = type_lies at e
  item_lies value_and_type at e =
      let z : at + 2 + 4 ≡ at + 6 = omega arith in
      rw z at (both (number_lies 2 at) (type_lies (at + 2) (both_true (leb (le 2 s at) 65534) _ e).1))
  item_lies name_and_type at e = two_lie at

  items_lie : (e : Entry) (n at : ℕ) → ok_items e n s at ≡ true → Lies s at (at + size_of e * n) (write_items (read_items e n s at))
  unfolding ok_items read_items write_items
  items_lie e zero at q = rw (mul-zero, add-zero) (none_lies at)
  items_lie e (suc n) at q =
      let b = both_true (ok_item e s at) _ q in
      let z : at + size_of e + size_of e * n ≡ at + size_of e * suc n = rw mul-suc (omega arith) in
      rw z at (both (item_lies e at b.0) (items_lie e n (at + size_of e) b.1))

  value_lies : (f : Field) (stop at : ℕ) → ok_field f s stop at ≡ true → at ≤ stop → Lies s at (field_end f s stop at) (write_value (read_value f s stop at))
  unfolding ok_field field_end read_value write_value
  value_lies (single e) stop at o l = item_lies e at (both_true (leb (size_of e) (stop - at)) _ o).1
  value_lies (counted e) stop at o l =
      rw items_count (both (number_lies 2 at) (items_lie e (le 2 s at) (at + 2) (counted_ok e s stop at o).2))
  value_lies (listed e) stop at o l =
      let b = both_true (eqb ((stop - at) % size_of e) 0) _ o in
      let z : at + size_of e * ((stop - at) / size_of e) ≡ stop = omega (arith, eqb-true ((stop - at) % size_of e) 0 b.0, div-add-mod (stop - at) (size_of e)) in
      rw z at (items_lie e ((stop - at) / size_of e) at b.1)

  values_lie : (fs : List Field) (stop at : ℕ) {b : ℕ} → past_all fs s stop at ≡ some b → at ≤ stop → Lies s at (fields_end fs s stop at) (write_values (read_values fs s stop at))
  unfolding fields_end read_values write_values
  values_lie [] stop at e l = none_lies at
  values_lie (f ∷ fs) stop at e l =
      let a = first_past f fs s stop at e in
      both (value_lies f stop at a.0 l) (values_lie fs stop (field_end f s stop at) a.1 (field_within f s stop at a.0 l).1)

  record_lies : {at stop : ℕ} {body : List ℕ} → stop ≡ at + le 4 s at → Lies s (at + 6) stop body → Lies s at stop (write_record (le 2 s (at + 4)) body)
  unfolding write_record
  record_lies {at} {stop} {body} e b =
      let m : at + 6 + length body ≡ stop = b.long in
      let z : 6 + length body ≡ le 4 s at = omega arith in
      let y : at + 4 + 2 ≡ at + 6 = omega arith in
      rw z (both (number_lies 4 at) (both (rw y at (number_lies 2 (at + 4))) b))

  pub trees_lie : {at end : ℕ} {q : Pattern} → Fine s at end q → Lies s at end (write_trees (read_records s at end))
  unfolding write_trees
  trees_lie {at} {end} (ends z m) = rw (← z) (rw (read_end s at) (none_lies at))
  trees_lie {at} {end} (goes {b = b} {stop = stop} {fs = fs} hd a kids more) =
      let v : Lies s (at + 6) b (write_values (read_values fs s stop (at + 6))) = rw hd.body_is (values_lie fs stop (at + 6) hd.valid (omega (arith, hd.low, hd.mid))) in
      rw (read_step hd kids more) (both (record_lies hd.stop_is (both v (trees_lie kids))) (trees_lie more))

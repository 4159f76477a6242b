-- The fields of a record: what was written is valid and is read back. Assumes nothing.
use mathlib.Core.Path.{◌≡◌, refl, ap, ap₂, ◌∙◌}
use mathlib.Core.Bool.{true}
use mathlib.Core.List.{List, [], ◌∷◌, append-nil}
use mathlib.Core.Option.{some}
use Prim.Native.Nat.{ℕ, ◌+◌, ◌-◌, ◌*◌, ◌≤◌}
use native.Mathlib.Nat.{mul-div_right, mul-mod_right}
use native.Mathlib.Omega.{arith}
use lib.ListN.{length, length-append}
use borrow.Author.Tests.{le-leb}
use Rattle.definitions.specs.Fields.{bytes, le}
use Rattle.definitions.specs.Grammar.{Field, listed}
use Rattle.definitions.specs.Records.{Item, Trees, FieldValue, field_end, group, item, ok_field, past, past_all, read_value, read_values, rest, size_of, write_item, write_items, write_trees, write_value, write_values}
use Rattle.definitions.proofs.Sheets.Fits.{FitValue, fit_one, fit_group, FitValues, no_value, and_value, last_rest}
use Rattle.definitions.proofs.Fields.{Stands, Both, split, le_bytes}
use Rattle.definitions.proofs.Sheets.Passed.{past_on}
use Rattle.definitions.proofs.Sheets.Items.{ItemOk, item_law, ItemsOk, items_law}

pub record ValueOk (f : Field) (v : FieldValue) (s : List ℕ) (stop at : ℕ) : Type 0 where
  pub ok : ok_field f s stop at ≡ true
  pub end : field_end f s stop at ≡ at + length (write_value v)
  pub is : read_value f s stop at ≡ v

value_law : {f : Field} {v : FieldValue} {s : List ℕ} {stop at : ℕ} → FitValue f v → Stands s at (write_value v) → at + length (write_value v) ≤ stop → ValueOk f v s stop at
unfolding write_value ok_field field_end read_value bytes
value_law {s = s} {stop = stop} {at = at} (fit_one {e} {i} g) h l =
    let o : ItemOk e i s at = item_law g h in
    let z : length (write_item i) ≡ size_of e = o.size in
    record { ok = rw (le-leb (size_of e) (stop - at) (omega arith), o.ok); end = rw z; is = ap item o.is }
value_law {s = s} {stop = stop} {at = at} (fit_group {e} {is} k g) h l =
    let b : Both s at (bytes 2 (length is)) (write_items is) = split (bytes 2 (length is)) h in
    let q : le 2 s at ≡ length is = le_bytes 2 k b.front in
    let o : ItemsOk e is s (at + 2) = items_law g b.back in
    let z : length (write_items is) ≡ size_of e * length is = o.size in
    record {
      ok = rw (q, le-leb 2 (stop - at) (omega arith), le-leb (size_of e * length is) (stop - (at + 2)) (omega arith), o.ok);
      end = rw q (omega arith);
      is = rw q (ap group o.is);
    }

pub record ValuesOk (fs : List Field) (vs : List FieldValue) (s : List ℕ) (stop at : ℕ) : Type 0 where
  pub past : past_all fs s stop at ≡ some (at + length (write_values vs))
  pub is : read_values fs s stop at ≡ vs

pub values_law : {fs : List Field} {vs : List FieldValue} {ts : Trees} {s : List ℕ} {stop at : ℕ} → FitValues fs vs ts → Stands s at (write_values vs) → at + length (write_values vs) + length (write_trees ts) ≡ stop → ValuesOk fs vs s stop at
unfolding write_values past_all read_values write_value past ok_field field_end read_value write_trees
values_law {s = s} {stop = stop} {at = at} no_value h l = record { past = ap some (omega arith); is = refl }
values_law {s = s} {stop = stop} {at = at} (and_value {f} {v} {fs} {vs} {ts} g r) h l =
    let b : Both s at (write_value v) (write_values vs) = split (write_value v) h in
    let k : at + (length (write_value v) + length (write_values vs)) + length (write_trees ts) ≡ stop = rw length-append at l in
    let o : ValueOk f v s stop at = value_law g b.front (omega arith) in
    let p : ValuesOk fs vs s stop (at + length (write_value v)) = values_law r b.back (omega arith) in
    record {
      past = past_on f fs s stop at o.ok ∙ rw (o.end, length-append) (p.past ∙ ap some (omega arith));
      is = rw o.end (ap₂ ◌∷◌ o.is p.is);
    }
values_law {s = s} {stop = stop} {at = at} (last_rest {e} {is} n g) h l =
    let h' : Stands s at (write_items is) = rw append-nil at h in
    let o : ItemsOk e is s at = items_law g h' in
    let y : length (write_items is) ≡ size_of e * length is = o.size in
    let k : at + length (write_items is) + 0 ≡ stop = rw append-nil at l in
    let d : stop - at ≡ size_of e * length is = omega arith in
    let f : ok_field (listed e) s stop at ≡ true = rw (d, mul-mod_right, mul-div_right (length is) n, o.ok) in
    record {
      past = past_on (listed e) [] s stop at f ∙ ap some (rw append-nil (omega arith));
      is = rw (d, mul-div_right (length is) n) (ap (λ (x : List Item). rest x ∷ []) o.is);
    }

-- The values of a record whose first fields are single entries, by position. Assumes nothing.
use mathlib.Core.Path.{◌≡◌, refl, ap}
use mathlib.Core.Bool.{true}
use mathlib.Core.List.{List, [], ◌∷◌, ◌++◌, map}
use mathlib.Core.Option.{some}
use Prim.Native.Nat.{ℕ, ◌+◌, ◌-◌, ◌*◌, ◌≤◌}
use native.Mathlib.Omega.{arith}
use lib.Dec.{leb}
use borrow.Author.Tests.{leb-true}
use Rattle.definitions.specs.Fields.{le}
use Rattle.definitions.specs.Grammar.{Class, Entry, Field, single, counted, Pattern, origin, origin_width}
use Rattle.definitions.specs.Records.{FieldValue, item, size_of, ok_item, ok_items, read_item, field_end, ok_field, read_value, past_all, fields_end, read_values}
use Rattle.definitions.specs.Fine.{Head, fields_start}
use Rattle.definitions.specs.ProgramSheet.{own_of}
use Rattle.definitions.proofs.Sheets.Passed.{both_true, counted_ok, first_past, all_past}

-- the entries from `at + off` on, their values, where they end, and that each is valid
unfoldable pub items_from : List Entry → List ℕ → ℕ → ℕ → List FieldValue
items_from [] s at off = []
items_from (e ∷ es) s at off = item (read_item e s (at + off)) ∷ items_from es s at (off + size_of e)

unfoldable pub after : List Entry → ℕ → ℕ
after [] off = off
after (e ∷ es) off = after es (off + size_of e)

unfoldable pub Valid : List Entry → List ℕ → ℕ → ℕ → Type 0
Valid [] s at off = Unit {0}
Valid (e ∷ es) s at off = (ok_item e s (at + off) ≡ true) × Valid es s at (off + size_of e)

-- THE LAW: a record's values are these, then what the fields after them give; and the children start where those end
record Singles (es : List Entry) (fs : List Field) (s : List ℕ) (stop at off b : ℕ) : Type 0 where
  values : read_values (map single es ++ fs) s stop (at + off) ≡ items_from es s at off ++ read_values fs s stop (at + after es off)
  more : past_all fs s stop (at + after es off) ≡ some b
  valid : Valid es s at off
  fits : at + after es off ≤ stop

singles : (es : List Entry) (fs : List Field) (s : List ℕ) (stop at off : ℕ) {b : ℕ} → past_all (map single es ++ fs) s stop (at + off) ≡ some b → at + off ≤ stop → Singles es fs s stop at off b
unfolding items_from after Valid read_values read_value ok_field field_end
singles [] fs s stop at off h l = record { values = refl; more = h; valid = tt; fits = l }
singles (e ∷ es) fs s stop at off {b} h l =
    let p = first_past (single e) (map single es ++ fs) s stop (at + off) h in
    let o = both_true (leb (size_of e) (stop - (at + off))) _ p.0 in
    let f : size_of e ≤ stop - (at + off) = leb-true _ _ o.0 in
    let w : at + off + size_of e ≡ at + (off + size_of e) = omega arith in
    let i : Singles es fs s stop at (off + size_of e) b = singles es fs s stop at (off + size_of e) (rw w at p.1) (omega arith) in
    record { values = rw w (ap (λ (l : List FieldValue). item (read_item e s (at + off)) ∷ l) i.values); more = i.more; valid = (o.1, i.valid); fits = i.fits }

-- the same of a record that passed, whose children start at b
pub record Starts (es : List Entry) (fs : List Field) (s : List ℕ) (at b stop : ℕ) : Type 0 where
  pub values : read_values (map single es ++ fs) s stop (at + 6) ≡ items_from es s at 6 ++ read_values fs s stop (at + after es 6)
  pub more : past_all fs s stop (at + after es 6) ≡ some b
  pub body : b ≡ fields_end fs s stop (at + after es 6)
  pub valid : Valid es s at 6
  pub fits : at + after es 6 ≤ stop

pub starts : {c : Class} {p : Pattern} {s : List ℕ} {at end b stop : ℕ} (es : List Entry) (fs : List Field) → Head s at end c (map single es ++ fs) p b stop → Starts es fs s at b stop
starts {s = s} {at = at} {b = b} {stop = stop} es fs hd =
    let S : Singles es fs s stop at 6 b = singles es fs s stop at 6 hd.valid (omega (arith, hd.low, hd.mid)) in
    record { values = S.values; more = S.more; body = (all_past fs s stop (at + after es 6) b S.more S.fits).is; valid = S.valid; fits = S.fits }

-- the same of an instruction or terminator that passed, by its own fields
pub record Own (es : List Entry) (fs : List Field) (s : List ℕ) (at b stop : ℕ) : Type 0 where
  pub values : own_of (read_values (origin ∷ (map single es ++ fs)) s stop (at + 6)) ≡ items_from es s at fields_start ++ read_values fs s stop (at + after es fields_start)
  pub valid : Valid es s at fields_start
  pub fits : at + after es fields_start ≤ stop

pub own : {c : Class} {p : Pattern} {s : List ℕ} {at end b stop : ℕ} (es : List Entry) (fs : List Field) → Head s at end c (origin ∷ (map single es ++ fs)) p b stop → Own es fs s at b stop
unfolding ok_field field_end read_values size_of
own {s = s} {at = at} {b = b} {stop = stop} es fs hd =
    let p = first_past origin (map single es ++ fs) s stop (at + 6) hd.valid in
    let f : origin_width ≤ stop - (at + 6) = leb-true _ _ (both_true (leb origin_width (stop - (at + 6))) _ p.0).0 in
    let w : at + 6 + origin_width ≡ at + fields_start = omega arith in
    let S : Singles es fs s stop at fields_start b = singles es fs s stop at fields_start (rw w at p.1) (omega (arith, hd.low, hd.mid)) in
    record { values = rw w S.values; valid = S.valid; fits = S.fits }

-- a list with a count, and then the others
pub record Counted (e : Entry) (fs : List Field) (s : List ℕ) (stop at b : ℕ) : Type 0 where
  pub more : past_all fs s stop (at + 2 + size_of e * le 2 s at) ≡ some b
  pub fits : at + 2 + size_of e * le 2 s at ≤ stop
  pub valid : ok_items e (le 2 s at) s (at + 2) ≡ true

pub counted_field : (e : Entry) (fs : List Field) (s : List ℕ) (stop at : ℕ) {b : ℕ} → past_all (counted e ∷ fs) s stop at ≡ some b → Counted e fs s stop at b
unfolding field_end
counted_field e fs s stop at h =
    let p = first_past (counted e) fs s stop at h in
    let c = counted_ok e s stop at p.0 in
    record { more = p.1; fits = omega (arith, c.0, c.1); valid = c.2 }

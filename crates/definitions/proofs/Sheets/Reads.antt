-- What is read from a sheet that passed the check fits its row. Assumes nothing.
use mathlib.Core.Path.{◌≡◌, refl, ap}
use mathlib.Core.Bool.{Bool, true, false}
use mathlib.Core.List.{List, [], ◌∷◌}
use mathlib.Core.Option.{none, some}
use Prim.Native.Nat.{ℕ, zero, suc, ◌+◌, ◌-◌, ◌/◌, ◌%◌, ◌^◌, ◌<◌, ◌≤◌}
use native.Mathlib.Omega.{arith}
use lib.Dec.{leb, eqb, lit<}
use lib.ListN.{length}
use borrow.Author.Tests.{leb-true, eqb-false}
use Rattle.definitions.specs.Grammar.{Class, number}
use Rattle.definitions.specs.Fields.{Bytes, le}
use Rattle.definitions.specs.Grammar.{Entry, Field, Pattern, counted, ir_type, listed, name_and_type, optional, rows, single, up_to, value_and_type}
use Rattle.definitions.specs.Ir.{IrType, name_of}
use Rattle.definitions.specs.Records.{after, left, may_end, Item, Tree, Trees, FieldValue, field_end, node, ok_field, ok_item, ok_items, ok_type, opt, opt_from, past_all, pick, read_item, read_items, read_records, read_value, read_values, rest, row, row_in, size_of, tcons, tnil, type_from}
use Rattle.definitions.proofs.Fields.{le_low}
use Rattle.definitions.proofs.Sheets.Fits.{FitItem, fit_small, fit_none, fit_some, fit_raw, fit_type, fit_param, fit_pair, FitItems, no_item, and_item, FitValue, fit_one, fit_group}
use Rattle.definitions.specs.Fine.{Fine, ends, goes}
use Rattle.definitions.proofs.Sheets.Passed.{picked, both_true, counted_ok, first_past, read_end, read_step}

abbrev LowName : IrType → Type 0
LowName t = name_of t < 65535

type_low : (t n : ℕ) → ok_type t n ≡ true → name_of (type_from t n) < 65535
unfolding ok_type type_from
type_low t n e =
    let z : 0 < 65535 = lit< tt in
    picked LowName (eqb t 0) _ _ (λ _. z) (λ _. picked LowName (eqb t 1) _ _ (λ _. z) (λ _. picked LowName (eqb t 2) _ _ (λ _. z)
    (λ _. picked LowName (eqb t 3) _ _ (λ q. let l : n ≤ 65534 = leb-true n 65534 (rw q at e) in omega arith) (λ _. z))))

item_fits : (e : Entry) (s : List ℕ) (at : ℕ) → Bytes s → ok_item e s at ≡ true → FitItem e (read_item e s at)
unfolding ok_item read_item opt_from
item_fits (up_to m) s at h e = fit_small (leb-true _ _ e) (le_low 2 s at h)
item_fits optional s at h e = go (eqb (le 2 s at) 65535) refl
  where
    go : (b : Bool) → eqb (le 2 s at) 65535 ≡ b → FitItem optional (opt (pick b none (some (le 2 s at))))
    go true q = fit_none
    go false q =
        let l : le 2 s at < 256 ^ 2 = le_low 2 s at h in
        let n : le 2 s at ≡ 65535 → ⊥ = eqb-false _ _ q in
        let k : le 2 s at < 65535 = omega arith in
        fit_some k
item_fits (number n) s at h e = fit_raw (le_low n s at h)
item_fits ir_type s at h e = fit_type (type_low _ _ e)
item_fits value_and_type s at h e =
    let b = both_true (leb (le 2 s at) 65534) _ e in
    let l : le 2 s at ≤ 65534 = leb-true _ _ b.0 in
    let k : le 2 s at < 65535 = omega arith in
    fit_param k (type_low _ _ b.1)
item_fits name_and_type s at h e =
    let b = both_true (leb (le 2 s at) 65534) _ e in
    let l : le 2 s at ≤ 65534 = leb-true _ _ b.0 in
    let m : le 2 s (at + 2) ≤ 65534 = leb-true _ _ b.1 in
    let k : le 2 s at < 65535 = omega arith in
    let j : le 2 s (at + 2) < 65535 = omega arith in
    fit_pair k j

items_fit : (e : Entry) (n : ℕ) (s : List ℕ) (at : ℕ) → Bytes s → ok_items e n s at ≡ true → FitItems e (read_items e n s at)
unfolding ok_items read_items
items_fit e zero s at h q = no_item
items_fit e (suc n) s at h q = let b = both_true (ok_item e s at) _ q in and_item (item_fits e s at h b.0) (items_fit e n s (at + size_of e) h b.1)

pub items_count : (e : Entry) (n : ℕ) (s : List ℕ) (at : ℕ) → length (read_items e n s at) ≡ n
unfolding read_items
items_count e zero s at = refl
items_count e (suc n) s at = ap suc (items_count e n s (at + size_of e))

pub data Holds : List Field → List FieldValue → Type 0 where
  hnil : Holds [] []
  hcons : {f : Field} {v : FieldValue} {fs : List Field} {vs : List FieldValue} → FitValue f v → Holds fs vs → Holds (f ∷ fs) (v ∷ vs)
  hrest : {e : Entry} {is : List Item} {fs : List Field} {vs : List FieldValue} → FitItems e is → Holds fs vs → Holds (listed e ∷ fs) (rest is ∷ vs)

value_holds : (f : Field) {fs : List Field} {vs : List FieldValue} (s : List ℕ) (stop at : ℕ) → Bytes s → ok_field f s stop at ≡ true → Holds fs vs → Holds (f ∷ fs) (read_value f s stop at ∷ vs)
unfolding ok_field read_value
value_holds (single e) s stop at h o r = hcons (fit_one (item_fits e s at h (both_true (leb (size_of e) (stop - at)) _ o).1)) r
value_holds (counted e) s stop at h o r =
    let k : length (read_items e (le 2 s at) s (at + 2)) < 65536 = rw items_count (le_low 2 s at h) in
    hcons (fit_group k (items_fit e (le 2 s at) s (at + 2) h (counted_ok e s stop at o).2)) r
value_holds (listed e) s stop at h o r = hrest (items_fit e ((stop - at) / size_of e) s at h (both_true (eqb ((stop - at) % size_of e) 0) _ o).1) r

values_hold : (fs : List Field) (s : List ℕ) (stop at : ℕ) {b : ℕ} → Bytes s → past_all fs s stop at ≡ some b → Holds fs (read_values fs s stop at)
unfolding read_values
values_hold [] s stop at h e = hnil
values_hold (f ∷ fs) s stop at h e = let a = first_past f fs s stop at e in value_holds f s stop at h a.0 (values_hold fs s stop (field_end f s stop at) h a.1)

-- a tree of a class, and trees that follow a pattern: every record has a row, its fields hold what the row asks
mutual
  pub data Read : Class → Tree → Type 0 where
    rnode : {c : Class} {at k : ℕ} {fs : List Field} {p : Pattern} {vs : List FieldValue} {ts : Trees} → row_in k rows ≡ row c fs p → Holds fs vs → Reads p ts → Read c (node at k vs ts)

  pub data Reads : Pattern → Trees → Type 0 where
    rnil : {p : Pattern} → may_end p ≡ true → Reads p tnil
    rcons : {p q : Pattern} {c : Class} {t : Tree} {ts : Trees} → after p c ≡ left q → Read c t → Reads q ts → Reads p (tcons t ts)

-- what is read from a sheet that passed
pub reads : {s : List ℕ} {at end : ℕ} {q : Pattern} → Bytes s → Fine s at end q → Reads q (read_records s at end)
reads {s} {at} {end} h (ends z m) = rw (← z) (rw (read_end s at) (rnil m))
reads {s} {at} {end} h (goes {b = b} {stop = stop} {fs = fs} hd a kids more) =
    rw (read_step hd kids more) (rcons a (rnode hd.is (values_hold fs s stop (at + 6) h hd.valid) (reads h kids)) (reads h more))

-- A sheet that passed the check, written again: a law of every record from a step for each row, and the bytes. Assumes nothing.
use mathlib.Core.Path.{◌≡◌, refl, ap₂}
use mathlib.Core.List.{List, [], ◌∷◌, map}
use mathlib.Core.Option.{Option, none, some}
use Prim.Native.Nat.{ℕ}
use native.Mathlib.Omega.{arith}
use lib.ListN.{length}
use Rattle.definitions.specs.Fields.{Bytes}
use Rattle.definitions.specs.Ir.{IrType}
use Rattle.definitions.specs.Grammar.{Class, Entry, up_to, optional, number, ir_type, value_and_type, name_and_type, Field, single, counted, listed, Pattern, rows}
use Rattle.definitions.specs.Records.{Item, small, opt, word, ty, param, pair, FieldValue, item, group, rest, Tree, node, Trees, write_trees, read_records, Good, check_records}
use Rattle.definitions.proofs.Fields.{whole_back}
use Rattle.definitions.proofs.Sheets.Fits.{FitItem, fit_small, fit_none, fit_some, fit_raw, fit_type, fit_param, fit_pair, FitItems, no_item, and_item, fit_one, fit_group}
use Rattle.definitions.proofs.Sheets.Passed.{fine}
use Rattle.definitions.proofs.Sheets.Reads.{Holds, hnil, hcons, hrest, Read, rnode, Reads, rnil, rcons, reads}
use Rattle.definitions.proofs.Sheets.Lines.{OfRows, Follows, may_end_lem, goes_on}
use Rattle.definitions.proofs.Sheets.Written.{Lies, trees_lie}

-- FIELDS: P of every entry, and of all fields that hold what a row asks, given P of the plain values
abbrev Plain : Entry → (Item → Type 0) → Type 0
Plain (up_to m) P = (n : ℕ) → P (small n)
Plain optional P = (o : Option ℕ) → P (opt o)
Plain (number w) P = (n : ℕ) → P (word w n)
Plain ir_type P = (t : IrType) → P (ty t)
Plain value_and_type P = (v : ℕ) (t : IrType) → P (param v t)
Plain name_and_type P = (a b : ℕ) → P (pair a b)

plain : (P : Item → Type 0) {e : Entry} {i : Item} → FitItem e i → Plain e P → P i
plain P (fit_small {n = n} l m) g = g n
plain P fit_none g = g none
plain P (fit_some {n} l) g = g (some n)
plain P (fit_raw {n = n} l) g = g n
plain P (fit_type {t} l) g = g t
plain P (fit_param {v} {t} l m) g = g v t
plain P (fit_pair {a} {b} l m) g = g a b

abbrev pub Shaped : List Field → (List FieldValue → Type 0) → Type 0
Shaped [] P = P []
Shaped (single e ∷ fs) P = Plain e (λ i. Shaped fs (λ vs. P (item i ∷ vs)))
Shaped (counted e ∷ fs) P = (is : List Item) → FitItems e is → Shaped fs (λ vs. P (group is ∷ vs))
Shaped (listed e ∷ fs) P = (is : List Item) → FitItems e is → Shaped fs (λ vs. P (rest is ∷ vs))

pub shaped : (P : List FieldValue → Type 0) {fs : List Field} {vs : List FieldValue} → Holds fs vs → Shaped fs P → P vs
shaped P hnil g = g
shaped P (hcons {fs = fs} (fit_one {i = i} f) h) g = shaped (λ vs. P (item i ∷ vs)) h (plain (λ j. Shaped fs (λ vs. P (item j ∷ vs))) f g)
shaped P (hcons (fit_group {is = is} l f) h) g = shaped (λ vs. P (group is ∷ vs)) h (g is f)
shaped P (hrest {is = is} f h) g = shaped (λ vs. P (rest is ∷ vs)) h (g is f)

-- a list of entries, read and written again
pub items_back : {A : Type 0} (e : Entry) (f : A → Item) (g : Item → A) → Plain e (λ i. f (g i) ≡ i) → {is : List Item} → FitItems e is → map f (map g is) ≡ is
items_back e f g h no_item = refl
items_back e f g h (and_item i is) = ap₂ ◌∷◌ (plain (λ i. f (g i) ≡ i) i h) (items_back e f g h is)

-- RECORDS: Q of every record that was read, given a step for each row
module _ (Q : Class → Tree → Type 0) where
  abbrev pub Step : Class → ℕ → List Field → Pattern → Type 0
  Step c k fs p = (at : ℕ) (v : List FieldValue) (ts : Trees) → Holds fs v → Follows Q p ts → Q c (node at k v ts)

  module _ (step : (c : Class) → OfRows Step c rows) where
    mutual
      of_read : {c : Class} {t : Tree} → Read c t → Q c t
      of_read (rnode {c = c} {at = at} {k = k} {fs = fs} {p = p} {vs = vs} {ts = ts} r h rs) = step c k fs p r at vs ts h (of_reads rs)

      of_reads : {p : Pattern} {ts : Trees} → Reads p ts → Follows Q p ts
      of_reads (rnil {p} m) = may_end_lem Q p m
      of_reads (rcons {p = p} a r rs) = goes_on Q p a (of_read r) (of_reads rs)

    pub follow : (s : List ℕ) (q : Pattern) → Bytes s → check_records s 0 (length s) q ≡ Good → Follows Q q (read_records s 0 (length s))
    unfolding check_records
    follow s q h e = of_reads (reads h (fine _ s 0 (length s) q e))

-- BYTES: the sheet is what is written of its records
pub written : (s : List ℕ) (q : Pattern) → Bytes s → check_records s 0 (length s) q ≡ Good → write_trees (read_records s 0 (length s)) ≡ s
unfolding check_records
written s q h e =
    let w : Lies s 0 (length s) (write_trees (read_records s 0 (length s))) = trees_lie h (fine _ s 0 (length s) q e) in
    whole_back w.stands (omega (arith, w.long))

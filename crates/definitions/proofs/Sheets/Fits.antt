-- Which trees of records fit the rows. Assumes nothing: these are definitions for proofs, that no promise cites.
use Prim.Native.Nat.{ℕ, ◌^◌, ◌<◌, ◌≤◌}
use mathlib.Core.Path.{◌≡◌}
use mathlib.Core.Bool.{true}
use mathlib.Core.List.{List, [], ◌∷◌}
use mathlib.Core.Option.{none, some}
use lib.ListN.{length}
use Rattle.definitions.specs.Grammar.{Class, number, Entry, Field, Pattern, counted, ir_type, listed, name_and_type, optional, rows, single, up_to, value_and_type}
use Rattle.definitions.specs.Ir.{IrType, name_of}
use Rattle.definitions.specs.Records.{Item, Tree, Trees, FieldValue, after, group, item, left, may_end, node, opt, pair, param, rest, row, row_in, size_of, small, tcons, tnil, ty, word}

pub data FitItem : Entry → Item → Type 0 where
  fit_small : {m n : ℕ} → n ≤ m → n < 65536 → FitItem (up_to m) (small n)
  fit_none : FitItem optional (opt none)
  fit_some : {n : ℕ} → n < 65535 → FitItem optional (opt (some n))
  fit_raw : {w n : ℕ} → n < 256 ^ w → FitItem (number w) (word w n)
  fit_type : {t : IrType} → name_of t < 65535 → FitItem ir_type (ty t)
  fit_param : {v : ℕ} {t : IrType} → v < 65535 → name_of t < 65535 → FitItem value_and_type (param v t)
  fit_pair : {a b : ℕ} → a < 65535 → b < 65535 → FitItem name_and_type (pair a b)

pub data FitItems (e : Entry) : List Item → Type 0 where
  no_item : FitItems e []
  and_item : {i : Item} {is : List Item} → FitItem e i → FitItems e is → FitItems e (i ∷ is)

pub data FitValue : Field → FieldValue → Type 0 where
  fit_one : {e : Entry} {i : Item} → FitItem e i → FitValue (single e) (item i)
  fit_group : {e : Entry} {is : List Item} → length is < 65536 → FitItems e is → FitValue (counted e) (group is)

-- the fields of a record with these children: a list without a count is the last field, and no child follows it
pub data FitValues : List Field → List FieldValue → Trees → Type 0 where
  no_value : {ts : Trees} → FitValues [] [] ts
  and_value : {f : Field} {v : FieldValue} {fs : List Field} {vs : List FieldValue} {ts : Trees} → FitValue f v → FitValues fs vs ts → FitValues (f ∷ fs) (v ∷ vs) ts
  last_rest : {e : Entry} {is : List Item} → 0 < size_of e → FitItems e is → FitValues (listed e ∷ []) (rest is ∷ []) tnil

-- a record of a class, and records that follow a pattern
mutual
  pub data FitTree : Class → Tree → Type 0 where
    fit_node : {c : Class} {at k : ℕ} {fs : List Field} {vs : List FieldValue} {p : Pattern} {ts : Trees}
        → row_in k rows ≡ row c fs p → k < 65536
        → FitValues fs vs ts → FitTrees p ts → FitTree c (node at k vs ts)

  pub data FitTrees : Pattern → Trees → Type 0 where
    no_tree : {p : Pattern} → may_end p ≡ true → FitTrees p tnil
    and_tree : {p q : Pattern} {c : Class} {t : Tree} {ts : Trees} → after p c ≡ left q → FitTree c t → FitTrees q ts → FitTrees p (tcons t ts)

-- How wide a record that passed is: the ways of the code through `too_wide`. Assumes nothing.
use mathlib.Core.Path.{◌≡◌, sym, ap, ◌∙◌}
use mathlib.Core.List.{List, [], ◌∷◌}
use mathlib.Core.Logic.{◌⊎◌, inl, inr, ⊎_elim}
use Prim.Native.Nat.{ℕ, ◌+◌, ◌-◌, ◌/◌, ◌≤◌}
use native.Mathlib.Omega.{arith}
use lib.Dec.{leb}
use lib.ListN.{length}
use Rattle.definitions.specs.Fields.{le}
use Rattle.definitions.specs.Grammar.{rows, up_to, name_and_type, listed}
use Rattle.definitions.specs.Records.{size_of, FieldValue, field_end, fields_end, row_in, row_fields, read_value, read_values, read_records, items_at}
use Rattle.definitions.specs.ContractSheet.{count_trees}
use Rattle.definitions.proofs.Sheets.Reads.{items_count}
use Rattle.definitions.proofs.Sheets.Singles.{after, starts}
use Rattle.sheet.specs.Limits.{too_wide, HasArguments}
use Rattle.sheet.specs.Passed.{Node, Passed, Standing, record_kind, stop_of, body_of, values_at, children_of}
use Rattle.sheet.proofs.Nodes.{opens, head_of, children_of_lem, values_of}

-- an Emit or a Call: 16 arguments at most
arguments_limit : {k : ℕ} → HasArguments k → (v : List FieldValue) (m : ℕ) → too_wide k v m ≡ leb 17 m
unfolding too_wide
arguments_limit (inl q) v m = rw q
arguments_limit (inr q) v m = rw q

module _ {s : List ℕ} {at stop k : ℕ} (w : Standing s at stop k) where
  n : Node s at w.end
  n = opens w.passed w.starts

  es : stop ≡ stop_of s at
  es = w.stop_is

  stop_inside : stop ≤ length s
  stop_inside = let h : stop_of s at ≤ w.end = n.head.high in let i : w.end ≤ length s = w.inside in omega (arith, es)

  is : {j : ℕ} → k ≡ j → record_kind s at ≡ j
  is e = sym w.kind_is ∙ e

  -- a struct
  module _ (e : k ≡ 3) where
    pub struct_starts : at + 8 ≤ stop
    unfolding row_fields row_in rows after size_of
    struct_starts = omega (arith, (starts (up_to 65534 ∷ []) (listed name_and_type ∷ []) (head_of n (is e))).fits)

    pub struct_wide : leb 65 ((stop - (at + 8)) / 4) ≡ too_wide k (values_at s at) (count_trees (children_of s at))
    unfolding too_wide row_fields row_in rows field_end read_values size_of read_value
    struct_wide =
        let z : (stop_of s at - (at + 6 + 2)) / 4 ≡ (stop - (at + 8)) / 4 = omega arith in
        let l : length (items_at 1 (values_at s at)) ≡ (stop - (at + 8)) / 4 = ap (λ (v : List FieldValue). length (items_at 1 v)) (values_of n (is e)) ∙ items_count name_and_type _ s _ ∙ z in
        rw (e, l)

  -- a function
  module _ (e : k ≡ 4) where
    pub function_starts : at + 12 + 2 ≤ length s
    unfolding row_fields row_in rows field_end fields_end size_of
    function_starts = let b : body_of s at ≤ stop_of s at = n.head.mid in omega (arith, children_of_lem n (is e), stop_inside)

    pub function_wide : {x : ℕ} → x ≡ le 2 s (at + 12) → leb 17 x ≡ too_wide k (values_at s at) (count_trees (children_of s at))
    unfolding too_wide row_fields row_in rows field_end read_values size_of read_value
    function_wide f =
        let z : at + 6 + 2 + 2 + 2 ≡ at + 12 = omega arith in
        let l : length (items_at 3 (values_at s at)) ≡ le 2 s (at + 12) = ap (λ (v : List FieldValue). length (items_at 3 v)) (values_of n (is e)) ∙ items_count name_and_type _ s _ ∙ rw z in
        rw (e, l, f)

  -- an Emit or a Call: its arguments are its children
  module _ (e : HasArguments k) where
    arguments_start : body_of s at ≡ at + 8
    unfolding row_fields row_in rows field_end fields_end size_of
    arguments_start = ⊎_elim (λ q. omega (arith, children_of_lem n (is q))) (λ q. omega (arith, children_of_lem n (is q))) e

    pub arguments_passed : Passed s (at + 8) stop × (stop ≤ length s)
    arguments_passed = (record { pattern = n.pattern; fine = rw (arguments_start, ← es) at n.kids }, stop_inside)

    pub arguments_wide : {x : ℕ} → x ≡ count_trees (read_records s (at + 8) stop) → leb 17 x ≡ too_wide k (values_at s at) (count_trees (children_of s at))
    arguments_wide g = rw (arguments_limit e, arguments_start, ← es, g)

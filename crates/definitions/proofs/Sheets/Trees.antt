-- Trees that fit: their bytes have the form, and are read back. Assumes nothing.
use mathlib.Core.Path.{◌≡◌, refl, ap, ap₂, sym, ◌∙◌}
use mathlib.Core.List.{List, ◌++◌}
use mathlib.Core.Option.{some}
use Prim.Native.Nat.{ℕ, zero, suc, ◌+◌, ◌-◌, ◌^◌, ◌<◌, ◌≤◌}
use native.Mathlib.Nat.{not-suc-le-zero}
use native.Mathlib.Omega.{arith}
use lib.ListN.{length, length-append}
use borrow.Author.Tests.{le-leb, ne_eqb, eq-eqb}
use Rattle.definitions.specs.Fields.{bytes, le}
use Rattle.definitions.specs.Grammar.{Class, Field, Pattern, rows}
use Rattle.definitions.specs.Records.{Good, Tree, Trees, FieldValue, after, and_then, check_rest, fields_end, left, node, past_all, read_node, records_from, row, row_fields, row_in, start_at, start_if, start_row, starts, tcons, tnil, trees_from, write_record, write_tree, write_trees, write_values}
use Rattle.definitions.proofs.Sheets.Fits.{FitTree, fit_node, FitTrees, no_tree, and_tree}
use Rattle.definitions.proofs.Fields.{Stands, Both, split, le_bytes}
use Rattle.definitions.proofs.Sheets.Passed.{all_past}
use Rattle.definitions.proofs.Sheets.Values.{ValuesOk, values_law}

-- trees as they are read where their bytes stand from `at` on: each node with its place
unfoldable mutual
  pub placed_tree : ℕ → Tree → Tree
  placed_tree at (node p k vs ts) = node at k vs (placed_trees (at + 6 + length (write_values vs)) ts)

  pub placed_trees : ℕ → Trees → Trees
  placed_trees at tnil = tnil
  placed_trees at (tcons t ts) = tcons (placed_tree at t) (placed_trees (at + length (write_tree t)) ts)

-- what is found where records stand: the check passes and the reader gives them back
pub record TreesOk (n : ℕ) (p : Pattern) (ts : Trees) (s : List ℕ) (at end : ℕ) : Type 0 where
  pub form : records_from n s at end p ≡ Good
  pub is : trees_from n s at end ≡ ts

-- a record's head, and where its parts stand
record HeadOk (k : ℕ) (body : List ℕ) (s : List ℕ) (at : ℕ) : Type 0 where
  size : le 4 s at ≡ 6 + length body
  kind : le 2 s (at + 4) ≡ k
  inside : Stands s (at + 6) body

pub wrap_long : (k : ℕ) (body : List ℕ) → length (write_record k body) ≡ 6 + length body
unfolding write_record bytes
wrap_long k body = omega arith

head_law : (k : ℕ) (body : List ℕ) {s : List ℕ} {at : ℕ} → k < 65536 → 6 + length body < 256 ^ 4 → Stands s at (write_record k body) → HeadOk k body s at
unfolding write_record bytes
head_law k body {s} {at} l m h =
    let b : Both s at (bytes 4 (6 + length body)) (bytes 2 k ++ body) = split (bytes 4 (6 + length body)) h in
    let c : Both s (at + 4) (bytes 2 k) body = split (bytes 2 k) b.back in
    let e : at + 4 + 2 ≡ at + 6 = omega arith in
    record { size = le_bytes 4 m b.front; kind = le_bytes 2 l c.front; inside = rw e at c.back }

-- the step at one record, over plain places: v is the length of its fields, w of its children
module _ (k : ℕ) (q : Pattern) (at n v b : ℕ) {c : Class} {fs : List Field} {vs : List FieldValue} {p : Pattern} {ts : Trees} {q' : Pattern} {us : Trees} {s : List ℕ} {end : ℕ}
    (r : row_in k rows ≡ row c fs p) (a : after q c ≡ left q') (size : le 4 s at ≡ 6 + b) (kind : le 2 s (at + 4) ≡ k)
    (vals : ValuesOk fs vs s (at + (6 + b)) (at + 6)) (v-is : length (write_values vs) ≡ v) (fits : at + (6 + b) ≤ end)
    (inner : TreesOk n p ts s (at + 6 + v) (at + (6 + b))) (next : TreesOk n q' us s (at + (6 + b)) end) where
  past_is : past_all fs s (at + (6 + b)) (at + 6) ≡ some (at + 6 + v)
  past_is = vals.past ∙ ap (λ (x : ℕ). some (at + 6 + x)) v-is

  body_is : fields_end fs s (at + (6 + b)) (at + 6) ≡ at + 6 + v
  body_is = sym (all_past fs s (at + (6 + b)) (at + 6) (at + 6 + v) past_is (omega arith)).is

  start_is : start_at s at end q ≡ starts (at + 6 + v) (at + (6 + b)) p q'
  unfolding start_at start_row start_if
  start_is =
      rw (size, kind, le-leb 6 (end - at) (omega arith), le-leb 6 (6 + b) (omega arith), le-leb (6 + b) (end - at) (omega arith), r, a, past_is)

  one_step : TreesOk (suc n) q (tcons (node at k vs ts) us) s at end
  unfolding records_from trees_from check_rest and_then read_node row_fields
  one_step = record {
    form = rw (ne_eqb at end (λ e. omega arith), start_is, check_rest, inner.form, and_then) next.form;
    is = rw (ne_eqb at end (λ e. omega arith), trees_from) (rw (size, kind, r, row_fields, body_is) (ap₂ tcons (ap₂ (node at k) vals.is inner.is) next.is));
  }

pub tree_long : (t : Tree) → 6 ≤ length (write_tree t)
unfolding write_tree
tree_long (node at k vs ts) = omega (arith, wrap_long k (write_values vs ++ write_trees ts))

mutual
  unfolding write_tree records_from trees_from placed_tree

  tree_law : {c : Class} {t : Tree} {q q' : Pattern} {us : Trees} {s : List ℕ} {at end : ℕ} → FitTree c t → (n : ℕ) → end < 256 ^ 4 → after q c ≡ left q'
      → Stands s at (write_tree t) → at + length (write_tree t) ≤ end → end - at < suc n
      → TreesOk n q' us s (at + length (write_tree t)) end → TreesOk (suc n) q (tcons (placed_tree at t) us) s at end
  tree_law {q = q} {us = us} {s = s} {at = at} {end = end} (fit_node {k = k} {fs = fs} {vs = vs} {p = p} {ts = ts} r k-fits fit kids) n m a h z l next =
      let body : List ℕ = write_values vs ++ write_trees ts in
      let wl : length (write_record k body) ≡ 6 + length body = wrap_long k body in
      let hd : HeadOk k body s at = head_law k body k-fits (omega arith) h in
      let b : Both s (at + 6) (write_values vs) (write_trees ts) = split (write_values vs) hd.inside in
      let bl : length body ≡ length (write_values vs) + length (write_trees ts) = length-append (write_values vs) (write_trees ts) in
      let vals : ValuesOk fs vs s (at + (6 + length body)) (at + 6) = values_law fit b.front (omega arith) in
      one_step k q at n (length (write_values vs)) (length body) r a hd.size hd.kind vals refl (omega arith)
      (trees_law kids n (omega arith) b.back (omega arith) (omega arith)) (rw wl at next)

  pub trees_law : {p : Pattern} {ts : Trees} {s : List ℕ} {at end : ℕ} → FitTrees p ts → (n : ℕ) → end < 256 ^ 4 → Stands s at (write_trees ts) → at + length (write_trees ts) ≡ end → end - at < n → TreesOk n p (placed_trees at ts) s at end
  trees_law (no_tree e) zero m h z l = absurd (not-suc-le-zero l)
  trees_law {at = at} {end = end} (no_tree e) (suc n) m h z l =
      let q : at ≡ end = omega arith in
      record { form = rw (eq-eqb at end q, e); is = rw (eq-eqb at end q, trees_from) }
  trees_law (and_tree a f g) zero m h z l = absurd (not-suc-le-zero l)
  trees_law {s = s} {at = at} {end = end} (and_tree {t = t} {ts = ts} a f g) (suc n) m h z l =
      let b : Both s at (write_tree t) (write_trees ts) = split (write_tree t) h in
      let k : at + (length (write_tree t) + length (write_trees ts)) ≡ end = rw length-append at z in
      tree_law f n m a b.front (omega arith) l (trees_law g n m b.back (omega arith) (omega (arith, tree_long t)))

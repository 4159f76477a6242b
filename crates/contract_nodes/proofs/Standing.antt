-- What stands at a place, as the equations that a node carries and as the proof tree: each gives the other. Assumes nothing.
use mathlib.Core.Path.{◌≡◌, refl, subst}
use mathlib.Core.Bool.{Bool, true, false, ◌&&◌, ◌||◌}
use mathlib.Core.List.{List}
use Prim.Native.Nat.{ℕ, ◌-◌, ◌≤◌}
use native.Mathlib.Omega.{arith}
use lib.Dec.{leb, eqb}
use borrow.Author.Tests.{leb-false, eq-eqb, lt-leb}
use Rattle.definitions.specs.Grammar.{Class, class_no, done}
use Rattle.definitions.specs.Records.{Good, and_then, after, may_end, Tree, node, Trees, tnil, tcons, read_records, FieldValue}
use Rattle.definitions.specs.ContractSheet.{Counts, none_before, and_this, over, limit_tree, limit_trees}
use Rattle.definitions.specs.Fine.{Head, ends, goes}
use Rattle.definitions.proofs.Contracts.Limits.{measured}
use Rattle.definitions.proofs.Results.{by_test}
use Rattle.definitions.proofs.Sheets.Passed.{bad_good, both_good}
use Rattle.definitions.proofs.Sheets.Steps.{One, this, one_step}
use Rattle.sheet.specs.Passed.{stop_of}
use Rattle.sheet.proofs.Nodes.{node_of}
use Rattle.sheet.proofs.Standing.{good, kept}
use Rattle.contract_nodes.specs.Ready.{tree_at, Ready, ReadyAll, RecordStands, StandAll}

-- THE LIMITS: fewer records before one do not make it over
record Fewer (n m : Counts) : Type 0 where
  storage : n.storage ≤ m.storage
  structs : n.structs ≤ m.structs
  functions : n.functions ≤ m.functions

fewer_this : {n m : Counts} (t : Tree) → Fewer n m → Fewer (and_this t n) (and_this t m)
fewer_this t f = record { storage = omega (arith, f.storage); structs = omega (arith, f.structs); functions = omega (arith, f.functions) }

none_fewer : (m : Counts) → Fewer none_before m
none_fewer m = record { storage = omega arith; structs = omega arith; functions = omega arith }

both_false : (a b : Bool) → a || b ≡ false → (a ≡ false) × (b ≡ false)
both_false true b e = cc
both_false false b e = (refl, e)

one_false : (a : Bool) (most n m : ℕ) → n ≤ m → a && leb most m ≡ false → a && leb most n ≡ false
one_false true most n m h e = lt-leb most n (omega (arith, leb-false most m e))
one_false false most n m h e = refl

not_over : (k : ℕ) (v : List FieldValue) (ts : Trees) (d : ℕ) {n m : Counts} → Fewer n m → over (measured k v ts d m) ≡ false → over (measured k v ts d n) ≡ false
unfolding over
not_over k v ts d {n} {m} f e =
    let a = both_false (eqb k 4 && leb 64 m.functions) _ e in
    let b = both_false (eqb k 3 && leb 64 m.structs) _ a.1 in
    let c = both_false (eqb k 2 && leb 256 m.storage) _ b.1 in
    rw (one_false (eqb k 4) 64 n.functions m.functions f.functions a.0, one_false (eqb k 3) 64 n.structs m.structs f.structs b.0, one_false (eqb k 2) 256 n.storage m.storage f.storage c.0) c.1

fewer_tree : (t : Tree) (d : ℕ) {n m : Counts} → Fewer n m → limit_tree t d m ≡ Good → limit_tree t d n ≡ Good
unfolding limit_tree
fewer_tree (node at k v ts) d {n} {m} f e =
    by_test (over (measured k v ts d m)) (λ q. absurd (bad_good (rw q at e))) (λ q. rw (not_over k v ts d f q) (rw q at e))

fewer_trees : (ts : Trees) (d : ℕ) {n m : Counts} → Fewer n m → limit_trees ts d m ≡ Good → limit_trees ts d n ≡ Good
unfolding limit_tree and_then
fewer_trees tnil d f e = refl
fewer_trees (tcons t ts) d {n} {m} f e =
    let g = both_good _ _ e in
    rw (fewer_tree t d f g.0) (fewer_trees ts d (fewer_this t f) g.1)

-- A RECORD
pub ready : {c : Class} {s : List ℕ} {at d : ℕ} → RecordStands c s at d → Ready c s at d
unfolding node_of
ready {c} {s} {at} {d} z = go (one_step c done (kept z.0))
  where
    go : One s at (stop_of s at) c done → Ready c s at d
    go (this hd kids rest) = record {
      end = stop_of s at;
      node_at = node_of hd kids rest;
      class_is = refl;
      inside = z.1;
      depth = 41 - d;
      sum = omega (arith, z.3);
      before = none_before;
      limit = z.2;
    }

pub stands : {c : Class} {s : List ℕ} {at d : ℕ} → Ready c s at d → RecordStands c s at d
unfolding after may_end
stands {c} {s} {at} {d} r =
    let n = r.node_at in
    let e : r.depth ≡ 41 - d = omega (arith, r.sum) in
    let h : Head s at (stop_of s at) n.class n.fields n.pattern _ (stop_of s at) = record { is = n.head.is; stop_is = n.head.stop_is; valid = n.head.valid; body_is = n.head.body_is; low = n.head.low; mid = n.head.mid; high = omega arith } in (
      good (goes {r = done} h (rw (r.class_is, eq-eqb (class_no c) (class_no c) refl)) n.kids (ends refl refl)),
      omega (arith, n.head.high, r.inside),
      subst (λ (x : ℕ). limit_tree (tree_at s at) x none_before ≡ Good) e (fewer_tree (tree_at s at) r.depth (none_fewer r.before) r.limit),
      omega (arith, r.sum),
    )

-- RECORDS OF ONE CLASS
pub ready_all : {c : Class} {s : List ℕ} {at end d : ℕ} → StandAll c s at end d → ReadyAll c s at end d
ready_all {d = d} z = record { fine = kept z.0; inside = z.1; depth = 41 - d; sum = omega (arith, z.3); before = none_before; limit = z.2 }

pub stand_all : {c : Class} {s : List ℕ} {at end d : ℕ} → ReadyAll c s at end d → StandAll c s at end d
stand_all {s = s} {at = at} {end = end} {d = d} r =
    let e : r.depth ≡ 41 - d = omega (arith, r.sum) in (
      good r.fine,
      r.inside,
      subst (λ (x : ℕ). limit_trees (read_records s at end) x none_before ≡ Good) e (fewer_trees (read_records s at end) r.depth (none_fewer r.before) r.limit),
      omega (arith, r.sum),
    )

-- Refusal 4, one record at a time, and each way of the code through it. Assumes nothing.
use mathlib.Core.Path.{◌≡◌, refl, sym}
use mathlib.Core.Bool.{Bool, true, false, ◌||◌}
use mathlib.Core.List.{List}
use Prim.Native.Nat.{ℕ, suc, ◌+◌, ◌<◌, ◌≤◌}
use native.Mathlib.Numerals.{add-one}
use native.Mathlib.Omega.{arith}
use lib.Dec.{leb, eqb}
use lib.ListN.{length}
use borrow.Author.Tests.{le-leb, lt-leb, eqb-true}
use Rattle.definitions.specs.Records.{pick, Good, Bad, and_then, read_records, items_at}
use Rattle.definitions.specs.ContractSheet.{count_trees, Counts, none_before, Measured, over, limit_tree, limit_trees}
use Rattle.definitions.proofs.Results.{by_test}
use Rattle.definitions.proofs.Contracts.Limits.{measured}
use Rattle.definitions.proofs.Sheets.Passed.{read_end}
use Rattle.sheet.specs.Limits.{total, and_kind, too_many, too_wide}
use Rattle.sheet.specs.Passed.{Node, Passed, record_kind, stop_of, body_of, values_at, children_of}
use Rattle.sheet.proofs.Nodes.{opens, in_order}

-- the depth is looked at first by the code, and last by `over`
depth_first : (x y d : Bool) → (x || (y || (d || false))) ≡ (d || (x || y))
depth_first true y true = refl
depth_first true y false = refl
depth_first false true true = refl
depth_first false true false = refl
depth_first false false true = refl
depth_first false false false = refl

-- `over` in three parts
split : (r : Measured) → let n = r.before in over r ≡ (leb 41 r.depth || (too_many r.kind n.storage n.structs n.functions || too_wide r.kind r.fields r.children))
unfolding over too_many too_wide
split r =
    let k : ℕ = r.kind in
    let d : Bool = leb 41 r.depth in
    let wide : Bool = leb 17 r.children in
    by_test (eqb k 2) (λ q. rw (eqb-true k 2 q) (depth_first (leb 256 r.before.storage) false d))
    (λ q2. by_test (eqb k 3) (λ q. rw (eqb-true k 3 q) (depth_first (leb 64 r.before.structs) (leb 65 (length (items_at 1 r.fields))) d))
    (λ q3. by_test (eqb k 4) (λ q. rw (eqb-true k 4 q) (depth_first (leb 64 r.before.functions) (leb 17 (length (items_at 3 r.fields))) d))
    (λ q4. by_test (eqb k 19) (λ q. rw (eqb-true k 19 q) (depth_first false wide d))
    (λ q19. by_test (eqb k 37) (λ q. rw (eqb-true k 37 q) (depth_first false wide d)) (λ q. rw (q2, q3, q4, q19, q) (depth_first false false d))))))

-- the records before `place` are within the limits: n of them are counted
pub record Limiting (s : List ℕ) (at end depth place : ℕ) (n : Counts) : Type 0 where
  pub passed : Passed s place end
  pub few : total n ≤ place
  pub same : limit_trees (read_records s at end) depth none_before ≡ limit_trees (read_records s place end) depth n

-- and so is the record at `place`, of kind k and stopping at `stop`
pub record Clear (s : List ℕ) (at end depth place stop k : ℕ) (n : Counts) : Type 0 where
  pub passed : Limiting s at end depth place n
  pub low : place + 6 ≤ body_of s place
  pub mid : body_of s place ≤ stop
  pub most : stop ≤ end
  pub kids : Passed s (body_of s place) stop
  pub rest : Passed s stop end
  pub is : limit_trees (read_records s at end) depth none_before
      ≡ and_then (limit_trees (read_records s (body_of s place) stop) (depth + 1) none_before) (limit_trees (read_records s stop end) depth (and_kind k n))

and_few : (k : ℕ) (n : Counts) → total (and_kind k n) ≤ total n + 1
and_few k n = by_test (eqb k 2) (λ q. rw (eqb-true k 2 q) (omega arith)) (λ q2. by_test (eqb k 3) (λ q. rw (eqb-true k 3 q) (omega arith)) (λ q3. by_test (eqb k 4) (λ q. rw (eqb-true k 4 q) (omega arith)) (λ q. rw (q2, q3, q) (omega arith))))

module _ {s : List ℕ} {at end depth place : ℕ} {b : Counts} (g : Limiting s at end depth place b) where
  pub over_now : end ≤ place → Good ≡ limit_trees (read_records s at end) depth none_before
  unfolding limit_tree
  over_now h = let z : end ≡ place = omega (arith, in_order g.passed) in rw (g.same, z, read_end s place)

  -- the next record
  module _ (h : place < end) where
    n : Node s place end
    n = opens g.passed h

    opened : {k : ℕ} → k ≡ record_kind s place → limit_trees (read_records s at end) depth none_before
        ≡ and_then (pick (leb 41 depth || (too_many k b.storage b.structs b.functions || too_wide k (values_at s place) (count_trees (children_of s place)))) (Bad place) (limit_trees (children_of s place) (suc depth) none_before))
        (limit_trees (read_records s (stop_of s place) end) depth (and_kind k b))
    unfolding limit_tree
    opened e = rw (g.same, n.is, split (measured (record_kind s place) (values_at s place) (children_of s place) depth b), e)

    -- k is its kind: it is over, or it is not
    module _ {k : ℕ} (e : k ≡ record_kind s place) where
      pub too_deep : 41 ≤ depth → Bad place ≡ limit_trees (read_records s at end) depth none_before
      unfolding and_then
      too_deep d = rw (opened e, le-leb 41 depth d)

      module _ (d : depth ≤ 40) {x : Bool} (p : x ≡ too_many k b.storage b.structs b.functions) where
        shallow : leb 41 depth ≡ false
        shallow = lt-leb 41 depth (omega arith)

        pub one_too_many : x ≡ true → Bad place ≡ limit_trees (read_records s at end) depth none_before
        unfolding and_then
        one_too_many q = rw (opened e, shallow, ← p, q)

        module _ (q : x ≡ false) {y : Bool} (r : y ≡ too_wide k (values_at s place) (count_trees (children_of s place))) where
          pub too_wide_lem : y ≡ true → Bad place ≡ limit_trees (read_records s at end) depth none_before
          unfolding and_then
          too_wide_lem t = rw (opened e, shallow, ← p, q, ← r, t)

          pub clears : y ≡ false → {stop : ℕ} → stop ≡ stop_of s place → Clear s at end depth place stop k b
          clears t {stop} f =
              let z : stop_of s place ≡ stop = sym f in
              record {
                passed = g;
                low = n.head.low;
                mid = rw z at n.head.mid;
                most = rw z at n.head.high;
                kids = record { pattern = n.pattern; fine = rw z at n.kids };
                rest = rw z at n.rest;
                is = rw (← z, add-one depth) (rw (opened e, shallow, ← p, q, ← r, t));
              }

module _ {s : List ℕ} {at end depth place stop k : ℕ} {b : Counts} (g : Clear s at end depth place stop k b) where
  -- m counts this record too; `body` is where its children start
  module _ {body : ℕ} (eb : body ≡ body_of s place) where
    pub kids_passed : Passed s body stop
    kids_passed = rw eb g.kids

    pub goes_on : {m : Counts} → m ≡ and_kind k b → Good ≡ limit_trees (read_records s body stop) (depth + 1) none_before → Limiting s at end depth stop m
    unfolding and_then
    goes_on {m} em e =
        let low : place + 6 ≤ body_of s place = g.low in
        let mid : body_of s place ≤ stop = g.mid in
        let x : total b ≤ place = g.passed.few in
        let y : total (and_kind k b) ≤ total b + 1 = and_few k b in
        record { passed = g.rest; few = rw em (omega arith); same = rw (g.is, ← eb, ← e, em) }

    pub none_inside : stop ≤ body → Good ≡ limit_trees (read_records s body stop) (depth + 1) none_before
    unfolding limit_tree
    none_inside h =
        let mid : body_of s place ≤ stop = g.mid in
        let z : stop ≡ body = omega (arith, eb) in
        rw (z, read_end s body)

    pub ends_bad : {x : ℕ} → Bad x ≡ limit_trees (read_records s body stop) (depth + 1) none_before → Bad x ≡ limit_trees (read_records s at end) depth none_before
    unfolding and_then
    ends_bad e = rw (g.is, ← eb, ← e)

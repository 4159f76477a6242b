-- What a sheet within the limits (4) has. Assumes nothing.
use mathlib.Core.Path.{◌≡◌, refl, sym, subst}
use mathlib.Core.Bool.{Bool, true, false, ◌&&◌}
use mathlib.Core.List.{List, [], ◌∷◌}
use Prim.Native.Nat.{ℕ, suc, ◌+◌, ◌<◌, ◌≤◌}
use native.Mathlib.Omega.{arith}
use lib.Dec.{leb, eqb}
use lib.ListN.{length, length-map}
use borrow.Author.Tests.{leb-false, leb-true, eqb-true, eqb-false, eq-eqb, le-leb}
use Rattle.definitions.specs.Ast.{Struct, Function}
use Rattle.definitions.specs.Records.{pick, FieldValue, Good, Tree, node, Trees, tnil, tcons, gather, items_at, kind_in}
use Rattle.definitions.specs.ContractSheet.{struct_of, function_of, count_trees, Counts, none_before, one_if, and_this, Measured, over_limits, any_of, over, limit_tree, limit_trees}
use Rattle.definitions.specs.All.{All, anil, acons}
use Rattle.definitions.proofs.Results.{by_test}
use Rattle.definitions.proofs.Sheets.Passed.{bad_good, both_good}

-- THE KINDS of the contract's children: how many of a kind there may be, and how many there were
pub data TopKind : ℕ → Type 0 where
  storage : TopKind 2
  struct : TopKind 3
  function : TopKind 4

abbrev pub most_of : ℕ → ℕ
most_of k = pick (eqb k 2) 256 64

abbrev pub count_of : ℕ → Counts → ℕ
count_of k n = pick (eqb k 2) n.storage (pick (eqb k 3) n.structs n.functions)

pub count_next : {k : ℕ} (t : Tree) (n : Counts) → TopKind k → count_of k (and_this t n) ≡ count_of k n + one_if k t
count_next t n storage = refl
count_next t n struct = refl
count_next t n function = refl

-- A RECORD that is not over: it is within each of the limits
pub record Within (r : Measured) : Type 0 where
  functions : r.kind ≡ 4 → r.before.functions < 64
  structs : r.kind ≡ 3 → r.before.structs < 64
  storage : r.kind ≡ 2 → r.before.storage < 256
  pub struct_fields : r.kind ≡ 3 → length (items_at 1 r.fields) < 65
  pub parameters : r.kind ≡ 4 → length (items_at 3 r.fields) < 17
  pub call_arguments : r.kind ≡ 37 → r.children < 17
  pub emit_arguments : r.kind ≡ 19 → r.children < 17
  pub shallow : r.depth < 41

none_of : (bs : List Bool) → any_of bs ≡ false → All (λ (b : Bool). b ≡ false) bs
none_of [] e = anil
none_of (true ∷ bs) e = absurd (let z : ◌≡◌ {A = ℕ} 0 1 = cc in omega arith)
none_of (false ∷ bs) e = acons refl (none_of bs e)

pub not_over : (r : Measured) → over r ≡ false → Within r
unfolding over
not_over r e = go (none_of (over_limits r) e)
  where
    below : {j m n : ℕ} → eqb r.kind j && leb m n ≡ false → r.kind ≡ j → n < m
    below {j} {m} {n} e q = leb-false m n (rw (eq-eqb r.kind j q) at e)

    go : All (λ (b : Bool). b ≡ false) (over_limits r) → Within r
    go (acons a (acons b (acons c (acons d (acons f (acons g (acons h (acons i anil)))))))) = record {
      functions = below a;
      structs = below b;
      storage = below c;
      struct_fields = below d;
      parameters = below f;
      call_arguments = below g;
      emit_arguments = below h;
      shallow = leb-false 41 r.depth i;
    }

pub room_for : {k : ℕ} {r : Measured} → TopKind k → Within r → r.kind ≡ k → count_of k r.before < most_of k
room_for storage w e = w.storage e
room_for struct w e = w.structs e
room_for function w e = w.functions e

-- a record with its children, as the limits look at it
abbrev pub measured : ℕ → List FieldValue → Trees → ℕ → Counts → Measured
measured k v ts d n = record { kind = k; fields = v; children = count_trees ts; depth = d; before = n }

-- one record that passed: it is not over, and its children passed
pub tree_within : (at k : ℕ) (v : List FieldValue) (ts : Trees) (d : ℕ) (n : Counts) → limit_tree (node at k v ts) d n ≡ Good → Within (measured k v ts d n) × (limit_trees ts (suc d) none_before ≡ Good)
unfolding limit_tree
tree_within at k v ts d n e = by_test (over (measured k v ts d n)) (λ q. absurd (bad_good (rw q at e))) (λ q. (not_over (measured k v ts d n) q, rw q at e))

-- what f makes of the records of one kind
module _ {A : Type 0} (j : ℕ) (f : Tree → A) (t : Tree) (ts : Trees) where
  pub gather_here : kind_in t ≡ j → gather j j f (tcons t ts) ≡ f t ∷ gather j j f ts
  gather_here e = rw (le-leb j (kind_in t) (omega arith), le-leb (kind_in t) j (omega arith))

  pub gather_past : (kind_in t ≡ j → ⊥) → gather j j f (tcons t ts) ≡ gather j j f ts
  gather_past h =
      by_test (leb j (kind_in t))
      (λ p. by_test (leb (kind_in t) j) (λ q. absurd (h (omega (arith, leb-true j (kind_in t) p, leb-true (kind_in t) j q)))) (λ q. rw (p, q)))
      (λ p. rw p)

  -- one count goes from n to m past the record, and stays within `most`
  counted_past : (n m most : ℕ) → (kind_in t ≡ j → n < most) → m ≡ n + pick (eqb (kind_in t) j) 1 0 → (m ≤ most → m + length (gather j j f ts) ≤ most) → n ≤ most
      → n + length (gather j j f (tcons t ts)) ≤ most
  counted_past n m most room e below h =
      by_test (eqb (kind_in t) j)
      (λ q.
      let k : kind_in t ≡ j = eqb-true (kind_in t) j q in
      let w : m ≡ n + 1 = rw q at e in
      rw (gather_here k) (omega (arith, room k, below (omega (arith, room k)))))
      (λ q.
      let w : m ≡ n + 0 = rw q at e in
      rw (gather_past (eqb-false (kind_in t) j q)) (omega (arith, below (omega arith))))

  each_past : (P : A → Type 0) → (kind_in t ≡ j → P (f t)) → All P (gather j j f ts) → All P (gather j j f (tcons t ts))
  each_past P p below =
      by_test (eqb (kind_in t) j)
      (λ q. let k : kind_in t ≡ j = eqb-true (kind_in t) j q in rw (gather_here k) (acons (p k) below))
      (λ q. rw (gather_past (eqb-false (kind_in t) j q)) below)

-- RECORDS within the limits, after so many of each kind: there are not too many of a kind
pub within : {A : Type 0} {k : ℕ} (f : Tree → A) (ts : Trees) (d : ℕ) (n : Counts) → TopKind k → limit_trees ts d n ≡ Good → count_of k n ≤ most_of k → count_of k n + length (gather k k f ts) ≤ most_of k
unfolding limit_tree
within f tnil d n T e h = omega arith
within {A} {k} f (tcons (node at i v ks) ts) d n T e h =
    let t : Tree = node at i v ks in
    let g = both_good _ _ e in
    counted_past k f t ts (count_of k n) _ (most_of k) (room_for T (tree_within at i v ks d n g.0).0) (count_next t n T) (λ l. within f ts d _ T g.1 l) h

-- and each of them is not over
each_within : {A : Type 0} (P : A → Type 0) (j : ℕ) (f : Tree → A) → ((at : ℕ) (v : List FieldValue) (ks : Trees) (r : Measured) → Within r → r.kind ≡ j → r.fields ≡ v → P (f (node at j v ks)))
    → (ts : Trees) (d : ℕ) (n : Counts) → limit_trees ts d n ≡ Good → All P (gather j j f ts)
unfolding limit_tree
each_within P j f p tnil d n e = anil
each_within P j f p (tcons (node at i v ks) ts) d n e =
    let g = both_good _ _ e in
    each_past j f (node at i v ks) ts P
    (λ q. subst (λ (x : ℕ). P (f (node at x v ks))) (sym q) (p at v ks (measured i v ks d n) (tree_within at i v ks d n g.0).0 q refl))
    (each_within P j f p ts d _ g.1)

pub structs_within : (ts : Trees) (d : ℕ) (n : Counts) → limit_trees ts d n ≡ Good → All (λ (s : Struct). length s.fields ≤ 64) (gather 3 3 struct_of ts)
structs_within = each_within (λ (s : Struct). length s.fields ≤ 64) 3 struct_of (λ at v ks r w k e. rw (length-map, ← e) (omega (arith, w.struct_fields k)))

pub functions_within : (ts : Trees) (d : ℕ) (n : Counts) → limit_trees ts d n ≡ Good → All (λ (f : Function). length f.params ≤ 16) (gather 4 4 function_of ts)
unfolding function_of
functions_within = each_within (λ (f : Function). length f.params ≤ 16) 4 function_of (λ at v ks r w k e. rw (length-map, ← e) (omega (arith, w.parameters k)))

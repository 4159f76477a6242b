-- The children of a record by the pattern of its kind: what stands first, and what is left after it. Assumes nothing.
use mathlib.Core.Path.{◌≡◌, refl, ap, sym, ◌∙◌, subst}
use mathlib.Core.List.{List, [], ◌∷◌, ◌++◌, map}
use mathlib.Core.Option.{some}
use Prim.Native.Nat.{ℕ, suc, ◌+◌, ◌-◌, ◌<◌, ◌≤◌}
use native.Mathlib.Omega.{arith}
use lib.ListN.{length}
use borrow.Author.Tests.{leb-true}
use Rattle.definitions.specs.Fields.{le}
use Rattle.definitions.specs.Ast.{enil, econs, snil, scons}
use Rattle.definitions.specs.Grammar.{Class, Entry, up_to, Field, single, Pattern, done, one, perhaps, many, rows}
use Rattle.definitions.specs.Records.{may_end, small, FieldValue, item, size_of, ok_item, read_item, past_all, fields_end, read_values, row, row_in, row_fields, Good, Tree, node, Trees, tnil, tcons, read_records}
use Rattle.definitions.specs.ContractSheet.{count_trees, Counts, none_before, and_this, Measured, limit_tree, limit_trees, expr_of, exprs_of, stmt_of, stmts_of}
use Rattle.definitions.proofs.Contracts.Limits.{Within, measured, tree_within}
use Rattle.definitions.specs.Fine.{Head, Fine}
use Rattle.definitions.proofs.Sheets.Passed.{both_good, read_end}
use Rattle.definitions.proofs.Sheets.Lines.{OfRows}
use Rattle.definitions.proofs.Sheets.Singles.{items_from, after, Valid, Starts, starts}
use Rattle.definitions.proofs.Sheets.Steps.{here, past, this, Step as Found, One, many_step, perhaps_step, one_step, done_ends, low}
use Rattle.sheet.specs.Passed.{Node, record_kind, stop_of, body_of, values_at, children_of}
use Rattle.sheet.proofs.Nodes.{node_of, head_of}
use Rattle.contract_nodes.specs.Ready.{tree_at, expr_at, exprs_from, stmt_at, stmts_from, Ready, ReadyAll}

-- records that follow the pattern p stand from `at` to `end`, at the depth 41 less d
pub record Kids (p : Pattern) (s : List ℕ) (at end d : ℕ) : Type 0 where
  pub fine : Fine s at end p
  pub inside : end ≤ length s
  pub depth : ℕ
  pub sum : depth + d ≡ 41
  pub before : Counts
  pub limit : limit_trees (read_records s at end) depth before ≡ Good

pub all_of : {c : Class} {s : List ℕ} {at end d : ℕ} → Kids (many c done) s at end d → ReadyAll c s at end d
all_of k = record { fine = k.fine; inside = k.inside; depth = k.depth; sum = k.sum; before = k.before; limit = k.limit }

pub kids_all : {c : Class} {s : List ℕ} {at end d : ℕ} → ReadyAll c s at end d → Kids (many c done) s at end d
kids_all k = record { fine = k.fine; inside = k.inside; depth = k.depth; sum = k.sum; before = k.before; limit = k.limit }

-- THE FIRST OF THEM: a record of the class c, and after it what follows p
pub record First (c : Class) (p : Pattern) (s : List ℕ) (at end d : ℕ) : Type 0 where
  pub ready : Ready c s at d
  pub is : read_records s at end ≡ tcons (tree_at s at) (read_records s (stop_of s at) end)
  pub low : at + 6 ≤ stop_of s at
  pub high : stop_of s at ≤ end
  pub rest : Kids p s (stop_of s at) end d

-- a record of the class c, and then r; or none of it, and then p
pub data Step (c : Class) (r p : Pattern) (s : List ℕ) (at end d : ℕ) : Type 0 where
  there : First c r s at end d → Step c r p s at end d
  skipped : Kids p s at end d → Step c r p s at end d

first : {c : Class} {fs : List Field} {p q r : Pattern} {s : List ℕ} {at end b stop d : ℕ} → Kids r s at end d → Head s at end c fs q b stop → Fine s b stop q → Fine s stop end p → First c p s at end d
unfolding node_of limit_trees
first {c} {fs} {p} {q} {r} {s} {at} {end} {b} {stop} {d} k hd kids rest =
    let n : Node s at end = node_of hd kids rest in
    let e : stop ≡ stop_of s at = hd.stop_is in
    let i : read_records s at end ≡ tcons (tree_at s at) (read_records s (stop_of s at) end) = n.is in
    let g = both_good _ _ (ap (λ (ts : Trees). limit_trees ts k.depth k.before) (sym i) ∙ k.limit) in
    record {
      ready = record {
        end = end;
        node_at = n;
        class_is = refl;
        inside = k.inside;
        depth = k.depth;
        sum = k.sum;
        before = k.before;
        limit = g.0;
      };
      is = i;
      low = omega (arith, hd.low, hd.mid, e);
      high = omega (arith, hd.high, e);
      rest = record {
        fine = rw e at rest;
        inside = k.inside;
        depth = k.depth;
        sum = k.sum;
        before = and_this (tree_at s at) k.before;
        limit = g.1;
      };
    }

pub one_first : {c : Class} {p : Pattern} {s : List ℕ} {at end d : ℕ} → Kids (one c p) s at end d → First c p s at end d
one_first {c} {p} {s} {at} {end} {d} k = go (one_step c p k.fine)
  where
    go : One s at end c p → First c p s at end d
    go (this hd kids rest) = first k hd kids rest

-- what else may stand there
stepped : {c : Class} {q r p : Pattern} {s : List ℕ} {at end d : ℕ} → Kids q s at end d → Found s at end c r p → Step c r p s at end d
stepped k (here hd kids rest) = there (first k hd kids rest)
stepped k (past f) = skipped (record { fine = f; inside = k.inside; depth = k.depth; sum = k.sum; before = k.before; limit = k.limit })

pub many_next : {c : Class} {p : Pattern} {s : List ℕ} {at end d : ℕ} → Kids (many c p) s at end d → Step c (many c p) p s at end d
many_next {c} {p} k = stepped k (many_step c p k.fine)

pub perhaps_next : {c : Class} {p : Pattern} {s : List ℕ} {at end d : ℕ} → Kids (perhaps c p) s at end d → Step c p p s at end d
perhaps_next {c} {p} k = stepped k (perhaps_step c p k.fine)

-- the end
pub at_end : (s : List ℕ) {at end : ℕ} → at ≡ end → read_records s at end ≡ tnil
at_end s {at} {end} e = subst (λ (x : ℕ). read_records s at x ≡ tnil) e (read_end s at)

pub nothing_left : {s : List ℕ} {at end d : ℕ} → Kids done s at end d → (at ≡ end) × (read_records s at end ≡ tnil)
nothing_left {s} k = let e = done_ends k.fine in (e, at_end s e)

pub last_first : {c : Class} {r : Pattern} {s : List ℕ} {at end d : ℕ} → Step c r done s at end d → at < end → First c r s at end d
last_first (there f) h = f
last_first (skipped k) h = absurd (omega (arith, (nothing_left k).0))

-- RECORDS OF ONE CLASS, up to the end
pub all_order : {c : Class} {s : List ℕ} {at end d : ℕ} → ReadyAll c s at end d → at ≤ end
all_order r = low r.fine

pub record More (c : Class) (s : List ℕ) (at end d : ℕ) : Type 0 where
  pub ready : Ready c s at d
  pub rest : ReadyAll c s (stop_of s at) end d
  pub low : at + 6 ≤ stop_of s at
  pub high : stop_of s at ≤ end
  pub is : read_records s at end ≡ tcons (tree_at s at) (read_records s (stop_of s at) end)
  pub exprs_is : exprs_from s at end ≡ econs (expr_at s at) (exprs_from s (stop_of s at) end)
  pub stmts_is : stmts_from s at end ≡ scons (stmt_at s at) (stmts_from s (stop_of s at) end)

pub more : {c : Class} {s : List ℕ} {at end d : ℕ} → ReadyAll c s at end d → at < end → More c s at end d
unfolding expr_of stmt_of
more {c} {s} {at} {end} {d} r h =
    let f : First c (many c done) s at end d = last_first (many_next (kids_all r)) h in
    record {
      ready = f.ready;
      rest = all_of f.rest;
      low = f.low;
      high = f.high;
      is = f.is;
      exprs_is = ap exprs_of f.is;
      stmts_is = ap stmts_of f.is;
    }

pub record End (s : List ℕ) (at end : ℕ) : Type 0 where
  pub here : at ≡ end
  pub is : read_records s at end ≡ tnil
  pub exprs_is : exprs_from s at end ≡ enil
  pub stmts_is : stmts_from s at end ≡ snil

pub no_more : {c : Class} {s : List ℕ} {at end d : ℕ} → ReadyAll c s at end d → end ≤ at → End s at end
unfolding expr_of stmt_of
no_more {c} {s} {at} {end} r h =
    let e : at ≡ end = omega (arith, all_order r) in
    let i : read_records s at end ≡ tnil = at_end s e in
    record { here = e; is = i; exprs_is = ap exprs_of i; stmts_is = ap stmts_of i }

-- none of them, at any place
pub nothing_at : {c : Class} {s : List ℕ} {at end d : ℕ} (e : ℕ) → e ≤ length s → ReadyAll c s at end d → ReadyAll c s e e d
unfolding limit_trees may_end
nothing_at {c} {s} e h r =
    let z : read_records s e e ≡ tnil = at_end s refl in
    record {
      fine = Fine.ends refl refl;
      inside = h;
      depth = r.depth;
      sum = r.sum;
      before = none_before;
      limit = ap (λ (ts : Trees). limit_trees ts r.depth none_before) z;
    }

-- INSIDE A RECORD: its limits, and its children
pub not_over : {c : Class} {s : List ℕ} {at d : ℕ} (r : Ready c s at d)
    → Within (measured (record_kind s at) (values_at s at) (children_of s at) r.depth r.before) × (limit_trees (children_of s at) (suc r.depth) none_before ≡ Good)
not_over {s = s} {at = at} r = tree_within at (record_kind s at) (values_at s at) (children_of s at) r.depth r.before r.limit

pub record Bounds (s : List ℕ) (at d : ℕ) : Type 0 where
  pub deep : 1 ≤ d
  pub low : at + 6 ≤ stop_of s at
  pub high : stop_of s at ≤ length s

pub bounds : {c : Class} {s : List ℕ} {at d : ℕ} → Ready c s at d → Bounds s at d
bounds {c} {s} {at} {d} r =
    let h = r.node_at.head in
    record { deep = omega (arith, r.sum, (not_over r).0.shallow); low = omega (arith, h.low, h.mid); high = omega (arith, h.high, r.inside) }

-- its size may be read
pub size_fits : {c : Class} {s : List ℕ} {at d : ℕ} → Ready c s at d → (at + 4 ≤ length s) × (4 ≤ 8)
size_fits r = let b = bounds r in (omega (arith, b.low, b.high), omega arith)

pub kids_of : {c : Class} {s : List ℕ} {at d : ℕ} (r : Ready c s at d) → Kids r.node_at.pattern s (body_of s at) (stop_of s at) (d - 1)
kids_of {c} {s} {at} {d} r =
    let b : Bounds s at d = bounds r in
    record {
      fine = r.node_at.kids;
      inside = b.high;
      depth = suc r.depth;
      sum = omega (arith, b.deep, r.sum);
      before = none_before;
      limit = (not_over r).1;
    }

-- BY CLASS: what holds of every row of the class holds of the record's kind
pub by_row : {c : Class} {s : List ℕ} {at d : ℕ} (P : Class → ℕ → List Field → Pattern → Type 0) → OfRows P c rows → (r : Ready c s at d) → P c (record_kind s at) r.node_at.fields r.node_at.pattern
by_row {c} {s} {at} P f r = f (record_kind s at) _ _ (subst (λ (x : Class). row_in (record_kind s at) rows ≡ row x r.node_at.fields r.node_at.pattern) r.class_is r.node_at.head.is)

-- BY KIND: what the row of the kind says of the record
pub row_is : {s : List ℕ} {at end k : ℕ} (n : Node s at end) → record_kind s at ≡ k → row_in k rows ≡ row n.class n.fields n.pattern
row_is n e = subst (λ (i : ℕ). row_in i rows ≡ row n.class n.fields n.pattern) e n.head.is

-- its first fields are the entries es, and fs are the others
pub record Entries (es : List Entry) (fs : List Field) (s : List ℕ) (at : ℕ) : Type 0 where
  pub values : values_at s at ≡ items_from es s at 6 ++ read_values fs s (stop_of s at) (at + after es 6)
  pub more : past_all fs s (stop_of s at) (at + after es 6) ≡ some (body_of s at)
  pub body : body_of s at ≡ fields_end fs s (stop_of s at) (at + after es 6)
  pub valid : Valid es s at 6
  pub fits : at + after es 6 ≤ stop_of s at

pub entries : {s : List ℕ} {at end k : ℕ} (n : Node s at end) (es : List Entry) (fs : List Field) → record_kind s at ≡ k → row_fields (row_in k rows) ≡ map single es ++ fs → Entries es fs s at
unfolding values_at
entries {s} {at} n es fs e q =
    let f : row_fields (row_in (record_kind s at) rows) ≡ map single es ++ fs = ap (λ (i : ℕ). row_fields (row_in i rows)) e ∙ q in
    let S : Starts es fs s at (body_of s at) (stop_of s at) = starts es fs (rw q at (head_of n e)) in
    record { values = ap (λ (l : List Field). read_values l s (stop_of s at) (at + 6)) f ∙ S.values; more = S.more; body = S.body; valid = S.valid; fits = S.fits }

-- its fields are the entries es, and its children follow p
pub record Opened (es : List Entry) (p : Pattern) (s : List ℕ) (at k d : ℕ) : Type 0 where
  pub fits : at + after es 6 ≤ stop_of s at
  pub valid : Valid es s at 6
  pub tree : tree_at s at ≡ node at k (items_from es s at 6 ++ []) (read_records s (at + after es 6) (stop_of s at))
  pub kids : Kids p s (at + after es 6) (stop_of s at) (d - 1)

pub opened : {a c : Class} {s : List ℕ} {at k d : ℕ} (es : List Entry) (p : Pattern) → row_in k rows ≡ row a (map single es ++ []) p → Ready c s at d → record_kind s at ≡ k → Opened es p s at k d
unfolding row_fields fields_end read_values
opened {s = s} {at = at} {d = d} es p q r e =
    let n = r.node_at in
    let E : Entries es [] s at = entries n es [] e (ap row_fields q) in
    let w = sym q ∙ row_is n e in
    let g : n.pattern ≡ p = cc in
    record {
      fits = E.fits;
      valid = E.valid;
      tree = λ j. node at (e j) (E.values j) (read_records s (E.body j) (stop_of s at));
      kids = subst (λ (x : ℕ). Kids p s x (stop_of s at) (d - 1)) E.body (subst (λ (x : Pattern). Kids x s (body_of s at) (stop_of s at) (d - 1)) g (kids_of r));
    }

-- a record of a u16 and children
pub record Named (m : ℕ) (p : Pattern) (s : List ℕ) (at k d : ℕ) : Type 0 where
  pub fits : at + 8 ≤ stop_of s at
  pub inside : stop_of s at ≤ length s
  pub room : at + 8 ≤ length s
  pub name : le 2 s (at + 6) ≤ m
  pub tree : tree_at s at ≡ node at k (item (small (le 2 s (at + 6))) ∷ []) (read_records s (at + 8) (stop_of s at))
  pub kids : Kids p s (at + 8) (stop_of s at) (d - 1)

pub named : {a c : Class} {s : List ℕ} {at k d : ℕ} (m : ℕ) (p : Pattern) → row_in k rows ≡ row a (single (up_to m) ∷ []) p → Ready c s at d → record_kind s at ≡ k → Named m p s at k d
unfolding items_from read_item ok_item after size_of Valid
named {s = s} {at = at} {k = k} {d = d} m p q r e =
    let o : Opened (up_to m ∷ []) p s at k d = opened (up_to m ∷ []) p q r e in
    record { fits = o.fits; inside = (bounds r).high; room = omega (arith, o.fits, (bounds r).high); name = leb-true _ _ o.valid.0; tree = o.tree; kids = o.kids }

-- a record of children only
pub record Plain (p : Pattern) (s : List ℕ) (at k d : ℕ) : Type 0 where
  pub inside : stop_of s at ≤ length s
  pub tree : tree_at s at ≡ node at k [] (read_records s (at + 6) (stop_of s at))
  pub kids : Kids p s (at + 6) (stop_of s at) (d - 1)

pub plain : {a c : Class} {s : List ℕ} {at k d : ℕ} (p : Pattern) → row_in k rows ≡ row a [] p → Ready c s at d → record_kind s at ≡ k → Plain p s at k d
unfolding items_from after
plain {s = s} {at = at} {k = k} {d = d} p q r e =
    let o : Opened [] p s at k d = opened [] p q r e in
    record { inside = (bounds r).high; tree = o.tree; kids = o.kids }

-- a kind of record that may have 16 children at the most
abbrev pub Limited : ℕ → Type 0
Limited k = (r : Measured) → Within r → r.kind ≡ k → r.children < 17

pub few : {c : Class} {s : List ℕ} {at k d : ℕ} {v : List FieldValue} {ts : Trees} → Limited k → Ready c s at d → tree_at s at ≡ node at k v ts → count_trees ts ≤ 16
few {c} {s} {at} {k} {d} {v} {ts} l r e =
    let g : limit_tree (node at k v ts) r.depth r.before ≡ Good = ap (λ (t : Tree). limit_tree t r.depth r.before) (sym e) ∙ r.limit in
    omega (arith, l (measured k v ts r.depth r.before) (tree_within at k v ts r.depth r.before g).0 refl)

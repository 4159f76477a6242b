-- The expression at a place of a contract sheet that passed 3 and 4, for each kind, from its bytes and the places of its children. Assumes nothing.
use mathlib.Core.Path.{◌≡◌, refl, ap, ◌∙◌}
use mathlib.Core.List.{List, [], ◌∷◌, ◌++◌, map}
use Prim.Native.Nat.{ℕ, suc, ◌+◌, ◌-◌, ◌≤◌}
use native.Mathlib.Omega.{arith}
use lib.Dec.{lit≤}
use lib.ListN.{length}
use Rattle.definitions.specs.Fields.{le}
use Rattle.definitions.specs.Grammar.{Class, Entry, up_to, number, single, Field, Pattern, done, one, many, rows}
use Rattle.definitions.specs.Records.{row, row_in, row_fields, small, item, read_item, size_of, Tree, node, Trees, tnil, tcons, read_records}
use Rattle.definitions.specs.ContractSheet.{expr_of, exprs_of, count_trees}
use Rattle.definitions.specs.Lower.{count}
use Rattle.definitions.proofs.Sheets.Lines.{OfRows, Given, by_lines}
use Rattle.definitions.proofs.Sheets.Singles.{items_from, after}
use Rattle.format.specs.Kinds.{expr_number}
use Rattle.format.specs.declared.kinds.Expr.{Expr}
use Rattle.format.specs.declared.kinds.Expr.TheVariants as expr
use Rattle.sheet.specs.Passed.{record_kind, stop_of}
use Rattle.contract_nodes.specs.Ready.{tree_at, exprs_from, Ready, RecordStands, StandAll}
use Rattle.contract_nodes.specs.ByKind.{ExprByKind}
use Rattle.contract_nodes.proofs.Children.{First, Opened, all_of, one_first, nothing_left, bounds, by_row, entries, opened, Named, named, Limited, few}
use Rattle.contract_nodes.proofs.Standing.{stands, stand_all}

-- WHICH KINDS
abbrev Kinds : Class → ℕ → List Field → Pattern → Type 0
Kinds c k fs p = (30 ≤ k) × (k ≤ 37)

expr_rows : OfRows Kinds Class.expression rows
unfolding Given rows
expr_rows =
    by_lines Kinds Class.expression rows (lit≤ tt, lit≤ tt) (lit≤ tt, lit≤ tt) (lit≤ tt, lit≤ tt) (lit≤ tt, lit≤ tt) (lit≤ tt, lit≤ tt) (lit≤ tt, lit≤ tt) (lit≤ tt, lit≤ tt) (lit≤ tt, lit≤ tt)

pub expr_kinds : {s : List ℕ} {at d : ℕ} → Ready Class.expression s at d → (30 ≤ record_kind s at) × (record_kind s at ≤ 37)
expr_kinds r = by_row Kinds expr_rows r

-- HOW LONG: an expression's record begins with a number, of two bytes or more
record Wide (k : ℕ) : Type 0 where
  first : Entry
  rest : List Field
  is : row_fields (row_in k rows) ≡ map single (first ∷ []) ++ rest
  long : 8 ≤ after (first ∷ []) 6

abbrev Begins : Class → ℕ → List Field → Pattern → Type 0
Begins c k fs p = Wide k

wide_rows : OfRows Begins Class.expression rows
unfolding Given rows row_in row_fields after size_of
wide_rows =
    by_lines Begins Class.expression rows
    (record { first = number 8; rest = []; is = refl; long = lit≤ tt })
    (record { first = up_to 65534; rest = []; is = refl; long = lit≤ tt })
    (record { first = up_to 65534; rest = []; is = refl; long = lit≤ tt })
    (record { first = up_to 65534; rest = []; is = refl; long = lit≤ tt })
    (record { first = up_to 65534; rest = []; is = refl; long = lit≤ tt })
    (record { first = up_to 65534; rest = []; is = refl; long = lit≤ tt })
    (record { first = up_to 9; rest = []; is = refl; long = lit≤ tt })
    (record { first = up_to 65534; rest = []; is = refl; long = lit≤ tt })

pub expr_long : {s : List ℕ} {at d : ℕ} → Ready Class.expression s at d → at + 8 ≤ stop_of s at
expr_long {s} {at} r = let w : Wide (record_kind s at) = by_row Begins wide_rows r in omega (arith, (entries r.node_at (w.first ∷ []) w.rest refl w.is).fits, w.long)

-- an expression in a record
pub inner : {s : List ℕ} {p d : ℕ} → Ready Class.expression s p d → (p + 6 ≤ stop_of s p) × RecordStands Class.expression s p d
inner r = ((bounds r).low, stands r)

pub count_is : (ts : Trees) → count (exprs_of ts) ≡ count_trees ts
unfolding expr_of count_trees
count_is tnil = refl
count_is (tcons t ts) = ap suc (count_is ts)

-- A RECORD READ BY `of`, an expression or a statement, that has a name: behind it one expression, or at most 16 of them
pub record OneAt {A : Type 0} (s : List ℕ) (at d : ℕ) (t x : A) : Type 0 where
  pub fits : at + 8 ≤ length s
  pub value : Ready Class.expression s (at + 8) (d - 1)
  pub stop : stop_of s (at + 8) ≡ stop_of s at
  pub is : t ≡ x

pub record ArgsAt {A : Type 0} (s : List ℕ) (at d : ℕ) (t x : A) : Type 0 where
  pub fits : at + 8 ≤ length s
  pub args : StandAll Class.expression s (at + 8) (stop_of s at) (d - 1)
  pub few : count (exprs_from s (at + 8) (stop_of s at)) ≤ 16
  pub is : t ≡ x

module _ {A : Type 0} {c : Class} {s : List ℕ} {at k d : ℕ} (of : Tree → A) (r : Ready c s at d) (e : record_kind s at ≡ k) where
  -- the tree of such a record, with the children ts
  abbrev with : Trees → Tree
  with ts = node at k (item (small (le 2 s (at + 6))) ∷ []) ts

  pub named_is : {a : Class} (p : Pattern) → row_in k rows ≡ row a (single (up_to 65534) ∷ []) p → of (tree_at s at) ≡ of (with (read_records s (at + 8) (stop_of s at)))
  named_is p q = ap of (named 65534 p q r e).tree

  pub one_at : {a : Class} → row_in k rows ≡ row a (single (up_to 65534) ∷ []) (one Class.expression done) → OneAt s at d (of (tree_at s at)) (of (with (tcons (tree_at s (at + 8)) tnil)))
  one_at q =
      let n = named 65534 (one Class.expression done) q r e in
      let f : First Class.expression done s (at + 8) (stop_of s at) (d - 1) = one_first n.kids in
      let z = nothing_left f.rest in
      record { fits = n.room; value = f.ready; stop = z.0; is = ap of (n.tree ∙ ap with (f.is ∙ ap (tcons (tree_at s (at + 8))) z.1)) }

  pub args_at : {a : Class} → row_in k rows ≡ row a (single (up_to 65534) ∷ []) (many Class.expression done) → Limited k → ArgsAt s at d (of (tree_at s at)) (of (with (read_records s (at + 8) (stop_of s at))))
  args_at q l =
      let n = named 65534 (many Class.expression done) q r e in
      record { fits = n.room; args = stand_all (all_of n.kids); few = omega (arith, few l r n.tree, count_is (read_records s (at + 8) (stop_of s at))); is = ap of n.tree }

-- FOR EVERY KIND
pub expr_here : {s : List ℕ} {at d : ℕ} → Ready Class.expression s at d → (k : Expr) → record_kind s at ≡ expr_number k → ExprByKind s at d k
unfolding row_in rows items_from read_item after size_of expr_of
expr_here {s} {at} {d} r expr.Int e =
    let o : Opened (number 8 ∷ []) done s at 30 d = opened (number 8 ∷ []) done refl r e in
    (omega (arith, o.fits, (bounds r).high), ap expr_of o.tree)
expr_here r expr.Ident e = named_is expr_of r e done refl
expr_here r expr.StorageRead e = named_is expr_of r e done refl
expr_here r expr.MappingRead e = let g = one_at expr_of r e refl in (inner g.value, g.is)
expr_here r expr.FieldAccess e = let g = one_at expr_of r e refl in (inner g.value, g.is)
expr_here r expr.StructLiteral e = let n = named 65534 (many Class.field_init done) refl r e in (stand_all (all_of n.kids), ap expr_of n.tree)
expr_here {s} {at} {d} r expr.Binary e =
    let n : Named 9 (one Class.expression (one Class.expression done)) s at 36 d = named 9 (one Class.expression (one Class.expression done)) refl r e in
    let f : First Class.expression (one Class.expression done) s (at + 8) (stop_of s at) (d - 1) = one_first n.kids in
    let g : First Class.expression done s (stop_of s (at + 8)) (stop_of s at) (d - 1) = one_first f.rest in
    (n.name, inner f.ready, inner g.ready, ap expr_of (n.tree ∙ ap (node at 36 (item (small (le 2 s (at + 6))) ∷ [])) (f.is ∙ ap (tcons (tree_at s (at + 8))) g.is)))
expr_here r expr.Call e = let g = args_at expr_of r e refl (λ r w k. w.call_arguments k) in (g.args, g.few, g.is)

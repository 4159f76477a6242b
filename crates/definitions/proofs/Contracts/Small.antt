-- The contract that is read from a sheet which passed 3 and 4 has small numbers. Assumes nothing.
use mathlib.Core.Path.{◌≡◌, subst}
use mathlib.Core.Bool.{true}
use mathlib.Core.List.{List, [], ◌∷◌, map}
use Prim.Native.Nat.{ℕ, ◌^◌, ◌<◌, ◌≤◌}
use native.Mathlib.Omega.{arith}
use lib.Dec.{leb, eqb, lit<, lit≤}
use lib.ListN.{length}
use borrow.Author.Tests.{leb-true, eqb-true}
use Rattle.definitions.specs.Fields.{Bytes}
use Rattle.definitions.specs.Ast.{Exprs, enil, econs, Param, Function}
use Rattle.definitions.specs.Grammar.{Class, up_to, optional, number, name_and_type, Field, single, counted, Pattern, rows}
use Rattle.definitions.specs.Records.{Item, FieldValue, row, row_in, row_fields, Good, Tree, node, Trees, tnil, tcons, read_records, num_at, kind_in, gather}
use Rattle.definitions.specs.ContractSheet.{storage_of, first_e, rest_e, opt_e, expr_from, expr_of, exprs_of, BlockRecords, no_block, and_block, first_b, rest_b, opt_b, stmt_from, stmt_of, stmts_of, blocks_of, add_block, param_of, function_of, contract_of, none_before, limit_trees, refusal4}
use Rattle.definitions.proofs.Sheets.Fits.{fit_small, fit_none, fit_some, fit_raw, fit_pair, FitItems, no_item, and_item, fit_one, fit_group}
use Rattle.definitions.specs.Fine.{Fine}
use Rattle.definitions.proofs.Sheets.Passed.{picked, both_good}
use Rattle.definitions.proofs.Sheets.Reads.{Holds, hnil, hcons, Read, rnode, Reads, rnil, rcons, reads}
use Rattle.definitions.specs.All.{All, anil, acons}
use Rattle.definitions.proofs.Programs.Fits.{Id, FitsOpt}
use Rattle.definitions.proofs.Contracts.Bounds.{SmallExpr, SmallExprs, SmallOpt, SmallStmt, SmallStmts, SmallElse, SmallFunction, Small}
use Rattle.definitions.proofs.Contracts.Limits.{storage, function, tree_within, within, structs_within, functions_within}

-- fields of a row, by its kind
abbrev Row : ℕ → List FieldValue → Type 0
Row k v = Holds (row_fields (row_in k rows)) v

row_of : (k : ℕ) {c : Class} {fs : List Field} {p : Pattern} {v : List FieldValue} → row_in k rows ≡ row c fs p → Holds fs v → Row k v
unfolding row_fields
row_of k r h = rw (r, row_fields) h

int_low : (v : List FieldValue) → Holds (single (number 8) ∷ []) v → num_at 0 v < 256 ^ 8
int_low _ (hcons (fit_one (fit_raw l)) hnil) = l

name_low : (v : List FieldValue) → Holds (single (up_to 65534) ∷ []) v → Id (num_at 0 v)
name_low _ (hcons (fit_one (fit_small l m)) hnil) = omega arith

at_kind : (j k : ℕ) (v : List FieldValue) → eqb k j ≡ true → Row k v → Row j v
at_kind j k v q h = subst (λ (x : ℕ). Row x v) (eqb-true k j q) h

-- expressions
first_small : (es : Exprs) → SmallExprs es → SmallExpr (first_e es)
first_small enil h = lit< tt
first_small (econs e es) h = h.0

rest_small : (es : Exprs) → SmallExprs es → SmallExprs (rest_e es)
rest_small enil h = tt
rest_small (econs e es) h = h.1

opt_small : (es : Exprs) → SmallExprs es → SmallOpt (opt_e es)
opt_small enil h = tt
opt_small (econs e es) h = h.0

from_small : (at k : ℕ) (v : List FieldValue) (ts : Trees) (es : Exprs) → Row k v → SmallExprs es → SmallExpr (expr_from at k v ts es)
unfolding row_fields row_in rows
from_small at k v ts es r h =
    picked SmallExpr (eqb k 30) _ _ (λ q. int_low v (at_kind 30 k v q r)) (λ _. picked SmallExpr (eqb k 31) _ _ (λ _. tt) (λ _. picked SmallExpr (eqb k 32) _ _ (λ _. tt)
    (λ _. picked SmallExpr (eqb k 33) _ _ (λ _. tt) (λ _. picked SmallExpr (eqb k 34) _ _ (λ _. first_small es h) (λ _. picked SmallExpr (eqb k 35) _ _ (λ _. tt)
    (λ _. picked SmallExpr (eqb k 36) _ _ (λ _. (first_small es h, first_small (rest_e es) (rest_small es h))) (λ _. picked SmallExpr (eqb k 37) _ _ (λ _. h)
    (λ _. first_small es h))))))))

mutual
  unfolding expr_of

  expr_small : {c : Class} {t : Tree} → Read c t → SmallExpr (expr_of t)
  expr_small (rnode {at = at} {k = k} {vs = vs} {ts = ts} r h rs) = from_small at k vs ts (exprs_of ts) (row_of k r h) (exprs_small rs)

  exprs_small : {p : Pattern} {ts : Trees} → Reads p ts → SmallExprs (exprs_of ts)
  exprs_small (rnil m) = tt
  exprs_small (rcons a r rs) = (expr_small r, exprs_small rs)

-- statements
abbrev SmallBlocks : BlockRecords → Type 0
SmallBlocks no_block = Unit {0}
SmallBlocks (and_block p a as') = SmallStmts a × SmallBlocks as'

first_arm : (a : BlockRecords) → SmallBlocks a → SmallStmts (first_b a)
first_arm no_block h = tt
first_arm (and_block p a as') h = h.0

else_arm : (a : BlockRecords) → SmallBlocks a → SmallElse (opt_b (rest_b a))
else_arm no_block h = tt
else_arm (and_block p a no_block) h = tt
else_arm (and_block p a (and_block q b as')) h = h.1.0

stmt_from_lem : (at k : ℕ) (v : List FieldValue) (es : Exprs) (a : BlockRecords) → Row k v → SmallExprs es → SmallBlocks a → SmallStmt (stmt_from at k v es a)
unfolding row_fields row_in rows
stmt_from_lem at k v es a r h g =
    let f : SmallExpr (first_e es) = first_small es h in
    picked SmallStmt (eqb k 10) _ _ (λ _. f) (λ _. picked SmallStmt (eqb k 11) _ _ (λ _. f) (λ _. picked SmallStmt (eqb k 12) _ _ (λ _. f)
    (λ _. picked SmallStmt (eqb k 13) _ _ (λ _. f) (λ _. picked SmallStmt (eqb k 14) _ _ (λ _. tt)
    (λ _. picked SmallStmt (eqb k 15) _ _ (λ _. (f, first_arm a g, else_arm a g)) (λ _. picked SmallStmt (eqb k 16) _ _ (λ _. (f, first_arm a g))
    (λ _. picked SmallStmt (eqb k 17) _ _ (λ _. (f, first_small (rest_e es) (rest_small es h), first_arm a g)) (λ _. picked SmallStmt (eqb k 18) _ _ (λ _. opt_small es h)
    (λ _. picked SmallStmt (eqb k 19) _ _ (λ q. (name_low v (at_kind 19 k v q r), h)) (λ _. f))))))))))

mutual
  unfolding stmt_of

  stmt_small : {c : Class} {t : Tree} → Read c t → SmallStmt (stmt_of t)
  stmt_small (rnode {at = at} {k = k} {vs = vs} {ts = ts} r h rs) = stmt_from_lem at k vs (exprs_of ts) (blocks_of ts) (row_of k r h) (exprs_small rs) (arms_small rs)

  stmts_small : {p : Pattern} {ts : Trees} → Reads p ts → SmallStmts (stmts_of ts)
  stmts_small (rnil m) = tt
  stmts_small (rcons a r rs) = (stmt_small r, stmts_small rs)

  arms_small : {p : Pattern} {ts : Trees} → Reads p ts → SmallBlocks (blocks_of ts)
  arms_small (rnil m) = tt
  arms_small (rcons {ts = ts} a r rs) = arm_small r (blocks_of ts) (arms_small rs)

  arm_small : {c : Class} {t : Tree} → Read c t → (a : BlockRecords) → SmallBlocks a → SmallBlocks (add_block t a)
  arm_small (rnode {k = k} r h rs) a g = picked SmallBlocks (eqb k 5) _ _ (λ _. (stmts_small rs, g)) (λ _. g)

-- functions and the Class.contract
record FnSmall (f : Function) : Type 0 where
  name : Id f.name
  ret : FitsOpt f.return_type
  params : All (λ (p : Param). Id p.ty) f.params
  body : SmallStmts f.body

pairs_low : {is : List Item} → FitItems name_and_type is → All (λ (p : Param). Id p.ty) (map param_of is)
pairs_low no_item = anil
pairs_low (and_item (fit_pair a b) h) = acons b (pairs_low h)

fn_row : {p : Pattern} (at : ℕ) (v : List FieldValue) (ts : Trees) → Reads p ts → Holds (single (up_to 65534) ∷ single optional ∷ single (up_to 1) ∷ counted name_and_type ∷ []) v → FnSmall (function_of (node at 4 v ts))
unfolding function_of
fn_row at _ ts rs (hcons (fit_one (fit_small l m)) (hcons (fit_one fit_none) (hcons (fit_one (fit_small i j)) (hcons (fit_group n g) hnil)))) =
    record { name = omega arith; ret = tt; params = pairs_low g; body = stmts_small rs }
fn_row at _ ts rs (hcons (fit_one (fit_small l m)) (hcons (fit_one (fit_some o)) (hcons (fit_one (fit_small i j)) (hcons (fit_group n g) hnil)))) =
    record { name = omega arith; ret = o; params = pairs_low g; body = stmts_small rs }

all_gather : {A : Type 0} (P : A → Type 0) (lo hi : ℕ) (f : Tree → A) → ((c : Class) (t : Tree) → Read c t → lo ≤ kind_in t → kind_in t ≤ hi → P (f t)) → {p : Pattern} {ts : Trees} → Reads p ts → All P (gather lo hi f ts)
all_gather P lo hi f g (rnil m) = anil
all_gather P lo hi f g (rcons {c = c} {t = t} {ts = ts} a r rs) =
    let below : All P (gather lo hi f ts) = all_gather P lo hi f g rs in
    picked (All P) (leb lo (kind_in t)) _ _ (λ x. picked (All P) (leb (kind_in t) hi) _ _ (λ b. acons (g c t r (leb-true _ _ x) (leb-true _ _ b)) below) (λ _. below)) (λ _. below)

fn_small : (c : Class) (t : Tree) → Read c t → 4 ≤ kind_in t → kind_in t ≤ 4 → FnSmall (function_of t)
unfolding function_of row_fields row_in rows
fn_small c _ (rnode {at = at} {k = k} {vs = vs} {ts = ts} r h rs) a b =
    let q : k ≡ 4 = omega arith in
    let h' : Row 4 vs = subst (λ (x : ℕ). Row x vs) q (row_of k r h) in
    let f : FnSmall (function_of (node at 4 vs ts)) = fn_row at vs ts rs h' in
    record { name = f.name; ret = f.ret; params = f.params; body = f.body }

join_fns : {l : List Function} → All FnSmall l → All (λ (f : Function). length f.params ≤ 16) l → All SmallFunction l
join_fns anil q = anil
join_fns (acons p ps) (acons q qs) = acons (record { name = p.name; ret = p.ret; params = p.params; count = q; body = p.body }) (join_fns ps qs)

-- a Class.contract read from a sheet that passed 3 and 4
node_small : {p : Pattern} (at k : ℕ) (v : List FieldValue) (ts more : Trees) → Reads p ts → limit_trees ts 2 none_before ≡ Good → Small (contract_of (tcons (node at k v ts) more))
unfolding contract_of
node_small at k v ts more r e = record {
  storage = omega (arith, within storage_of ts 2 none_before storage e (lit≤ tt));
  structs = structs_within ts 2 none_before e;
  functions = join_fns (all_gather FnSmall 4 4 function_of fn_small r) (functions_within ts 2 none_before e);
  count = omega (arith, within function_of ts 2 none_before function e (lit≤ tt));
}

trees_small : {p : Pattern} (ts : Trees) → Reads p ts → limit_trees ts 1 none_before ≡ Good → Small (contract_of ts)
unfolding contract_of limit_trees
trees_small tnil r e = record { storage = omega arith; structs = anil; functions = anil; count = omega arith }
trees_small (tcons (node at k v ts) more) (rcons _ (rnode _ _ rs) _) e =
    node_small at k v ts more rs (tree_within at k v ts 1 none_before (both_good _ _ e).0).1

pub sheet_small : (s : List ℕ) (q : Pattern) → Bytes s → Fine s 0 (length s) q → refusal4 s ≡ Good → Small (contract_of (read_records s 0 (length s)))
unfolding refusal4
sheet_small s q h f e = trees_small (read_records s 0 (length s)) (reads h f) e

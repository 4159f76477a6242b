-- Every record of a contract sheet that passed is the tree of what is read from it. Assumes nothing.
use mathlib.Core.Path.{◌≡◌, refl, ap, ap₂, sym, ◌∙◌}
use mathlib.Core.Bool.{false}
use mathlib.Core.List.{List, [], ◌∷◌}
use Prim.Native.Nat.{ℕ, ◌<◌, ◌≤◌}
use native.Mathlib.Omega.{arith}
use lib.Dec.{eqb}
use borrow.Author.Tests.{eqb-true, eqb-false}
use Rattle.definitions.specs.Ast.{BinOp, Expr}
use Rattle.definitions.specs.Grammar.{Class, up_to, number, single, Field, Pattern, done, one, perhaps, many, rows}
use Rattle.definitions.specs.Records.{pick, small, FieldValue, item, Tree, node, Trees, tnil, tcons, num_at, kind_in}
use Rattle.definitions.specs.ContractSheet.{BlockRecords, and_block, op_of, op_number, expr_of, exprs_of, field_inits_of, stmt_of, stmts_of, add_block, storage_of, struct_of, function_of, contract_of, expr_tree, expr_trees, field_init_trees, stmt_tree, stmt_trees, storage_tree, struct_tree, function_tree, contract_tree}
use Rattle.definitions.proofs.Sheets.Fits.{fit_small, fit_raw, fit_one}
use Rattle.definitions.proofs.Sheets.Passed.{picked}
use Rattle.definitions.proofs.Sheets.Reads.{hnil, hcons}
use Rattle.definitions.proofs.Sheets.Lines.{OfRows, Given, by_lines, Follows, over, next, skip, take, end, more}
use Rattle.definitions.proofs.Sheets.Again.{Step}

-- THE AIM: the tree of what is read from a record of a class is that record
unfoldable pub again : Class → Tree → Tree
again Class.contract t = contract_tree (contract_of (tcons t tnil))
again Class.storage t = storage_tree (storage_of t)
again Class.struct t = struct_tree (struct_of t)
again Class.function t = function_tree (function_of t)
again Class.block (node at k v ts) = node at 5 [] (stmt_trees (stmts_of ts))
again Class.field_init (node at k v ts) = node at 6 (item (small (num_at 0 v)) ∷ []) (tcons (expr_tree (expr_of (node at k v ts))) tnil)
again Class.statement t = stmt_tree (stmt_of t)
again Class.expression t = expr_tree (expr_of t)
-- not on this sheet
again Class.program t = t
again Class.ir_function t = t
again Class.function_name t = t
again Class.basic_block t = t
again Class.instruction t = t
again Class.terminator t = t

abbrev pub Back : Class → Tree → Type 0
Back c t = again c t ≡ t

-- a row's step: it is so of a record of kind k with these fields if it is so of its children
abbrev pub Remade : Class → ℕ → List Field → Pattern → Type 0
Remade = Step Back

-- what many rows share
module _ (c : Class) where
  -- its fields are one small number, or none
  pub named : {k m : ℕ} {p : Pattern} → ((at n : ℕ) (ts : Trees) → n ≤ m → Follows Back p ts → Back c (node at k (item (small n) ∷ []) ts)) → Remade c k (single (up_to m) ∷ []) p
  named g at _ ts (hcons (fit_one (fit_small l m)) hnil) f = g at _ ts l f

  bare : {k : ℕ} {p : Pattern} → ((at : ℕ) (ts : Trees) → Follows Back p ts → Back c (node at k [] ts)) → Remade c k [] p
  bare g at _ ts hnil f = g at ts f

  -- its children are none, or one or two expressions
  childless : {at k : ℕ} {v : List FieldValue} {ts : Trees} → Back c (node at k v tnil) → Follows Back done ts → Back c (node at k v ts)
  childless g over = g

  lone : {at k : ℕ} {v : List FieldValue} {ts : Trees} → ((t : Tree) → expr_tree (expr_of t) ≡ t → Back c (node at k v (tcons t tnil))) → Follows Back (one Class.expression done) ts → Back c (node at k v ts)
  unfolding again
  lone g (next e over) = g _ e

  twin : {at k : ℕ} {v : List FieldValue} {ts : Trees} → ((t u : Tree) → expr_tree (expr_of t) ≡ t → expr_tree (expr_of u) ≡ u → Back c (node at k v (tcons t (tcons u tnil)))) → Follows Back (one Class.expression (one Class.expression done)) ts → Back c (node at k v ts)
  unfolding again
  twin g (next e (next f over)) = g _ _ e f

-- EXPRESSIONS
exprs_back : {ts : Trees} → Follows Back (many Class.expression done) ts → expr_trees (exprs_of ts) ≡ ts
unfolding again expr_tree expr_of
exprs_back (end over) = refl
exprs_back (more e r) = ap₂ tcons e (exprs_back r)

inits_back : {ts : Trees} → Follows Back (many Class.field_init done) ts → field_init_trees (field_inits_of ts (exprs_of ts)) ≡ ts
unfolding again expr_tree expr_of
inits_back (end over) = refl
inits_back (more {t = node at k v us} e r) = ap₂ tcons e (inits_back r)

op_back : (n : ℕ) → n ≤ 9 → op_number (op_of n) ≡ n
op_back n l =
    from 0 _ _ refl (omega arith) (λ a. from 1 _ _ refl a (λ b. from 2 _ _ refl b (λ c. from 3 _ _ refl c (λ d. from 4 _ _ refl d
    (λ e. from 5 _ _ refl e (λ f. from 6 _ _ refl f (λ g. from 7 _ _ refl g (λ h. from 8 _ _ refl h (λ i. omega arith)))))))))
  where
    from : (j : ℕ) (o r : BinOp) → op_number o ≡ j → j ≤ n → (j < n → op_number r ≡ n) → op_number (pick (eqb n j) o r) ≡ n
    from j o r e k g = picked (λ (x : BinOp). op_number x ≡ n) (eqb n j) o r (λ q. e ∙ sym (eqb-true n j q)) (λ q. g (omega (arith, eqb-false n j q)))

int_row : Remade Class.expression 30 (single (number 8) ∷ []) done
unfolding again expr_tree expr_of
int_row at _ _ (hcons (fit_one (fit_raw l)) hnil) over = refl

pub expr_rows : OfRows Remade Class.expression rows
unfolding again expr_tree expr_of Given rows
expr_rows =
    let E : Class = Class.expression in
    by_lines Remade E rows
    int_row  -- Int
    (named E (λ at n ts l. childless E refl))  -- Ident
    (named E (λ at n ts l. childless E refl))  -- StorageRead
    (named E (λ at n ts l. lone E (λ t e. rw e)))  -- MappingRead
    (named E (λ at n ts l. lone E (λ t e. rw e)))  -- FieldAccess
    (named E (λ at n ts l f. rw (inits_back f)))  -- StructLiteral
    (named E (λ at n ts l. twin E (λ t u e g. rw (op_back n l, e, g))))  -- Binary
    (named E (λ at n ts l f. rw (exprs_back f)))  -- Call

-- STATEMENTS: among the children of one, blocks are of kind 5 and expressions are not
expr_kind : (e : Expr) → eqb (kind_in (expr_tree e)) 5 ≡ false
unfolding expr_tree
expr_kind (Expr.Int p v) = refl
expr_kind (Expr.Ident p n) = refl
expr_kind (Expr.StorageRead p n) = refl
expr_kind (Expr.MappingRead p n e) = refl
expr_kind (Expr.FieldAccess p f e) = refl
expr_kind (Expr.StructLiteral p n fs) = refl
expr_kind (Expr.Binary p op l r) = refl
expr_kind (Expr.Call p n es) = refl

no_block_lem : {t : Tree} → Back Class.expression t → (bs : BlockRecords) → add_block t bs ≡ bs
unfolding again stmt_of
no_block_lem {t = node at k v ts} e bs =
    let q : eqb k 5 ≡ false = rw (ap kind_in e) at (expr_kind (expr_of (node at k v ts))) in
    rw q

a_block : {at k : ℕ} {v : List FieldValue} {ts : Trees} → Back Class.block (node at k v ts) → (bs : BlockRecords) → add_block (node at k v ts) bs ≡ and_block at (stmts_of ts) bs
unfolding again stmt_of
a_block {at} {k} {v} {ts} e bs = let q : 5 ≡ k = ap kind_in e in rw (← q)

pub stmts_back : {ts : Trees} → Follows Back (many Class.statement done) ts → stmt_trees (stmts_of ts) ≡ ts
unfolding again stmt_tree stmt_of
stmts_back (end over) = refl
stmts_back (more e r) = ap₂ tcons e (stmts_back r)

if_row : Remade Class.statement 15 [] (one Class.expression (one Class.block (perhaps Class.block done)))
unfolding again stmt_tree stmt_of expr_of
if_row at _ _ hnil (next e (next {t = node p k v us} b (skip over))) = rw (a_block b, no_block_lem e, e, b)
if_row at _ _ hnil (next e (next {t = node p k v us} b (take {t = node q j w vs} c over))) = rw (a_block c, a_block b, no_block_lem e, e, b, c)

while_row : Remade Class.statement 16 [] (one Class.expression (one Class.block done))
unfolding again stmt_tree stmt_of expr_of
while_row at _ _ hnil (next e (next {t = node p k v us} b over)) = rw (a_block b, no_block_lem e, e, b)

for_row : Remade Class.statement 17 (single (up_to 65534) ∷ []) (one Class.expression (one Class.expression (one Class.block done)))
unfolding again stmt_tree stmt_of expr_of
for_row at _ _ (hcons (fit_one (fit_small l m)) hnil) (next e (next f (next {t = node p k v us} b over))) = rw (a_block b, no_block_lem f, no_block_lem e, e, f, b)

return_row : Remade Class.statement 18 [] (perhaps Class.expression done)
unfolding again stmt_tree stmt_of expr_of
return_row at _ _ hnil (skip over) = refl
return_row at _ _ hnil (take e over) = rw e

pub stmt_rows : OfRows Remade Class.statement rows
unfolding again stmt_tree stmt_of expr_of Given rows
stmt_rows =
    let S : Class = Class.statement in
    by_lines Remade S rows
    (named S (λ at n ts l. lone S (λ t e. rw e)))  -- Let
    (bare S (λ at ts. lone S (λ t e. rw e)))  -- Constrain
    (named S (λ at n ts l. lone S (λ t e. rw e)))  -- Assign
    (named S (λ at n ts l. lone S (λ t e. rw e)))  -- StorageWrite
    (named S (λ at n ts l. twin S (λ t u e g. rw (e, g))))  -- MappingWrite
    if_row while_row for_row return_row
    (named S (λ at n ts l f. rw (exprs_back f)))  -- Emit
    (bare S (λ at ts. lone S (λ t e. rw e)))  -- Expr

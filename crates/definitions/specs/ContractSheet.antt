-- Contracts as sheets and back (document 01, "Contract sheet"), and refusals 3 and 4. Assumes nothing: these are definitions.
use Rattle.std.specs.Prelude.{ℕ, suc, ◌+◌, Bool, false, ◌&&◌, ◌||◌, List, [], ◌∷◌, map, leb, eqb, length}
use Rattle.definitions.specs.Ast.{BinOp, Expr, Exprs, enil, econs, FieldInits, fnil, fcons, OptExpr, absent, present, Stmt, Stmts, snil, scons, OptStmts, no_else, else_do, StorageField, Param, Struct, Function, Contract}
use Rattle.definitions.specs.Grammar.{Class, one, done}
use Rattle.definitions.specs.Records.{pick, Item, small, opt, word, ty, param, pair, FieldValue, item, group, rest, Tree, node, Trees, tnil, tcons, write_tree, read_records, Verdict, Good, Bad, and_then, check_records, items_at, num_at, opt_at, gather, trees_of, ReadsAll, u16}

-- READING, of a sheet that passed refusal 3. The last case of a chain of tests has none: a comment says for which kind it stands. No other kind is met
-- there: it would be written back as that kind, and `NothingOverlooked`, at the end of this file, says that writing gives the very bytes that were read.
-- By the same law nothing is missing where 0 or an empty list stands for what is not there.

-- an operator by its number; the last is 9, Gte (`NothingOverlooked`)
abbrev pub op_of : ℕ → BinOp
op_of k =
    pick (eqb k 0) BinOp.Add (pick (eqb k 1) BinOp.Sub (pick (eqb k 2) BinOp.Mul (pick (eqb k 3) BinOp.Div (pick (eqb k 4) BinOp.Eq
    (pick (eqb k 5) BinOp.Neq (pick (eqb k 6) BinOp.Lt (pick (eqb k 7) BinOp.Gt (pick (eqb k 8) BinOp.Lte BinOp.Gte))))))))

-- the first of a list, which is not missing (`NothingOverlooked`); what follows it; and the first if there is one
abbrev pub first_e : Exprs → Expr
first_e enil = Expr.Int 0 0
first_e (econs e es) = e

abbrev pub rest_e : Exprs → Exprs
rest_e enil = enil
rest_e (econs e es) = es

abbrev pub opt_e : Exprs → OptExpr
opt_e enil = absent
opt_e (econs e es) = present e

-- the fields of a struct literal: their records, and the expressions in them, of which there are as many
abbrev pub field_inits_of : Trees → Exprs → FieldInits
field_inits_of tnil es = fnil
field_inits_of (tcons (node at k v ts) more) enil = fnil
field_inits_of (tcons (node at k v ts) more) (econs e es) = fcons at (num_at 0 v) e (field_inits_of more es)

-- An expression by its place, kind, fields and children. The last is 6, a field's record, which stands for the expression in it (`NothingOverlooked`).
-- A statement's blocks (5), and what is in them, come by here as well: what is made of them stands behind the statement's expressions and is not used.
abbrev pub expr_from : (place kind : ℕ) → List FieldValue → Trees → Exprs → Expr
expr_from at k v ts es =
    pick (eqb k 30) (Expr.Int at (num_at 0 v))
    (pick (eqb k 31) (Expr.Ident at (num_at 0 v))
    (pick (eqb k 32) (Expr.StorageRead at (num_at 0 v))
    (pick (eqb k 33) (Expr.MappingRead at (num_at 0 v) (first_e es))
    (pick (eqb k 34) (Expr.FieldAccess at (num_at 0 v) (first_e es))
    (pick (eqb k 35) (Expr.StructLiteral at (num_at 0 v) (field_inits_of ts es))
    (pick (eqb k 36) (Expr.Binary at (op_of (num_at 0 v)) (first_e es) (first_e (rest_e es)))
    (pick (eqb k 37) (Expr.Call at (num_at 0 v) es)
    (first_e es))))))))

unfoldable mutual
  pub expr_of : Tree → Expr
  expr_of (node at k v ts) = expr_from at k v ts (exprs_of ts)

  pub exprs_of : Trees → Exprs
  exprs_of tnil = enil
  exprs_of (tcons t ts) = econs (expr_of t) (exprs_of ts)

-- the blocks (5) among a statement's children, each with its place and statements
pub data BlockRecords : Type 0 where
  no_block : BlockRecords
  and_block : (place : ℕ) → Stmts → BlockRecords → BlockRecords

abbrev pub place_b : BlockRecords → ℕ
place_b no_block = 0
place_b (and_block p ss bs) = p

abbrev pub first_b : BlockRecords → Stmts
first_b no_block = snil
first_b (and_block p ss bs) = ss

abbrev pub rest_b : BlockRecords → BlockRecords
rest_b no_block = no_block
rest_b (and_block p ss bs) = bs

abbrev pub opt_b : BlockRecords → OptStmts
opt_b no_block = no_else
opt_b (and_block p ss bs) = else_do p ss

-- a statement by its place, kind, fields, expressions and blocks; the last is 20, Expr (`NothingOverlooked`)
abbrev pub stmt_from : (place kind : ℕ) → List FieldValue → Exprs → BlockRecords → Stmt
stmt_from at k v es bs =
    pick (eqb k 10) (Stmt.Let at (num_at 0 v) (first_e es))
    (pick (eqb k 11) (Stmt.Constrain at (first_e es))
    (pick (eqb k 12) (Stmt.Assign at (num_at 0 v) (first_e es))
    (pick (eqb k 13) (Stmt.StorageWrite at (num_at 0 v) (first_e es))
    (pick (eqb k 14) (Stmt.MappingWrite at (num_at 0 v) (first_e es) (first_e (rest_e es)))
    (pick (eqb k 15) (Stmt.If at (first_e es) (place_b bs) (first_b bs) (opt_b (rest_b bs)))
    (pick (eqb k 16) (Stmt.While at (first_e es) (place_b bs) (first_b bs))
    (pick (eqb k 17) (Stmt.For at (num_at 0 v) (first_e es) (first_e (rest_e es)) (place_b bs) (first_b bs))
    (pick (eqb k 18) (Stmt.Return at (opt_e es))
    (pick (eqb k 19) (Stmt.Emit at (num_at 0 v) es)
    (Stmt.ExprStmt at (first_e es)))))))))))

unfoldable mutual
  unfolding expr_of

  pub stmt_of : Tree → Stmt
  stmt_of (node at k v ts) = stmt_from at k v (exprs_of ts) (blocks_of ts)

  pub stmts_of : Trees → Stmts
  stmts_of tnil = snil
  stmts_of (tcons t ts) = scons (stmt_of t) (stmts_of ts)

  pub blocks_of : Trees → BlockRecords
  blocks_of tnil = no_block
  blocks_of (tcons t ts) = add_block t (blocks_of ts)

  pub add_block : Tree → BlockRecords → BlockRecords
  add_block (node at k v ts) bs = pick (eqb k 5) (and_block at (stmts_of ts) bs) bs

-- a struct's field, or a parameter: Grammar's rows 3 and 4 have pairs, and no other form is met (`NothingOverlooked`)
abbrev pub param_of : Item → Param
param_of (small n) = record { name = 0; ty = 0 }
param_of (opt o) = record { name = 0; ty = 0 }
param_of (word w n) = record { name = 0; ty = 0 }
param_of (ty t) = record { name = 0; ty = 0 }
param_of (param v t) = record { name = 0; ty = 0 }
param_of (pair a b) = record { name = a; ty = b }

abbrev pub params_at : ℕ → List FieldValue → List Param
params_at i v = map param_of (items_at i v)

abbrev pub storage_of : Tree → StorageField
storage_of (node at k v ts) = record { place = at; name = num_at 0 v; ty = num_at 1 v }

abbrev pub struct_of : Tree → Struct
struct_of (node at k v ts) = record { place = at; name = num_at 0 v; fields = params_at 1 v }

unfoldable pub function_of : Tree → Function
function_of (node at k v ts) = record { place = at; name = num_at 0 v; params = params_at 3 v; return_type = opt_at 1 v; body = stmts_of ts; is_pub = eqb (num_at 2 v) 1 }

-- no record at all does not pass refusal 3: what is written has 8 bytes or more (`NothingOverlooked`)
unfoldable pub contract_of : Trees → Contract
contract_of tnil = record { place = 0; name = 0; storage = []; structs = []; functions = [] }
contract_of (tcons (node at k v ts) more) = record { place = at; name = num_at 0 v; storage = gather 2 2 storage_of ts; structs = gather 3 3 struct_of ts; functions = gather 4 4 function_of ts }

unfoldable pub read_contract : List ℕ → Contract
read_contract s = contract_of (read_records s 0 (length s))

-- REFUSAL 3: one contract and nothing after it
unfoldable pub refusal3 : List ℕ → Verdict
refusal3 s = check_records s 0 (length s) (one Class.contract done)

-- REFUSAL 4: the first record that is too many, too wide or too deep. Children come after their parent and before the next record,
-- so the first is the lowest.
unfoldable pub count_trees : Trees → ℕ
count_trees tnil = 0
count_trees (tcons t ts) = suc (count_trees ts)

-- how many storage fields, structs and functions came before a record
pub record Counts : Type 0 where
  pub storage : ℕ
  pub structs : ℕ
  pub functions : ℕ

abbrev pub none_before : Counts
none_before = record { storage = 0; structs = 0; functions = 0 }

-- 1 for a record of the kind
abbrev pub one_if : (kind : ℕ) → Tree → ℕ
one_if j (node at k v ts) = pick (eqb k j) 1 0

-- with this record among them
abbrev pub and_this : Tree → Counts → Counts
and_this t n = record { storage = n.storage + one_if 2 t; structs = n.structs + one_if 3 t; functions = n.functions + one_if 4 t }

-- what the limits look at: a record's kind, its fields, how many children it has, its depth, and what came before it
pub record Measured : Type 0 where
  pub kind : ℕ
  pub fields : List FieldValue
  pub children : ℕ
  pub depth : ℕ
  pub before : Counts

-- document 01's row 4, a line for each limit: whether the record is over it
abbrev pub over_limits : Measured → List Bool
over_limits r =
    (eqb r.kind 4 && leb 64 r.before.functions) ∷  -- the 65th function
    (eqb r.kind 3 && leb 64 r.before.structs) ∷  -- the 65th struct
    (eqb r.kind 2 && leb 256 r.before.storage) ∷  -- the 257th storage field
    (eqb r.kind 3 && leb 65 (length (items_at 1 r.fields))) ∷  -- a struct of over 64 fields
    (eqb r.kind 4 && leb 17 (length (items_at 3 r.fields))) ∷  -- a function of over 16 parameters
    (eqb r.kind 37 && leb 17 r.children) ∷  -- a Call of over 16 arguments
    (eqb r.kind 19 && leb 17 r.children) ∷  -- an Emit of over 16 arguments
    leb 41 r.depth ∷ []  -- has depth 41

abbrev pub any_of : List Bool → Bool
any_of [] = false
any_of (b ∷ bs) = b || any_of bs

unfoldable pub over : Measured → Bool
over r = any_of (over_limits r)

unfoldable mutual
  unfolding count_trees

  pub limit_tree : Tree → (depth : ℕ) → Counts → Verdict
  limit_tree (node at k v ts) depth before =
      pick (over (record { kind = k; fields = v; children = count_trees ts; depth = depth; before = before })) (Bad at) (limit_trees ts (suc depth) none_before)

  pub limit_trees : Trees → (depth : ℕ) → Counts → Verdict
  limit_trees tnil depth before = Good
  limit_trees (tcons t ts) depth before = and_then (limit_tree t depth before) (limit_trees ts depth (and_this t before))

unfoldable pub refusal4 : List ℕ → Verdict
refusal4 s = limit_trees (read_records s 0 (length s)) 1 none_before

-- WRITING
abbrev pub op_number : BinOp → ℕ
op_number BinOp.Add = 0
op_number BinOp.Sub = 1
op_number BinOp.Mul = 2
op_number BinOp.Div = 3
op_number BinOp.Eq = 4
op_number BinOp.Neq = 5
op_number BinOp.Lt = 6
op_number BinOp.Gt = 7
op_number BinOp.Lte = 8
op_number BinOp.Gte = 9

abbrev single : Tree → Trees
single t = tcons t tnil

unfoldable mutual
  pub expr_tree : Expr → Tree
  expr_tree (Expr.Int p v) = node p 30 (item (word 8 v) ∷ []) tnil
  expr_tree (Expr.Ident p n) = node p 31 (u16 n ∷ []) tnil
  expr_tree (Expr.StorageRead p n) = node p 32 (u16 n ∷ []) tnil
  expr_tree (Expr.MappingRead p n e) = node p 33 (u16 n ∷ []) (single (expr_tree e))
  expr_tree (Expr.FieldAccess p f e) = node p 34 (u16 f ∷ []) (single (expr_tree e))
  expr_tree (Expr.StructLiteral p n fs) = node p 35 (u16 n ∷ []) (field_init_trees fs)
  expr_tree (Expr.Binary p op l r) = node p 36 (u16 (op_number op) ∷ []) (tcons (expr_tree l) (single (expr_tree r)))
  expr_tree (Expr.Call p n es) = node p 37 (u16 n ∷ []) (expr_trees es)

  pub expr_trees : Exprs → Trees
  expr_trees enil = tnil
  expr_trees (econs e es) = tcons (expr_tree e) (expr_trees es)

  pub field_init_trees : FieldInits → Trees
  field_init_trees fnil = tnil
  field_init_trees (fcons p n e fs) = tcons (node p 6 (u16 n ∷ []) (single (expr_tree e))) (field_init_trees fs)

abbrev pub opt_expr_trees : OptExpr → Trees
opt_expr_trees absent = tnil
opt_expr_trees (present e) = single (expr_tree e)

unfoldable mutual
  unfolding expr_tree

  pub stmt_tree : Stmt → Tree
  stmt_tree (Stmt.Let p n e) = node p 10 (u16 n ∷ []) (single (expr_tree e))
  stmt_tree (Stmt.Constrain p e) = node p 11 [] (single (expr_tree e))
  stmt_tree (Stmt.Assign p n e) = node p 12 (u16 n ∷ []) (single (expr_tree e))
  stmt_tree (Stmt.StorageWrite p n e) = node p 13 (u16 n ∷ []) (single (expr_tree e))
  stmt_tree (Stmt.MappingWrite p n k e) = node p 14 (u16 n ∷ []) (tcons (expr_tree k) (single (expr_tree e)))
  stmt_tree (Stmt.If p e pt th el) = node p 15 [] (tcons (expr_tree e) (tcons (node pt 5 [] (stmt_trees th)) (else_trees el)))
  stmt_tree (Stmt.While p e pb body) = node p 16 [] (tcons (expr_tree e) (single (node pb 5 [] (stmt_trees body))))
  stmt_tree (Stmt.For p n from to pb body) = node p 17 (u16 n ∷ []) (tcons (expr_tree from) (tcons (expr_tree to) (single (node pb 5 [] (stmt_trees body)))))
  stmt_tree (Stmt.Return p e) = node p 18 [] (opt_expr_trees e)
  stmt_tree (Stmt.Emit p n es) = node p 19 (u16 n ∷ []) (expr_trees es)
  stmt_tree (Stmt.ExprStmt p e) = node p 20 [] (single (expr_tree e))

  pub stmt_trees : Stmts → Trees
  stmt_trees snil = tnil
  stmt_trees (scons s ss) = tcons (stmt_tree s) (stmt_trees ss)

  pub else_trees : OptStmts → Trees
  else_trees no_else = tnil
  else_trees (else_do p ss) = single (node p 5 [] (stmt_trees ss))

abbrev pub param_pair : Param → Item
param_pair p = pair p.name p.ty

abbrev pub storage_tree : StorageField → Tree
storage_tree f = node f.place 2 (u16 f.name ∷ u16 f.ty ∷ []) tnil

abbrev pub struct_tree : Struct → Tree
struct_tree s = node s.place 3 (u16 s.name ∷ rest (map param_pair s.fields) ∷ []) tnil

unfoldable pub function_tree : Function → Tree
function_tree f = node f.place 4 (u16 f.name ∷ item (opt f.return_type) ∷ u16 (pick f.is_pub 1 0) ∷ group (map param_pair f.params) ∷ []) (stmt_trees f.body)

unfoldable pub contract_tree : Contract → Tree
contract_tree K = node K.place 1 (u16 K.name ∷ []) (trees_of storage_tree K.storage (trees_of struct_tree K.structs (trees_of function_tree K.functions tnil)))

unfoldable pub write_contract : Contract → List ℕ
write_contract K = write_tree (contract_tree K)

-- NOTHING IS OVERLOOKED: a sheet that passes refusal 3 is, byte for byte, the writing of the contract that is read from it
abbrev pub NothingOverlooked : Type 0
NothingOverlooked = ReadsAll refusal3 read_contract write_contract

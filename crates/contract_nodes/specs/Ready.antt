-- The records of a contract sheet that passed refusals 3 and 4, by their places: what the functions of lowering ask of their caller.
-- Assumes nothing: these are definitions.
use Rattle.std.specs.Prelude.{ℕ, zero, suc, ◌+◌, ◌-◌, ◌≤◌, ◌≡◌, List, [], ◌∷◌, eqb, length}
use Rattle.definitions.specs.Fields.{le}
use Rattle.definitions.specs.Ast.{Expr, Exprs, FieldInits, Stmt, Stmts, Param, Function}
use Rattle.definitions.specs.Grammar.{Class, one, many, done}
use Rattle.definitions.specs.Records.{pick, Tree, node, read_records, check_records, Good}
use Rattle.definitions.specs.ContractSheet.{Counts, none_before, limit_tree, limit_trees, field_inits_of, expr_of, exprs_of, stmt_of, stmts_of, function_of}
use Rattle.definitions.specs.Fine.{Fine}
use Rattle.sheet.specs.Passed.{Node, stop_of, record_kind, values_at, children_of}

-- the record at a place, with all that is in it
abbrev pub tree_at : List ℕ → ℕ → Tree
tree_at s at = node at (record_kind s at) (values_at s at) (children_of s at)

abbrev pub expr_at : List ℕ → ℕ → Expr
expr_at s at = expr_of (tree_at s at)

abbrev pub exprs_from : List ℕ → (at end : ℕ) → Exprs
exprs_from s at end = exprs_of (read_records s at end)

abbrev pub stmt_at : List ℕ → ℕ → Stmt
stmt_at s at = stmt_of (tree_at s at)

abbrev pub stmts_from : List ℕ → (at end : ℕ) → Stmts
stmts_from s at end = stmts_of (read_records s at end)

abbrev pub function_at : List ℕ → ℕ → Function
function_at s at = function_of (tree_at s at)

-- n fields of a struct, or parameters of a function, from `at` on: a name and a type, two bytes each
unfoldable pub params_from : List ℕ → (at n : ℕ) → List Param
params_from s at zero = []
params_from s at (suc n) = record { name = le 2 s at; ty = le 2 s (at + 2) } ∷ params_from s (at + 4) n

-- the class of a kind of record of the contract: 2, 3 or 4
abbrev pub top_class : ℕ → Class
top_class k = pick (eqb k 2) Class.storage (pick (eqb k 3) Class.struct Class.function)

-- what is left of the depth at one of these
abbrev pub top_depth : ℕ
top_depth = 39

-- a record of the class c stands at `at`, and its depth is 41 less d
pub record Ready (c : Class) (s : List ℕ) (at d : ℕ) : Type 0 where
  pub end : ℕ
  pub node_at : Node s at end
  pub class_is : node_at.class ≡ c
  pub inside : end ≤ length s
  pub depth : ℕ
  pub sum : depth + d ≡ 41
  pub before : Counts
  pub limit : limit_tree (tree_at s at) depth before ≡ Good

-- records of the class c stand from `at` to `end`, at the depth 41 less d
pub record ReadyAll (c : Class) (s : List ℕ) (at end d : ℕ) : Type 0 where
  pub fine : Fine s at end (many c done)
  pub inside : end ≤ length s
  pub depth : ℕ
  pub sum : depth + d ≡ 41
  pub before : Counts
  pub limit : limit_trees (read_records s at end) depth before ≡ Good

-- the fields of a struct literal from `at` to `end`
abbrev pub fields_from : List ℕ → (at end : ℕ) → FieldInits
fields_from s at end = field_inits_of (read_records s at end) (exprs_from s at end)

-- THE SAME AS EQUATIONS, which a value can carry: a record of the class c stands at `at`, and its depth is 41 less d
abbrev pub RecordStands : Class → List ℕ → (at d : ℕ) → Type 0
RecordStands c s at d =
    (check_records s at (stop_of s at) (one c done) ≡ Good) × (stop_of s at ≤ length s) × (limit_tree (tree_at s at) (41 - d) none_before ≡ Good) × (d ≤ 41)

abbrev pub StandAll : Class → List ℕ → (at end d : ℕ) → Type 0
StandAll c s at end d =
    (check_records s at end (many c done) ≡ Good) × (end ≤ length s) × (limit_trees (read_records s at end) (41 - d) none_before ≡ Good) × (d ≤ 41)

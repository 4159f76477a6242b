-- What its kind says of an expression or a statement whose record stands at a place: what is in it, and what it is. The functions that read a node cite it of one
-- another; no public promise does. Assumes nothing: these are definitions.
use Rattle.std.specs.Prelude.{ℕ, ◌+◌, ◌-◌, ◌≤◌, ◌<◌, ◌≡◌, ◌⊎◌, List, length}
use Rattle.definitions.specs.Fields.{le}
use Rattle.definitions.specs.Ast as ast
use Rattle.definitions.specs.Grammar.{Class}
use Rattle.definitions.specs.Lower.{count}
use Rattle.definitions.specs.ContractSheet.{op_of}
use Rattle.sheet.specs.Passed.{stop_of}
use Rattle.format.specs.declared.kinds.Expr.{Expr}
use Rattle.format.specs.declared.kinds.Expr.TheVariants as expr
use Rattle.format.specs.declared.kinds.Stmt.{Stmt}
use Rattle.format.specs.declared.kinds.Stmt.TheVariants as stmt
use Rattle.contract_nodes.specs.Ready.{expr_at, exprs_from, fields_from, stmt_at, stmts_from, RecordStands, StandAll}

-- an expression in it, at p
abbrev ExprIn : List ℕ → (d p : ℕ) → Type 0
ExprIn s d p = (p + 6 ≤ stop_of s p) × RecordStands Class.expression s p (d - 1)

-- records of a class behind its name, to its end
abbrev ListIn : Class → List ℕ → (at d : ℕ) → Type 0
ListIn c s at d = StandAll c s (at + 8) (stop_of s at) (d - 1)

-- statements in a block of it at p, to the block's end
abbrev pub BlockIn : List ℕ → (at d p end : ℕ) → Type 0
BlockIn s at d p end = (2 ≤ d) × (at ≤ p) × (p + 6 ≤ end) × (end ≤ stop_of s at) × StandAll Class.statement s (p + 6) end (d - 2)

abbrev name_here : List ℕ → ℕ → ℕ
name_here s at = le 2 s (at + 6)

-- EXPRESSIONS
abbrev pub ExprByKind : List ℕ → (at d : ℕ) → Expr → Type 0
ExprByKind s at d expr.Int = (at + 14 ≤ length s) × (expr_at s at ≡ ast.Expr.Int at (le 8 s (at + 6)))
ExprByKind s at d expr.Ident = expr_at s at ≡ ast.Expr.Ident at (name_here s at)
ExprByKind s at d expr.StorageRead = expr_at s at ≡ ast.Expr.StorageRead at (name_here s at)
ExprByKind s at d expr.MappingRead = ExprIn s d (at + 8) × (expr_at s at ≡ ast.Expr.MappingRead at (name_here s at) (expr_at s (at + 8)))
ExprByKind s at d expr.FieldAccess = ExprIn s d (at + 8) × (expr_at s at ≡ ast.Expr.FieldAccess at (name_here s at) (expr_at s (at + 8)))
ExprByKind s at d expr.StructLiteral =
    ListIn Class.field_init s at d × (expr_at s at ≡ ast.Expr.StructLiteral at (name_here s at) (fields_from s (at + 8) (stop_of s at)))
ExprByKind s at d expr.Binary =
    (name_here s at ≤ 9) × ExprIn s d (at + 8) × ExprIn s d (stop_of s (at + 8)) × (expr_at s at ≡ ast.Expr.Binary at (op_of (name_here s at)) (expr_at s (at + 8)) (expr_at s (stop_of s (at + 8))))
ExprByKind s at d expr.Call =
    ListIn Class.expression s at d × (count (exprs_from s (at + 8) (stop_of s at)) ≤ 16) × (expr_at s at ≡ ast.Expr.Call at (name_here s at) (exprs_from s (at + 8) (stop_of s at)))

-- STATEMENTS: a name and an expression, an expression alone
abbrev pub BehindName : (ℕ → ℕ → ast.Expr → ast.Stmt) → List ℕ → (at d : ℕ) → Type 0
BehindName of s at d = (at + 8 ≤ length s) × ExprIn s d (at + 8) × (stmt_at s at ≡ of at (name_here s at) (expr_at s (at + 8)))

abbrev pub Alone : (ℕ → ast.Expr → ast.Stmt) → List ℕ → (at d : ℕ) → Type 0
Alone of s at d = ExprIn s d (at + 6) × (stmt_at s at ≡ of at (expr_at s (at + 6)))

-- A RETURN has a value or none
abbrev pub MaybeAlone : List ℕ → (at d : ℕ) → Type 0
MaybeAlone s at d =
    (stop_of s at ≤ at + 6 → stmt_at s at ≡ ast.Stmt.Return at ast.absent) × (at + 6 < stop_of s at → Alone (λ p e. ast.Stmt.Return p (ast.present e)) s at d)

-- AN IF: its block at p, that stops at q, and its second arm as code takes it: the statements from a place to the end, those of an else or none
pub record Arm (s : List ℕ) (at q from d : ℕ) (arms : ast.OptStmts) : Type 0 where
  pub behind : q ≤ from
  pub low : from ≤ stop_of s at
  pub stand : StandAll Class.statement s from (stop_of s at) (d - 2)
  pub is : ((arms ≡ ast.no_else) × (stmts_from s from (stop_of s at) ≡ ast.snil)) ⊎ ((p : ℕ) × (arms ≡ ast.else_do p (stmts_from s from (stop_of s at))))

pub record TwoArms (s : List ℕ) (at p q d : ℕ) : Type 0 where
  pub arms : ast.OptStmts
  pub is : stmt_at s at ≡ ast.Stmt.If at (expr_at s (at + 6)) p (stmts_from s (p + 6) q) arms
  pub with_else : q < stop_of s at → Arm s at q (q + 6) d arms
  pub without_else : stop_of s at ≤ q → Arm s at q (stop_of s at) d arms

abbrev IfAt : List ℕ → (at d p q : ℕ) → Type 0
IfAt s at d p q = ExprIn s d (at + 6) × BlockIn s at d p q × TwoArms s at p q d

-- A WHILE, its block at p; a For, its last value at q
abbrev WhileAt : List ℕ → (at d p : ℕ) → Type 0
WhileAt s at d p = ExprIn s d (at + 6) × BlockIn s at d p (stop_of s at) × (stmt_at s at ≡ ast.Stmt.While at (expr_at s (at + 6)) p (stmts_from s (p + 6) (stop_of s at)))

abbrev ForAt : List ℕ → (at d q p : ℕ) → Type 0
ForAt s at d q p =
    (at + 8 ≤ length s) × ExprIn s d (at + 8) × ExprIn s d q × (at + 16 ≤ p + 6) × BlockIn s at d p (stop_of s at)
    × (stmt_at s at ≡ ast.Stmt.For at (name_here s at) (expr_at s (at + 8)) (expr_at s q) p (stmts_from s (p + 6) (stop_of s at)))

abbrev pub StmtByKind : List ℕ → (at d : ℕ) → Stmt → Type 0
StmtByKind s at d stmt.Let = BehindName ast.Stmt.Let s at d × (at + 16 ≤ stop_of s at)
StmtByKind s at d stmt.Constrain = Alone ast.Stmt.Constrain s at d
StmtByKind s at d stmt.Assign = BehindName ast.Stmt.Assign s at d
StmtByKind s at d stmt.StorageWrite = BehindName ast.Stmt.StorageWrite s at d
StmtByKind s at d stmt.MappingWrite =
    (at + 8 ≤ length s) × ExprIn s d (at + 8) × ExprIn s d (stop_of s (at + 8)) × (stmt_at s at ≡ ast.Stmt.MappingWrite at (name_here s at) (expr_at s (at + 8)) (expr_at s (stop_of s (at + 8))))
StmtByKind s at d stmt.If = IfAt s at d (stop_of s (at + 6)) (stop_of s (stop_of s (at + 6)))
StmtByKind s at d stmt.While = WhileAt s at d (stop_of s (at + 6))
StmtByKind s at d stmt.For = ForAt s at d (stop_of s (at + 8)) (stop_of s (stop_of s (at + 8)))
StmtByKind s at d stmt.Return = MaybeAlone s at d
StmtByKind s at d stmt.Emit =
    (at + 8 ≤ length s) × ListIn Class.expression s at d × (count (exprs_from s (at + 8) (stop_of s at)) ≤ 16) × (stmt_at s at ≡ ast.Stmt.Emit at (name_here s at) (exprs_from s (at + 8) (stop_of s at)))
StmtByKind s at d stmt.Expr = Alone ast.Stmt.ExprStmt s at d

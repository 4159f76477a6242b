-- What the nodes stand for: the trees of the definitions. Assumes nothing: these are definitions.
use Rattle.std.specs.Prelude.{ℕ, zero, suc, ◌+◌, ◌≤◌, ◌<◌, ◌≡◌, ◌⊎◌, List, [], ◌∷◌, ◌++◌, Option, None, Some}
use Rattle.std.proofs.Math.Option as maths
use Rattle.definitions.specs.Ast as ast
use Rattle.definitions.specs.Lower.{count}
use Rattle.definitions.specs.Result.{Done}
use Rattle.definitions.specs.ContractSheet.{read_contract, struct_of, op_of}
use Rattle.sheet.specs.Passed.{stop_of}
use Rattle.format.specs.Operators.{operator_number}
use Rattle.contract_nodes.specs.Ready.{tree_at, expr_at, exprs_from, stmt_at, stmts_from, function_at, fields_from, params_from}
use Rattle.ir.specs.declared.Name.{Name}
use Rattle.contract_nodes.specs.declared.contract.Contract.{Contract}
use Rattle.contract_nodes.specs.declared.contract.Struct.{Struct}
use Rattle.contract_nodes.specs.declared.contract.Function.{Function}
use Rattle.contract_nodes.specs.declared.contract.Param.{Param}
use Rattle.contract_nodes.specs.declared.contract.ParamIter.{ParamIter}
use Rattle.contract_nodes.specs.declared.expr.Expr.{Expr}
use Rattle.contract_nodes.specs.declared.expr.Exprs.{Exprs}
use Rattle.contract_nodes.specs.declared.expr.FieldInits.{FieldInits}
use Rattle.contract_nodes.specs.declared.expr.FieldInit.{FieldInit}
use Rattle.contract_nodes.specs.declared.expr.ExprNode.{ExprNode}
use Rattle.contract_nodes.specs.declared.expr.ExprNode.TheVariants as expr
use Rattle.contract_nodes.specs.declared.stmt.Stmt.{Stmt}
use Rattle.contract_nodes.specs.declared.stmt.Stmts.{Stmts}
use Rattle.contract_nodes.specs.declared.stmt.StmtNode.{StmtNode}
use Rattle.contract_nodes.specs.declared.stmt.StmtNode.TheVariants as stmt
use Rattle.contract_nodes.specs.declared.stmt.SimpleNode.{SimpleNode}
use Rattle.contract_nodes.specs.declared.stmt.SimpleNode.TheVariants as simple

-- a sheet that passed its check says no more
abbrev pub checked : Contract → Done
checked c = tt

-- THE READINGS
abbrev pub contract_in : Contract → ast.Contract
contract_in c = read_contract c.sheet.now

abbrev pub struct_in : Struct → ast.Struct
struct_in x = struct_of (tree_at x.contract.sheet.now x.at)

abbrev pub function_in : Function → ast.Function
function_in f = function_at f.contract.sheet.now f.at

abbrev pub params_left : ParamIter → List ast.Param
params_left w = params_from w.contract.sheet.now w.at w.left

abbrev pub expr_in : Expr → ast.Expr
expr_in e = expr_at e.contract.sheet.now e.at

abbrev pub exprs_in : Exprs → ast.Exprs
exprs_in e = exprs_from e.contract.sheet.now e.at e.end

abbrev pub fields_in : FieldInits → ast.FieldInits
fields_in e = fields_from e.contract.sheet.now e.at e.end

abbrev pub stmt_in : Stmt → ast.Stmt
stmt_in t = stmt_at t.contract.sheet.now t.at

abbrev pub stmts_in : Stmts → ast.Stmts
stmts_in t = stmts_from t.contract.sheet.now t.at t.end

-- a name that may be absent
abbrev pub opt_name : Option Name → maths.Option ℕ
opt_name None = maths.none
opt_name (Some n) = maths.some n.0

-- the i-th of a list of fields or parameters
abbrev pub param_is : Param → List ast.Param → ℕ → Type 0
param_is p [] i = ⊥
param_is p (q ∷ qs) zero = (p.name.0 ≡ q.name) × (p.ty.0 ≡ q.ty)
param_is p (q ∷ qs) (suc i) = param_is p qs i

-- the first of the fields or parameters is taken
pub record NextParam (old new : ParamIter) (p : Param) : Type 0 where
  pub is : params_left old ≡ record { name = p.name.0; ty = p.ty.0 } ∷ params_left new
  pub left : old.left ≡ suc new.left

abbrev pub TakesNextParam : ParamIter → Option Param → ParamIter → Type 0
TakesNextParam old None new = params_left old ≡ []
TakesNextParam old (Some p) new = NextParam old new p

-- the last of them is taken
pub record LastParam (old new : ParamIter) (p : Param) : Type 0 where
  pub is : params_left old ≡ params_left new ++ record { name = p.name.0; ty = p.ty.0 } ∷ []
  pub left : old.left ≡ suc new.left

abbrev pub TakesLastParam : ParamIter → Option Param → ParamIter → Type 0
TakesLastParam old None new = params_left old ≡ []
TakesLastParam old (Some p) new = LastParam old new p

abbrev pub count_of : ast.Exprs → ℕ
count_of es = count es

-- EXPRESSIONS: what a node is, at the place p
abbrev pub expr_is : ℕ → ExprNode → ast.Expr
expr_is p (expr.Int n) = ast.Expr.Int p n
expr_is p (expr.Ident n) = ast.Expr.Ident p n.0
expr_is p (expr.StorageRead n) = ast.Expr.StorageRead p n.0
expr_is p (expr.MappingRead n e) = ast.Expr.MappingRead p n.0 (expr_in e)
expr_is p (expr.FieldAccess n e) = ast.Expr.FieldAccess p n.0 (expr_in e)
expr_is p (expr.StructLiteral n fs) = ast.Expr.StructLiteral p n.0 (fields_in fs)
expr_is p (expr.Binary op l r) = ast.Expr.Binary p (op_of (operator_number op)) (expr_in l) (expr_in r)
expr_is p (expr.Call n es) = ast.Expr.Call p n.0 (exprs_in es)

-- a part of it is of the same sheet, and one less deep
abbrev pub InExpr : Expr → Expr → Type 0
InExpr e x = (x.contract.sheet.now ≡ e.contract.sheet.now) × (x.depth + 1 ≡ e.depth)

abbrev pub ExprParts : Expr → ExprNode → Type 0
ExprParts e (expr.Int n) = Unit {0}
ExprParts e (expr.Ident n) = Unit {0}
ExprParts e (expr.StorageRead n) = Unit {0}
ExprParts e (expr.MappingRead n x) = InExpr e x
ExprParts e (expr.FieldAccess n x) = InExpr e x
ExprParts e (expr.StructLiteral n fs) = (fs.contract.sheet.now ≡ e.contract.sheet.now) × (fs.depth + 1 ≡ e.depth)
ExprParts e (expr.Binary op l r) = InExpr e l × InExpr e r
ExprParts e (expr.Call n es) = (es.contract.sheet.now ≡ e.contract.sheet.now) × (es.depth + 1 ≡ e.depth) × (count_of (exprs_in es) ≤ 16)

-- the first of the expressions is taken. No record for what it has in common with a field's and a statement's: over three types of lists, it would take four numbers of each of two
pub record FirstExpr (old new : Exprs) (e : Expr) : Type 0 where
  pub is : exprs_in old ≡ ast.econs (expr_in e) (exprs_in new)
  pub sheet : e.contract.sheet.now ≡ old.contract.sheet.now
  pub rest_sheet : new.contract.sheet.now ≡ old.contract.sheet.now
  pub depth : e.depth ≡ old.depth
  pub rest_depth : new.depth ≡ old.depth
  pub end : new.end ≡ old.end
  pub less : old.at < new.at
  pub within : new.at ≤ new.end

abbrev pub TakesExpr : Exprs → Option Expr → Exprs → Type 0
TakesExpr old None new = exprs_in old ≡ ast.enil
TakesExpr old (Some e) new = FirstExpr old new e

pub record FirstField (old new : FieldInits) (f : FieldInit) : Type 0 where
  pub place : ℕ
  pub is : fields_in old ≡ ast.fcons place f.name.0 (expr_in f.value) (fields_in new)
  pub sheet : f.value.contract.sheet.now ≡ old.contract.sheet.now
  pub rest_sheet : new.contract.sheet.now ≡ old.contract.sheet.now
  pub depth : f.value.depth + 1 ≡ old.depth
  pub rest_depth : new.depth ≡ old.depth
  pub end : new.end ≡ old.end
  pub less : old.at < new.at
  pub within : new.at ≤ new.end

abbrev pub TakesField : FieldInits → Option FieldInit → FieldInits → Type 0
TakesField old None new = fields_in old ≡ ast.fnil
TakesField old (Some f) new = FirstField old new f

-- a returned value
abbrev pub opt_expr_in : Option Expr → ast.OptExpr
opt_expr_in None = ast.absent
opt_expr_in (Some e) = ast.present (expr_in e)

-- STATEMENTS: what a node is. The places of blocks are any.
pub record IfIs (t : Stmt) (c : Expr) (a b : Stmts) : Type 0 where
  pub then_place : ℕ
  pub arms : ast.OptStmts
  pub is : stmt_in t ≡ ast.Stmt.If t.at (expr_in c) then_place (stmts_in a) arms
  pub other : ((arms ≡ ast.no_else) × (stmts_in b ≡ ast.snil)) ⊎ ((p : ℕ) × (arms ≡ ast.else_do p (stmts_in b)))

abbrev pub simple_is : ℕ → SimpleNode → ast.Stmt
simple_is p (simple.Constrain e) = ast.Stmt.Constrain p (expr_in e)
simple_is p (simple.Assign n e) = ast.Stmt.Assign p n.0 (expr_in e)
simple_is p (simple.StorageWrite n e) = ast.Stmt.StorageWrite p n.0 (expr_in e)
simple_is p (simple.MappingWrite n k e) = ast.Stmt.MappingWrite p n.0 (expr_in k) (expr_in e)
simple_is p (simple.Return e) = ast.Stmt.Return p (opt_expr_in e)
simple_is p (simple.Emit n es) = ast.Stmt.Emit p n.0 (exprs_in es)
simple_is p (simple.Expr e) = ast.Stmt.ExprStmt p (expr_in e)

abbrev pub StmtIs : Stmt → StmtNode → Type 0
StmtIs t (stmt.Let n e) = stmt_in t ≡ ast.Stmt.Let t.at n.0 (expr_in e)
StmtIs t (stmt.If c a b) = IfIs t c a b
StmtIs t (stmt.While c b) = (p : ℕ) × (stmt_in t ≡ ast.Stmt.While t.at (expr_in c) p (stmts_in b))
StmtIs t (stmt.For n a e b) = (p : ℕ) × (stmt_in t ≡ ast.Stmt.For t.at n.0 (expr_in a) (expr_in e) p (stmts_in b))
StmtIs t (stmt.Simple n) = stmt_in t ≡ simple_is t.at n

abbrev pub stop_in : Stmt → ℕ
stop_in t = stop_of t.contract.sheet.now t.at

-- its parts are of the same sheet; an expression is one less deep, statements are two
abbrev pub InStmt : Stmt → Expr → Type 0
InStmt t e = (e.contract.sheet.now ≡ t.contract.sheet.now) × (e.depth + 1 ≡ t.depth)

pub record SpanIn (t : Stmt) (b : Stmts) : Type 0 where
  pub sheet : b.contract.sheet.now ≡ t.contract.sheet.now
  pub depth : b.depth + 2 ≡ t.depth
  pub low : t.at ≤ b.at
  pub order : b.at ≤ b.end
  pub high : b.end ≤ stop_in t

abbrev pub SimpleParts : Stmt → SimpleNode → Type 0
SimpleParts t (simple.Constrain e) = InStmt t e
SimpleParts t (simple.Assign n e) = InStmt t e
SimpleParts t (simple.StorageWrite n e) = InStmt t e
SimpleParts t (simple.MappingWrite n k e) = InStmt t k × InStmt t e
SimpleParts t (simple.Return None) = Unit {0}
SimpleParts t (simple.Return (Some e)) = InStmt t e
SimpleParts t (simple.Emit n es) = (es.contract.sheet.now ≡ t.contract.sheet.now) × (es.depth + 1 ≡ t.depth) × (count_of (exprs_in es) ≤ 16)
SimpleParts t (simple.Expr e) = InStmt t e

abbrev pub StmtParts : Stmt → StmtNode → Type 0
StmtParts t (stmt.Let n e) = InStmt t e × (t.at + 16 ≤ stop_in t)
StmtParts t (stmt.If c a b) = InStmt t c × SpanIn t a × SpanIn t b × (a.end ≤ b.at)
StmtParts t (stmt.While c b) = InStmt t c × SpanIn t b
StmtParts t (stmt.For n a e b) = InStmt t a × InStmt t e × SpanIn t b × (t.at + 16 ≤ b.at)
StmtParts t (stmt.Simple n) = SimpleParts t n

pub record FirstStmt (old new : Stmts) (t : Stmt) : Type 0 where
  pub is : stmts_in old ≡ ast.scons (stmt_in t) (stmts_in new)
  pub sheet : t.contract.sheet.now ≡ old.contract.sheet.now
  pub rest_sheet : new.contract.sheet.now ≡ old.contract.sheet.now
  pub depth : t.depth ≡ old.depth
  pub rest_depth : new.depth ≡ old.depth
  pub place : t.at ≡ old.at
  pub next : new.at ≡ stop_in t
  pub end : new.end ≡ old.end
  pub less : old.at < new.at
  pub within : new.at ≤ new.end

abbrev pub TakesStmt : Stmts → Option Stmt → Stmts → Type 0
TakesStmt old None new = (stmts_in old ≡ ast.snil) × (new.at ≡ old.at)
TakesStmt old (Some t) new = FirstStmt old new t

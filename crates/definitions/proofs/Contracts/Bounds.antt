-- The numbers of a contract that passed refusals 3 and 4. Assumes nothing: these are definitions for proofs, that no promise cites.
use Prim.Native.Nat.{◌<◌, ◌≤◌, ◌^◌}
use lib.ListN.{length}
use Rattle.definitions.specs.Ast.{Param, Contract, Expr, Exprs, Function, OptExpr, OptStmts, Stmt, Stmts, Struct, absent, econs, else_do, enil, no_else, present, scons, snil}
use Rattle.definitions.specs.All.{All}
use Rattle.definitions.proofs.Programs.Fits.{Id, FitsOpt}

abbrev mutual
  pub SmallExpr : Expr → Type 0
  SmallExpr (Expr.Int p v) = v < 256 ^ 8
  SmallExpr (Expr.Ident p n) = Unit {0}
  SmallExpr (Expr.StorageRead p n) = Unit {0}
  SmallExpr (Expr.MappingRead p n e) = Unit {0}
  SmallExpr (Expr.FieldAccess p f e) = SmallExpr e
  SmallExpr (Expr.StructLiteral p n fs) = Unit {0}
  SmallExpr (Expr.Binary p op l r) = SmallExpr l × SmallExpr r
  SmallExpr (Expr.Call p n args) = SmallExprs args

  pub SmallExprs : Exprs → Type 0
  SmallExprs enil = Unit {0}
  SmallExprs (econs e es) = SmallExpr e × SmallExprs es

abbrev pub SmallOpt : OptExpr → Type 0
SmallOpt absent = Unit {0}
SmallOpt (present e) = SmallExpr e

abbrev mutual
  pub SmallStmt : Stmt → Type 0
  SmallStmt (Stmt.Let p n e) = SmallExpr e
  SmallStmt (Stmt.Constrain p e) = SmallExpr e
  SmallStmt (Stmt.Assign p n e) = SmallExpr e
  SmallStmt (Stmt.StorageWrite p n e) = SmallExpr e
  SmallStmt (Stmt.MappingWrite p n k e) = Unit {0}
  SmallStmt (Stmt.If p e pt th el) = SmallExpr e × SmallStmts th × SmallElse el
  SmallStmt (Stmt.While p e pb body) = SmallExpr e × SmallStmts body
  SmallStmt (Stmt.For p n from to pb body) = SmallExpr from × SmallExpr to × SmallStmts body
  SmallStmt (Stmt.Return p e) = SmallOpt e
  SmallStmt (Stmt.Emit p n args) = Id n × SmallExprs args
  SmallStmt (Stmt.ExprStmt p e) = SmallExpr e

  pub SmallStmts : Stmts → Type 0
  SmallStmts snil = Unit {0}
  SmallStmts (scons s ss) = SmallStmt s × SmallStmts ss

  pub SmallElse : OptStmts → Type 0
  SmallElse no_else = Unit {0}
  SmallElse (else_do p ss) = SmallStmts ss

pub record SmallFunction (f : Function) : Type 0 where
  pub name : Id f.name
  pub ret : FitsOpt f.return_type
  pub params : All (λ (p : Param). Id p.ty) f.params
  pub count : length f.params ≤ 16
  pub body : SmallStmts f.body

pub record Small (K : Contract) : Type 0 where
  pub storage : length K.storage ≤ 256
  pub structs : All (λ (s : Struct). length s.fields ≤ 64) K.structs
  pub functions : All SmallFunction K.functions
  pub count : length K.functions ≤ 64

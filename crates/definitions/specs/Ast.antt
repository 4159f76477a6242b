-- The syntax tree (`ast.rs`). Names are numbers, and every record node has the place at which its record starts on the sheet.
-- Lists of expressions and statements are types of their own, since a type may not recur inside `List`.
-- Assumes nothing: these are definitions.
use Rattle.std.specs.Prelude.{ℕ, List, Bool}
use Rattle.std.proofs.Math.Option.{Option}

pub data BinOp : Type 0 where
  Add Sub Mul Div Eq Neq Lt Gt Lte Gte : BinOp

mutual
  pub data Expr : Type 0 where
    Int : (place value : ℕ) → Expr
    Ident : (place name : ℕ) → Expr
    StorageRead : (place name : ℕ) → Expr
    MappingRead : (place name : ℕ) → Expr → Expr
    FieldAccess : (place field : ℕ) → Expr → Expr
    StructLiteral : (place name : ℕ) → FieldInits → Expr
    Binary : (place : ℕ) → BinOp → Expr → Expr → Expr
    Call : (place name : ℕ) → Exprs → Expr

  pub data Exprs : Type 0 where
    enil : Exprs
    econs : Expr → Exprs → Exprs

  pub data FieldInits : Type 0 where
    fnil : FieldInits
    fcons : (place name : ℕ) → Expr → FieldInits → FieldInits

-- `Option<Expr>`
pub data OptExpr : Type 0 where
  absent : OptExpr
  present : Expr → OptExpr

-- The statements of an arm or a body stand behind their block record's place. `ExprStmt` is the Rust's `Stmt::Expr`.
mutual
  pub data Stmt : Type 0 where
    Let : (place name : ℕ) → Expr → Stmt
    Constrain : (place : ℕ) → Expr → Stmt
    Assign : (place name : ℕ) → Expr → Stmt
    StorageWrite : (place name : ℕ) → Expr → Stmt
    MappingWrite : (place name : ℕ) → Expr → Expr → Stmt
    If : (place : ℕ) → Expr → (then_place : ℕ) → Stmts → OptStmts → Stmt
    While : (place : ℕ) → Expr → (body_place : ℕ) → Stmts → Stmt
    For : (place var : ℕ) → Expr → Expr → (body_place : ℕ) → Stmts → Stmt
    Return : (place : ℕ) → OptExpr → Stmt
    Emit : (place event : ℕ) → Exprs → Stmt
    ExprStmt : (place : ℕ) → Expr → Stmt

  pub data Stmts : Type 0 where
    snil : Stmts
    scons : Stmt → Stmts → Stmts

  pub data OptStmts : Type 0 where
    no_else : OptStmts
    else_do : (else_place : ℕ) → Stmts → OptStmts

pub record StorageField : Type 0 where
  pub place : ℕ
  pub name : ℕ
  pub ty : ℕ

-- a field of a struct, a parameter of a function
pub record Param : Type 0 where
  pub name : ℕ
  pub ty : ℕ

pub record Struct : Type 0 where
  pub place : ℕ
  pub name : ℕ
  pub fields : List Param

pub record Function : Type 0 where
  pub place : ℕ
  pub name : ℕ
  pub params : List Param
  pub return_type : Option ℕ
  pub body : Stmts
  pub is_pub : Bool

pub record Contract : Type 0 where
  pub place : ℕ
  pub name : ℕ
  pub storage : List StorageField
  pub structs : List Struct
  pub functions : List Function

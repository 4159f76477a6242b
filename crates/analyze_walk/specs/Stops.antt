-- The body check as the code does it: it stops at the first error, and of an error it keeps the refusal alone. Untrusted: helper definitions; proofs/Stops.antt
-- shows that this is `analyze`.
use Rattle.std.specs.Prelude.{ℕ, List, [], ◌∷◌, Bool, true, false, eqb, length}
use Rattle.std.proofs.Math.Option.{Option, none, some}
use Rattle.definitions.specs.Result.{Result, err, ok, ◌>>=◌, ◌>>◌, ok_or_else, Done, check}
use Rattle.definitions.specs.Ast.{Expr, Exprs, enil, econs, FieldInits, fnil, fcons, OptExpr, absent, present, Stmt, Stmts, snil, scons, OptStmts, no_else, else_do, Param, Struct, Function, Contract}
use Rattle.definitions.specs.Ir.{IrType}
use Rattle.definitions.specs.Sema.{from_str, return_type}
use Rattle.definitions.specs.Lower.{struct_named}
use Rattle.definitions.specs.Answers.{Refusal, refusal}
use Rattle.definitions.specs.Analyze.{Ty, known, Unknown, U64, differs, Env, insert, get, field_type, Signature, signature_named, param_env}

abbrev pub Checking : Type 0 → Type 0
Checking A = Result Refusal A

-- the refusal for the k-th text, raised at a place
abbrev pub sema : (place k : ℕ) → Refusal
sema p k = refusal 51 (p ∷ k ∷ [])

abbrev pub refuse_if : Bool → Refusal → Checking Done
refuse_if true e = err e
refuse_if false e = ok tt

-- the field of a struct, which is declared or not
abbrev pub access_struct : ℕ → ℕ → Option (ℕ × Struct) → Checking Ty
access_struct p f none = ok Unknown
access_struct p f (some decl) = do
  field ← ok_or_else (field_type decl.1.fields f) (sema p 5)
  ok (known (from_str field.1.ty))

unfoldable pub access : Contract → ℕ → ℕ → Ty → Checking Ty
access K p f (known (IrType.Struct s)) = access_struct p f (struct_named K s)
access K p f (known IrType.U64) = err (sema p 6)
access K p f (known IrType.BoolT) = err (sema p 6)
access K p f (known IrType.FieldT) = err (sema p 6)
access K p f (known IrType.Void) = err (sema p 6)
access K p f Unknown = ok Unknown

unfoldable pub agree : ℕ → List IrType → List Ty → Checking Done
agree p [] acts = ok tt
agree p (exp ∷ exps) [] = ok tt
agree p (exp ∷ exps) (act ∷ acts) = do
  refuse_if (differs (known exp) act) (sema p 11)
  agree p exps acts

unfoldable pub call : ℕ → Option Signature → List Ty → Checking Ty
call p sig acts = do
  (params, ret) ← ok_or_else sig (sema p 12)
  check (eqb (length params) (length acts)) (sema p 10)
  agree p params acts
  ok (known ret)

unfoldable mutual
  pub check_expr : Contract → Env → Expr → Checking Ty
  check_expr K env (Expr.Int p v) = ok U64
  check_expr K env (Expr.Ident p n) = ok_or_else (get n env) (sema p 4)
  check_expr K env (Expr.StorageRead p n) = ok U64
  check_expr K env (Expr.MappingRead p n key) = check_expr K env key >> ok U64
  check_expr K env (Expr.FieldAccess p f base) = do
    ty ← check_expr K env base
    access K p f ty
  check_expr K env (Expr.StructLiteral p n fs) = do
    (_, decl) ← ok_or_else (struct_named K n) (sema p 9)
    check_fields K env p decl.fields fs
    ok (known (IrType.Struct n))
  check_expr K env (Expr.Call p n args) = do
    acts ← check_arguments K env args
    call p (signature_named K n) acts
  check_expr K env (Expr.Binary p op left right) = do
    l ← check_expr K env left
    r ← check_expr K env right
    refuse_if (differs l r) (sema p 13)
    ok l

  pub check_fields : Contract → Env → ℕ → List Param → FieldInits → Checking Done
  check_fields K env p sfields fnil = ok tt
  check_fields K env p sfields (fcons q n val fs) = do
    ty ← check_expr K env val
    (_, expected) ← ok_or_else (field_type sfields n) (sema p 8)
    refuse_if (differs ty (known (from_str expected.ty))) (sema p 7)
    check_fields K env p sfields fs

  pub check_arguments : Contract → Env → Exprs → Checking (List Ty)
  check_arguments K env enil = ok []
  check_arguments K env (econs e es) = do
    ty ← check_expr K env e
    tys ← check_arguments K env es
    ok (ty ∷ tys)

unfoldable pub check_return : Contract → Env → OptExpr → Checking Ty
check_return K env absent = ok (known IrType.Void)
check_return K env (present e) = check_expr K env e

unfoldable mutual
  pub check_stmt : Contract → IrType → Stmt → Env → Checking Env
  check_stmt K ret (Stmt.Let p n e) env = do
    ty ← check_expr K env e
    ok (insert n ty env)
  check_stmt K ret (Stmt.Constrain p e) env = check_expr K env e >> ok env
  check_stmt K ret (Stmt.Assign p n e) env = do
    expected ← ok_or_else (get n env) (sema p 2)
    ty ← check_expr K env e
    refuse_if (differs ty expected) (sema p 1)
    ok env
  check_stmt K ret (Stmt.StorageWrite p n e) env = check_expr K env e >> ok env
  check_stmt K ret (Stmt.MappingWrite p n key val) env = check_expr K env key >> check_expr K env val >> ok env
  check_stmt K ret (Stmt.If p cond pt then_branch else_branch) env = do
    check_expr K env cond
    env ← check_stmts K ret then_branch env
    check_else K ret else_branch env
  check_stmt K ret (Stmt.While p cond pb body) env = do
    check_expr K env cond
    check_stmts K ret body env
  check_stmt K ret (Stmt.For p var start end pb body) env = do
    check_expr K env start
    check_expr K env end
    check_stmts K ret body (insert var U64 env)
    ok env
  check_stmt K ret (Stmt.Return p e) env = do
    ty ← check_return K env e
    refuse_if (differs ty (known ret)) (sema p 3)
    ok env
  check_stmt K ret (Stmt.Emit p n args) env = check_arguments K env args >> ok env
  check_stmt K ret (Stmt.ExprStmt p e) env = check_expr K env e >> ok env

  pub check_stmts : Contract → IrType → Stmts → Env → Checking Env
  check_stmts K ret snil env = ok env
  check_stmts K ret (scons s ss) env = do
    env ← check_stmt K ret s env
    check_stmts K ret ss env

  pub check_else : Contract → IrType → OptStmts → Env → Checking Env
  check_else K ret no_else env = ok env
  check_else K ret (else_do p ss) env = check_stmts K ret ss env

unfoldable pub check_function : Contract → Function → Checking Done
check_function K f = check_stmts K (return_type f.return_type) f.body (param_env f.params []) >> ok tt

unfoldable pub check_functions : Contract → List Function → Checking Done
check_functions K [] = ok tt
check_functions K (f ∷ fs) = check_function K f >> check_functions K fs

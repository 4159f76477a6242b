-- Body checking (document 02, order 1: "Port the body checking of `analyze`, with the first error only, as the Rust picks it"): the rest of `sema.rs`, with
-- its names and in its order. As there, errors are pushed onto a list, and `analyze` gives the first. Assumes nothing: these are definitions.
use Rattle.std.specs.Prelude.{ℕ, suc, List, [], ◌∷◌, ◌++◌, Bool, true, false, not, eqb, length}
use Rattle.std.proofs.Math.Option.{Option, none, some}
use Rattle.definitions.specs.Result.{Result, err, ok, Done}
use Rattle.definitions.specs.Names.{poseidon, verify_merkle_proof, msg_sender, msg_nonce, block_number, by_name, last_named}
use Rattle.definitions.specs.Ast.{Expr, Exprs, enil, econs, FieldInits, fnil, fcons, OptExpr, absent, present, Stmt, Stmts, snil, scons, OptStmts, no_else, else_do, Param, Struct, Function, Contract}
use Rattle.definitions.specs.Ir.{IrType, eq_type}
use Rattle.definitions.specs.Sema.{from_str, return_type, function_named}
use Rattle.definitions.specs.Lower.{struct_named}

-- `Type`: one of the five types that lowering has, too, or `Unknown`
pub data Ty : Type 0 where
  known : IrType → Ty
  Unknown : Ty

abbrev pub U64 : Ty
U64 = known IrType.U64

-- `a != b && a != Type::Unknown && b != Type::Unknown`. (For a field of a literal the Rust does not ask whether the declared type is `Unknown`: it never is.)
abbrev pub differs : Ty → Ty → Bool
differs (known a) (known b) = not (eq_type a b)
differs (known a) Unknown = false
differs Unknown b = false

-- The errors in the order of their texts in `sema.rs`, each with "the place of the statement or expression record whose rule raised it (the literal's own, for
-- its fields)", and then what its text names.
pub data SemaError : Type 0 where
  AssignMismatch : (place : ℕ) (expected got : Ty) → SemaError  -- "Type mismatch in assign: expected {:?}, got {:?}"
  UndefinedVariable : (place name : ℕ) → SemaError  -- "Undefined variable: {}"
  ReturnMismatch : (place : ℕ) (expected got : Ty) → SemaError  -- "Type mismatch in return: expected {:?}, got {:?}"
  UndefinedIdentifier : (place name : ℕ) → SemaError  -- "Undefined identifier: {}"
  NoSuchField : (place struct field : ℕ) → SemaError  -- "Struct {} has no field {}"
  FieldOfNonStruct : (place : ℕ) → SemaError  -- "Field access on non-struct"
  FieldMismatch : (place field : ℕ) → SemaError  -- "Field {} type mismatch"
  UnknownField : (place field : ℕ) → SemaError  -- "Unknown field {}"
  UndefinedStruct : (place name : ℕ) → SemaError  -- "Undefined struct: {}"
  ArgumentCount : (place function expected got : ℕ) → SemaError  -- "Function {} expects {} args, got {}"
  ArgumentMismatch : (place argument function : ℕ) → SemaError  -- "Arg {} type mismatch in {}"
  UndefinedFunction : (place name : ℕ) → SemaError  -- "Undefined function: {}"
  BinaryMismatch : (place : ℕ) → SemaError  -- "Type mismatch in binary expression"

-- What a function of the Rust gives, and the errors that it pushes, in order.
pub data Pushing (A : Type 0) : Type 0 where
  pushing : List SemaError → A → Pushing A

abbrev pub pushed_before : {A : Type 0} → List SemaError → Pushing A → Pushing A
pushed_before es (pushing fs a) = pushing (es ++ fs) a

-- one statement of the Rust after the other
infixl 20 ◌>>=◌ ◌>>◌
abbrev pub ◌>>=◌ : {A B : Type 0} → Pushing A → (A → Pushing B) → Pushing B
pushing es a >>= k = pushed_before es (k a)

abbrev pub ◌>>◌ : {A B : Type 0} → Pushing A → Pushing B → Pushing B
pushing es a >> r = pushed_before es r

abbrev pub give : {A : Type 0} → A → Pushing A
give a = pushing [] a

-- `errors.push`
abbrev pub push : SemaError → Pushing Done
push e = pushing (e ∷ []) tt

abbrev pub push_if : Bool → SemaError → Pushing Done
push_if true e = push e
push_if false e = give tt

-- `if !test { errors.push(e) } else { r }`
abbrev pub or_push : Bool → Pushing Done → SemaError → Pushing Done
or_push true r e = r
or_push false r e = push e

-- `HashMap<String, Type>`: what was inserted, newest first. `get` is that of the newest of a name, since `insert` replaces.
abbrev pub Env : Type 0
Env = List (ℕ × Ty)

abbrev pub insert : ℕ → Ty → Env → Env
insert n t env = (n, t) ∷ env

abbrev pub get : ℕ → Env → Option Ty
get n [] = none
get n (e ∷ env) = elim (eqb e.0 n) [ true ↦ some e.1 | false ↦ get n env ]

-- 1. `self.structs`: the last struct of a name, and in it the last field of a name
abbrev pub field_type : List Param → ℕ → Option (ℕ × Param)
field_type fs n = last_named (λ (f : Param). f.name) 0 fs n

-- 2. and 3. `self.functions`: the built-ins are inserted after the declared functions, and replace those of their names; of these the last serves.
abbrev pub Signature : Type 0
Signature = List IrType × IrType

abbrev pub param_types : List Param → List IrType
param_types [] = []
param_types (p ∷ ps) = from_str p.ty ∷ param_types ps

abbrev pub declared : Option (ℕ × Function) → Option Signature
declared none = none
declared (some f) = some (param_types f.1.params, return_type f.1.return_type)

abbrev pub signature_named : Contract → ℕ → Option Signature
signature_named K n =
    by_name n
    ((poseidon, some (IrType.U64 ∷ IrType.U64 ∷ [], IrType.U64))
    ∷ (verify_merkle_proof, some (IrType.U64 ∷ IrType.U64 ∷ IrType.U64 ∷ [], IrType.U64))
    ∷ (msg_sender, some ([], IrType.U64))
    ∷ (msg_nonce, some ([], IrType.U64))
    ∷ (block_number, some ([], IrType.U64))
    ∷ [])
    (declared (function_named K n))

-- EXPRESSIONS. What is done with the types of the parts, in the order of `analyze_expr`; p is the expression's place.
unfoldable pub ident_type : (p n : ℕ) → Option Ty → Pushing Ty
ident_type p n (some ty) = give ty
ident_type p n none = push (SemaError.UndefinedIdentifier p n) >> give Unknown

-- a field f of a value of the struct s: one that is not declared is no error
abbrev pub access_in : (p f s : ℕ) → Option (ℕ × Struct) → Pushing Ty
access_in p f s none = give Unknown
access_in p f s (some decl) = elim (field_type decl.1.fields f) [
  | some field ↦ give (known (from_str field.1.ty))
  | none ↦ push (SemaError.NoSuchField p s f) >> give Unknown
]

unfoldable pub access_type : Contract → (p f : ℕ) → Ty → Pushing Ty
access_type K p f (known (IrType.Struct s)) = access_in p f s (struct_named K s)
access_type K p f (known IrType.U64) = push (SemaError.FieldOfNonStruct p) >> give Unknown
access_type K p f (known IrType.BoolT) = push (SemaError.FieldOfNonStruct p) >> give Unknown
access_type K p f (known IrType.FieldT) = push (SemaError.FieldOfNonStruct p) >> give Unknown
access_type K p f (known IrType.Void) = push (SemaError.FieldOfNonStruct p) >> give Unknown
access_type K p f Unknown = give Unknown

-- a field n of the literal at p
unfoldable pub check_field : (p n : ℕ) → Option (ℕ × Param) → Ty → Pushing Done
check_field p n (some expected) ty = push_if (differs ty (known (from_str expected.1.ty))) (SemaError.FieldMismatch p n)
check_field p n none ty = push (SemaError.UnknownField p n)

-- `params.iter().zip(arg_types.iter()).enumerate()`, from the i-th on, of a call of the function n
unfoldable pub check_args : (p n i : ℕ) → List IrType → List Ty → Pushing Done
check_args p n i [] acts = give tt
check_args p n i (exp ∷ exps) [] = give tt
check_args p n i (exp ∷ exps) (act ∷ acts) = do
  push_if (differs (known exp) act) (SemaError.ArgumentMismatch p i n)
  check_args p n (suc i) exps acts

unfoldable pub call_type : (p n : ℕ) → Option Signature → List Ty → Pushing Ty
call_type p n (some sig) acts = do
  or_push (eqb (length sig.0) (length acts)) (check_args p n 0 sig.0 acts) (SemaError.ArgumentCount p n (length sig.0) (length acts))
  give (known sig.1)
call_type p n none acts = push (SemaError.UndefinedFunction p n) >> give Unknown

unfoldable mutual
  -- `analyze_expr`
  pub analyze_expr : Contract → Env → Expr → Pushing Ty
  analyze_expr K env (Expr.Int p v) = give U64
  analyze_expr K env (Expr.Ident p n) = ident_type p n (get n env)
  analyze_expr K env (Expr.StorageRead p n) = give U64
  analyze_expr K env (Expr.MappingRead p n key) = analyze_expr K env key >> give U64
  analyze_expr K env (Expr.FieldAccess p f base) = do
    base_ty ← analyze_expr K env base
    access_type K p f base_ty
  analyze_expr K env (Expr.StructLiteral p n fs) = elim (struct_named K n) [
    | some decl ↦ analyze_fields K env p decl.1.fields fs >> give (known (IrType.Struct n))
    | none ↦ push (SemaError.UndefinedStruct p n) >> give Unknown
  ]
  analyze_expr K env (Expr.Call p n args) = do
    acts ← analyze_args K env args
    call_type p n (signature_named K n) acts
  analyze_expr K env (Expr.Binary p op left right) = do
    l_ty ← analyze_expr K env left
    r_ty ← analyze_expr K env right
    push_if (differs l_ty r_ty) (SemaError.BinaryMismatch p)
    give l_ty

  -- the fields of the literal at p
  pub analyze_fields : Contract → Env → ℕ → List Param → FieldInits → Pushing Done
  analyze_fields K env p sfields fnil = give tt
  analyze_fields K env p sfields (fcons q n val fs) = do
    ty ← analyze_expr K env val
    check_field p n (field_type sfields n) ty
    analyze_fields K env p sfields fs

  -- the arguments of a call or an event
  pub analyze_args : Contract → Env → Exprs → Pushing (List Ty)
  analyze_args K env enil = give []
  analyze_args K env (econs e es) = do
    ty ← analyze_expr K env e
    tys ← analyze_args K env es
    give (ty ∷ tys)

-- STATEMENTS give what the names are afterwards.
unfoldable pub analyze_return : Contract → Env → OptExpr → Pushing Ty
analyze_return K env absent = give (known IrType.Void)
analyze_return K env (present e) = analyze_expr K env e

unfoldable mutual
  -- `analyze_stmt`; `ret` is `self.current_func_ret`
  pub analyze_stmt : Contract → IrType → Stmt → Env → Pushing Env
  analyze_stmt K ret (Stmt.Let p n e) env = do
    ty ← analyze_expr K env e
    give (insert n ty env)
  analyze_stmt K ret (Stmt.Constrain p e) env = analyze_expr K env e >> give env
  analyze_stmt K ret (Stmt.Assign p n e) env = elim (get n env) [
    | some expected ↦ do
      ty ← analyze_expr K env e
      push_if (differs ty expected) (SemaError.AssignMismatch p expected ty)
      give env
    | none ↦ push (SemaError.UndefinedVariable p n) >> analyze_expr K env e >> give env
  ]
  analyze_stmt K ret (Stmt.StorageWrite p n e) env = analyze_expr K env e >> give env
  analyze_stmt K ret (Stmt.MappingWrite p n key val) env = analyze_expr K env key >> analyze_expr K env val >> give env
  -- "A Let inside an If arm stays known afterwards here, unlike in lowering."
  analyze_stmt K ret (Stmt.If p cond pt then_branch else_branch) env = do
    analyze_expr K env cond
    env ← analyze_stmts K ret then_branch env
    analyze_else K ret else_branch env
  analyze_stmt K ret (Stmt.While p cond pb body) env = do
    analyze_expr K env cond
    analyze_stmts K ret body env
  -- the body has a clone of the names, which is dropped
  analyze_stmt K ret (Stmt.For p var start end pb body) env = do
    analyze_expr K env start
    analyze_expr K env end
    analyze_stmts K ret body (insert var U64 env)
    give env
  analyze_stmt K ret (Stmt.Return p e) env = do
    ret_ty ← analyze_return K env e
    push_if (differs ret_ty (known ret)) (SemaError.ReturnMismatch p (known ret) ret_ty)
    give env
  analyze_stmt K ret (Stmt.Emit p n args) env = analyze_args K env args >> give env
  analyze_stmt K ret (Stmt.ExprStmt p e) env = analyze_expr K env e >> give env

  pub analyze_stmts : Contract → IrType → Stmts → Env → Pushing Env
  analyze_stmts K ret snil env = give env
  analyze_stmts K ret (scons s ss) env = do
    env ← analyze_stmt K ret s env
    analyze_stmts K ret ss env

  pub analyze_else : Contract → IrType → OptStmts → Env → Pushing Env
  analyze_else K ret no_else env = give env
  analyze_else K ret (else_do p ss) env = analyze_stmts K ret ss env

-- FUNCTIONS AND CONTRACTS
-- the parameters are inserted in order
abbrev pub param_env : List Param → Env → Env
param_env [] env = env
param_env (p ∷ ps) env = param_env ps (insert p.name (known (from_str p.ty)) env)

-- `analyze_function`
unfoldable pub analyze_function : Contract → Function → Pushing Done
analyze_function K f = analyze_stmts K (return_type f.return_type) f.body (param_env f.params []) >> give tt

unfoldable pub analyze_functions : Contract → List Function → Pushing Done
analyze_functions K [] = give tt
analyze_functions K (f ∷ fs) = analyze_function K f >> analyze_functions K fs

-- `if errors.is_empty() { Ok(()) } else { Err(errors.remove(0)) }`
abbrev pub first_error : {A : Type 0} → Pushing A → Result SemaError A
first_error (pushing [] a) = ok a
first_error (pushing (e ∷ es) a) = err e

-- `analyze`
unfoldable pub analyze : Contract → Result SemaError Done
analyze K = first_error (analyze_functions K K.functions)

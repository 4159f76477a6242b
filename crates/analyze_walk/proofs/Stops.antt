-- Stopping at the first error gives the first of all errors: `first_error` takes the steps of `analyze` to those of `check_functions`, one by one.
-- Assumes nothing.
use Prim.Native.Nat.{ℕ, suc}
use mathlib.Core.Path.{◌≡◌, refl, ap, ◌∙◌}
use mathlib.Core.List.{List, [], ◌∷◌}
use mathlib.Core.Option.{Option, none, some}
use mathlib.Core.Bool.{Bool, true, false}
use lib.Dec.{eqb}
use lib.ListN.{length}
use Rattle.definitions.specs.Result.{Result, err, ok, ok_or_else, map_err, Done}
use Rattle.definitions.specs.Answers.{sema_refusal}
use Rattle.definitions.specs.Result as result
use Rattle.definitions.specs.Analyze as collected
use Rattle.definitions.specs.Ast.{Expr, Exprs, enil, econs, FieldInits, fnil, fcons, OptExpr, absent, present, Stmt, Stmts, snil, scons, OptStmts, no_else, else_do, Param, Struct, Function, Contract}
use Rattle.definitions.specs.Ir.{IrType}
use Rattle.definitions.specs.Sema.{from_str, return_type}
use Rattle.definitions.specs.Lower.{struct_named}
use Rattle.definitions.specs.Analyze.{Ty, known, Unknown, U64, differs, SemaError, Pushing, pushing, pushed_before, ◌>>=◌, ◌>>◌, give, push, push_if, or_push, Env, insert, get, field_type, Signature, signature_named, param_env, ident_type, access_type, check_field, check_args, call_type, analyze_expr, analyze_fields, analyze_args, analyze_return, analyze_stmt, analyze_stmts, analyze_else, analyze_function, analyze_functions, first_error, analyze}
use Rattle.analyze_walk.specs.Stops.{Checking, sema, refuse_if, access_struct, access, agree, call, check_expr, check_fields, check_arguments, check_return, check_stmt, check_stmts, check_else, check_function, check_functions}

-- STEPS
-- r is what m gives, or the refusal for the first error that it pushes
abbrev told : {A : Type 0} → Pushing A → Checking A
told m = map_err sema_refusal (first_error m)

record Gives {A : Type 0} (m : Pushing A) (r : Checking A) : Type 0 where
  same : told m ≡ r

given : {A : Type 0} (a : A) → Gives (give a) (ok a)
given a = record { same = refl }

pushed : (e : SemaError) → Gives (push e) (err (sema_refusal e))
pushed e = record { same = refl }

before : {A : Type 0} (e : SemaError) (es : List SemaError) (m : Pushing A) → told (pushed_before (e ∷ es) m) ≡ err (sema_refusal e)
before e es (pushing fs a) = refl

nothing_before : {A : Type 0} (m : Pushing A) → told (pushed_before [] m) ≡ told m
nothing_before (pushing fs a) = refl

bound : {A B : Type 0} (m : Pushing A) (r : Checking A) (k : A → Pushing B) (q : A → Checking B) → told m ≡ r → ((a : A) → Gives (k a) (q a)) → told (m >>= k) ≡ (result.◌>>=◌ r q)
bound (pushing [] a) r k q e h = nothing_before (k a) ∙ ((h a).same ∙ ap (λ r. result.◌>>=◌ r q) e)
bound (pushing (x ∷ es) a) r k q e h = before x es (k a) ∙ ap (λ r. result.◌>>=◌ r q) e

followed : {A B : Type 0} (m : Pushing A) (r : Checking A) (n : Pushing B) (s : Checking B) → told m ≡ r → told n ≡ s → told (m >> n) ≡ (result.◌>>◌ r s)
followed (pushing [] a) r n s e h = nothing_before n ∙ (h ∙ ap (λ r. result.◌>>◌ r s) e)
followed (pushing (x ∷ es) a) r n s e h = before x es n ∙ ap (λ r. result.◌>>◌ r s) e

bind : {A B : Type 0} {m : Pushing A} {r : Checking A} {k : A → Pushing B} {q : A → Checking B} → Gives m r → ((a : A) → Gives (k a) (q a)) → Gives (m >>= k) (result.◌>>=◌ r q)
bind {m = m} {r} {k} {q} g h = record { same = bound m r k q g.same h }

seq : {A B : Type 0} {m : Pushing A} {r : Checking A} {n : Pushing B} {s : Checking B} → Gives m r → Gives n s → Gives (m >> n) (result.◌>>◌ r s)
seq {m = m} {r} {n} {s} g h = record { same = followed m r n s g.same h.same }

-- an error, whatever comes after it
ends : {B : Type 0} (e : SemaError) (n : Pushing B) → Gives (push e >> n) (err (sema_refusal e))
ends e n = record { same = before e [] n }

pushed_if : (t : Bool) (e : SemaError) → Gives (push_if t e) (refuse_if t (sema_refusal e))
pushed_if true e = pushed e
pushed_if false e = given tt

-- something that is there, or an error
found : {A B : Type 0} (o : Option A) (e : SemaError) (y : A → Pushing B) (n : Pushing B) (q : A → Checking B) → ((a : A) → Gives (y a) (q a)) → Gives (elim o [ some a ↦ y a | none ↦ push e >> n ]) (result.◌>>=◌ (ok_or_else o (sema_refusal e)) q)
found (some a) e y n q h = h a
found none e y n q h = ends e n

-- EXPRESSIONS
ident : (p n : ℕ) (o : Option Ty) → Gives (ident_type p n o) (ok_or_else o (sema p 4))
unfolding ident_type
ident p n (some ty) = given ty
ident p n none = ends (SemaError.UndefinedIdentifier p n) (give Unknown)

field_in : (p f s : ℕ) (o : Option (ℕ × Struct)) → Gives (collected.access_in p f s o) (access_struct p f o)
field_in p f s none = given Unknown
field_in p f s (some decl) = found (field_type decl.1.fields f) (SemaError.NoSuchField p s f) (λ d. give (known (from_str d.1.ty))) (give Unknown) (λ d. ok (known (from_str d.1.ty))) (λ d. given (known (from_str d.1.ty)))

accessed : (K : Contract) (p f : ℕ) (t : Ty) → Gives (access_type K p f t) (access K p f t)
unfolding access_type access
accessed K p f (known (IrType.Struct s)) = field_in p f s (struct_named K s)
accessed K p f (known IrType.U64) = ends (SemaError.FieldOfNonStruct p) (give Unknown)
accessed K p f (known IrType.BoolT) = ends (SemaError.FieldOfNonStruct p) (give Unknown)
accessed K p f (known IrType.FieldT) = ends (SemaError.FieldOfNonStruct p) (give Unknown)
accessed K p f (known IrType.Void) = ends (SemaError.FieldOfNonStruct p) (give Unknown)
accessed K p f Unknown = given Unknown

agreed : (p n i : ℕ) (exps : List IrType) (acts : List Ty) → Gives (check_args p n i exps acts) (agree p exps acts)
unfolding check_args agree
agreed p n i [] acts = given tt
agreed p n i (exp ∷ exps) [] = given tt
agreed p n i (exp ∷ exps) (act ∷ acts) = seq (pushed_if (differs (known exp) act) (SemaError.ArgumentMismatch p i n)) (agreed p n (suc i) exps acts)

counted : (t : Bool) (m : Pushing Done) (r : Checking Done) (e : SemaError) (ty : Ty) → Gives m r → Gives (or_push t m e >> give ty) (result.◌>>◌ (result.check t (sema_refusal e)) (result.◌>>◌ r (ok ty)))
counted true m r e ty g = seq g (given ty)
counted false m r e ty g = ends e (give ty)

called : (p n : ℕ) (o : Option Signature) (acts : List Ty) → Gives (call_type p n o acts) (call p o acts)
unfolding call_type call
called p n (some sig) acts =
    counted (eqb (length sig.0) (length acts)) (check_args p n 0 sig.0 acts) (agree p sig.0 acts) (SemaError.ArgumentCount p n (length sig.0) (length acts)) (known sig.1) (agreed p n 0 sig.0 acts)
called p n none acts = ends (SemaError.UndefinedFunction p n) (give Unknown)

-- a field of a literal, and then the others
field : (p n : ℕ) (o : Option (ℕ × Param)) (ty : Ty) (m : Pushing Done) (r : Checking Done) → Gives m r
    → Gives (check_field p n o ty >> m) (result.◌>>=◌ (ok_or_else o (sema p 8)) (λ d. result.◌>>◌ (refuse_if (differs ty (known (from_str d.1.ty))) (sema p 7)) r))
unfolding check_field
field p n (some d) ty m r g = seq (pushed_if (differs ty (known (from_str d.1.ty))) (SemaError.FieldMismatch p n)) g
field p n none ty m r g = ends (SemaError.UnknownField p n) m

mutual
  unfolding analyze_expr check_expr

  expr : (K : Contract) (env : Env) (e : Expr) → Gives (analyze_expr K env e) (check_expr K env e)
  expr K env (Expr.Int p v) = given U64
  expr K env (Expr.Ident p n) = ident p n (get n env)
  expr K env (Expr.StorageRead p n) = given U64
  expr K env (Expr.MappingRead p n key) = seq (expr K env key) (given U64)
  expr K env (Expr.FieldAccess p f base) = bind (expr K env base) (λ ty. accessed K p f ty)
  expr K env (Expr.StructLiteral p n fs) =
      found (struct_named K n) (SemaError.UndefinedStruct p n) (λ d. analyze_fields K env p d.1.fields fs >> give (known (IrType.Struct n))) (give Unknown) (λ d. result.◌>>◌ (check_fields K env p d.1.fields fs) (ok (known (IrType.Struct n))))
      (λ d. seq (fields K env p d.1.fields fs) (given (known (IrType.Struct n))))
  expr K env (Expr.Call p n args) = bind (arguments K env args) (λ acts. called p n (signature_named K n) acts)
  expr K env (Expr.Binary p op left right) = bind (expr K env left) (λ l. bind (expr K env right) (λ r. seq (pushed_if (differs l r) (SemaError.BinaryMismatch p)) (given l)))

  fields : (K : Contract) (env : Env) (p : ℕ) (ds : List Param) (fs : FieldInits) → Gives (analyze_fields K env p ds fs) (check_fields K env p ds fs)
  fields K env p ds fnil = given tt
  fields K env p ds (fcons q n val fs) = bind (expr K env val) (λ ty. field p n (field_type ds n) ty (analyze_fields K env p ds fs) (check_fields K env p ds fs) (fields K env p ds fs))

  arguments : (K : Contract) (env : Env) (es : Exprs) → Gives (analyze_args K env es) (check_arguments K env es)
  arguments K env enil = given []
  arguments K env (econs e es) = bind (expr K env e) (λ ty. bind (arguments K env es) (λ tys. given (ty ∷ tys)))

-- STATEMENTS
returned : (K : Contract) (env : Env) (o : OptExpr) → Gives (analyze_return K env o) (check_return K env o)
unfolding analyze_return check_return
returned K env absent = given (known IrType.Void)
returned K env (present e) = expr K env e

-- an Assign of a name that is not known: its expression is looked at all the same, after the error
unknown : {A B : Type 0} (e : SemaError) (m : Pushing A) (n : Pushing B) → Gives (push e >> m >> n) (err (sema_refusal e))
unknown e (pushing es a) (pushing fs b) = record { same = refl }

assigned : (o : Option Ty) (p n : ℕ) (m : Pushing Ty) (r : Checking Ty) (env : Env) → Gives m r
    → Gives (elim o [ some expected ↦ m >>= (λ ty. push_if (differs ty expected) (SemaError.AssignMismatch p expected ty) >> give env) | none ↦ push (SemaError.UndefinedVariable p n) >> m >> give env ])
    (result.◌>>=◌ (ok_or_else o (sema p 2)) (λ expected. result.◌>>=◌ r (λ ty. result.◌>>◌ (refuse_if (differs ty expected) (sema p 1)) (ok env))))
assigned (some expected) p n m r env g = bind g (λ ty. seq (pushed_if (differs ty expected) (SemaError.AssignMismatch p expected ty)) (given env))
assigned none p n m r env g = unknown (SemaError.UndefinedVariable p n) m (give env)

mutual
  unfolding analyze_stmt check_stmt

  stmt : (K : Contract) (ret : IrType) (s : Stmt) (env : Env) → Gives (analyze_stmt K ret s env) (check_stmt K ret s env)
  stmt K ret (Stmt.Let p n e) env = bind (expr K env e) (λ ty. given (insert n ty env))
  stmt K ret (Stmt.Constrain p e) env = seq (expr K env e) (given env)
  stmt K ret (Stmt.Assign p n e) env = assigned (get n env) p n (analyze_expr K env e) (check_expr K env e) env (expr K env e)
  stmt K ret (Stmt.StorageWrite p n e) env = seq (expr K env e) (given env)
  stmt K ret (Stmt.MappingWrite p n key val) env = seq (seq (expr K env key) (expr K env val)) (given env)
  stmt K ret (Stmt.If p cond pt then_branch else_branch) env = seq (expr K env cond) (bind (stmts K ret then_branch env) (λ after. elses K ret else_branch after))
  stmt K ret (Stmt.While p cond pb body) env = seq (expr K env cond) (stmts K ret body env)
  stmt K ret (Stmt.For p var start end pb body) env = seq (expr K env start) (seq (expr K env end) (seq (stmts K ret body (insert var U64 env)) (given env)))
  stmt K ret (Stmt.Return p e) env = bind (returned K env e) (λ ty. seq (pushed_if (differs ty (known ret)) (SemaError.ReturnMismatch p (known ret) ty)) (given env))
  stmt K ret (Stmt.Emit p n args) env = seq (arguments K env args) (given env)
  stmt K ret (Stmt.ExprStmt p e) env = seq (expr K env e) (given env)

  stmts : (K : Contract) (ret : IrType) (ss : Stmts) (env : Env) → Gives (analyze_stmts K ret ss env) (check_stmts K ret ss env)
  stmts K ret snil env = given env
  stmts K ret (scons s ss) env = bind (stmt K ret s env) (λ after. stmts K ret ss after)

  elses : (K : Contract) (ret : IrType) (o : OptStmts) (env : Env) → Gives (analyze_else K ret o env) (check_else K ret o env)
  elses K ret no_else env = given env
  elses K ret (else_do p ss) env = stmts K ret ss env

-- FUNCTIONS AND CONTRACTS
function : (K : Contract) (f : Function) → Gives (analyze_function K f) (check_function K f)
unfolding analyze_function check_function
function K f = seq (stmts K (return_type f.return_type) f.body (param_env f.params [])) (given tt)

functions : (K : Contract) (fs : List Function) → Gives (analyze_functions K fs) (check_functions K fs)
unfolding analyze_functions check_functions
functions K [] = given tt
functions K (f ∷ fs) = seq (function K f) (functions K fs)

-- the refusal for the first of all errors is the one at which the code stops
pub stops : (K : Contract) → map_err sema_refusal (analyze K) ≡ check_functions K K.functions
unfolding analyze
stops K = (functions K K.functions).same

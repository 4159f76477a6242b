-- An expression's walk refuses what its lowering refuses, and gives the same value as long as nothing is lost. Assumes nothing.
use Prim.Native.Nat.{ℕ, ◌*◌}
use mathlib.Core.Path.{◌≡◌, refl, ap, ap₂}
use mathlib.Core.List.{List, [], ◌∷◌}
use mathlib.Core.Option.{Option}
use mathlib.Core.Bool.{Bool, false}
use lib.Dec.{eqb}
use native.Mathlib.Omega.{arith}
use Rattle.definitions.specs.Result.{ok, ◌>>=◌, ok_or_else}
use Rattle.definitions.specs.Ast.{Expr, Exprs, enil, econs, Contract}
use Rattle.definitions.specs.Ir.{IrType, Instruction, binary_type, unless_void}
use Rattle.definitions.specs.Sema.{function_named}
use Rattle.definitions.specs.Sema
use Rattle.definitions.specs.Lower.{LoweringError, Lowering, FnCtx, Scope, Value, Lowered, Callee, context_fn, poseidon_fn, merkle_proof_fn, user_fn, callee, two_of, count, struct_name_of, storage_named, struct_named, field_position, push_instr, lower_call, lower_expr, lower_args, lower_expr_value}
use Rattle.definitions.specs.Lower
use Rattle.definitions.proofs.Results.{by_test}
use Rattle.lower_walk.specs.Log.{Log}
use Rattle.lower_walk.specs.Stmts.{LogCtx, with_log}
use Rattle.lower_walk.specs.Exprs.{Walked, push_value, need_value, walk_ident, walk_storage_read, field_offset, walk_field, walk_user_call, resolve_user, resolve_fn, resolve, with_arguments, walk_call, walk_expr, walk_args, walk_expr_value}
use Rattle.lower_walk.proofs.Tied.{Later, After, after, Now, value_is, push_now}
use Rattle.lower_walk.proofs.Related.{Rel, bad, good, nested, bind_o, joined, bind_l, EV, ev, EO, eno, eso, EL, eln, elc, el_is, call_value, Pair, pair, bind_v, bind_e}

module _ (K : Contract) {Q : List ℕ} {t : Scope} {up : List Scope} {d : LogCtx} where
  pushed_pair : {f₀ f : Bool} {A : Type 0} {E : Bool → A → A → Type 0} {c : FnCtx} {l : Log} {a b : A} → Later f₀ f → ((g : Bool) → Later f g → E g a b) → After f (λ g. Now 0 Q t up false g c (with_log l d)) → Rel (Pair Q t up d f₀ A E) (ok (c, a)) (ok (l, b))
  pushed_pair {c = c} {l} le e (after g h N) = good _ _ (pair c l g _ _ (λ q. le (h q)) (e g h) N)

  value_push : {i j : Instruction} (y : IrType) {c : FnCtx} {l : Log} {f₀ g : Bool} → Later f₀ g → (g ≡ false → i ≡ j) → Now 0 Q t up false g c (with_log l d) → Rel (Pair Q t up d f₀ (Option Value) EO) (ok (Lower.push_value i y c)) (ok (push_value j y l))
  unfolding Lower.push_value push_value
  value_push y {c} {l} le e N = pushed_pair le (λ g h. eso c.next_value l.value y (λ q. value_is N (h q))) (push_now (omega arith) e N)

  value_same : {f : Bool} {r : Lowering Lowered} {r' : Lowering Walked} → Rel (Pair Q t up d f (Option Value) EO) r r' → Rel (Pair Q t up d f Value EV) (r >>= Lower.need_value) (r' >>= need_value)
  unfolding Lower.need_value need_value
  value_same (bad x) = bad x
  value_same (good _ _ (pair c l g _ _ le eno N)) = bad LoweringError.VoidAsValue
  value_same (good _ _ (pair c l g _ _ le (eso n m y e) N)) = good _ _ (pair c l g _ _ le (ev n m y e) N)

  two_same : {f g : Bool} {c : FnCtx} {l : Log} (xs ys : List ℕ) → Later f g → EL g xs ys → Now 0 Q t up false g c (with_log l d)
      → Rel (Pair Q t up d f (Option Value) EO) (ok_or_else (two_of xs) LoweringError.PoseidonArguments >>= λ p. ok (Lower.push_value (Instruction.Poseidon p.0 p.1) IrType.U64 c))
      (ok_or_else (two_of ys) LoweringError.PoseidonArguments >>= λ p. ok (push_value (Instruction.Poseidon p.0 p.1) IrType.U64 l))
  two_same _ _ le eln N = bad LoweringError.PoseidonArguments
  two_same _ _ le (elc n m _ _ e eln) N = bad LoweringError.PoseidonArguments
  two_same _ _ le (elc n m _ _ e (elc n' m' _ _ e' eln)) N = value_push IrType.U64 le (λ q. ap₂ Instruction.Poseidon (e q) (e' q)) N
  two_same _ _ le (elc n m _ _ e (elc n' m' _ _ e' (elc i j _ _ e'' h))) N = bad LoweringError.PoseidonArguments

  call_same : (k : Callee) (n many : ℕ) (args : FnCtx → Lowering (FnCtx × List ℕ)) (args' : Log → Lowering (Log × List ℕ)) {c : FnCtx} {l : Log} {f : Bool} → Rel (Pair Q t up d f (List ℕ) EL) (args c) (args' l) → Now 0 Q t up false f c (with_log l d)
      → Rel (Pair Q t up d f (Option Value) EO) (lower_call K k n many args c) (resolve_fn K k n many >>= λ d. with_arguments d args' l)
  unfolding lower_call resolve_user walk_user_call push_instr
  call_same (context_fn c) n many args args' h N = value_push IrType.U64 (λ q. q) (λ q. refl) N
  call_same poseidon_fn n many args args' h N =
      by_test (eqb many 2)
      (λ q. rw (q, lower_call, resolve_fn) (bind_e _ _ h λ c l g a b le e N. two_same a b le e N))
      (λ q. rw (q, lower_call, resolve_fn) (bad LoweringError.PoseidonArguments))
  call_same merkle_proof_fn n many args args' h N = bad LoweringError.MerkleProof
  call_same user_fn n many args args' h N =
      simp nested (bind_o (function_named K n) (LoweringError.UndefinedFunction n) _ _ λ f.
      bind_e _ _ h λ c l g a b le e N.
      pushed_pair le (λ g h. call_value (unless_void (Sema.return_type f.1.return_type)) c.next_value l.value g (λ q. value_is N (h q)))
      (push_now (omega arith) (λ q. ap (λ (x : List ℕ). Instruction.Call f.0 x (Sema.return_type f.1.return_type)) (el_is e q)) N))

  mutual
    unfolding lower_expr walk_expr walk_ident walk_storage_read field_offset walk_field resolve walk_call

    expr_in : (x : Expr) {c : FnCtx} {l : Log} {f : Bool} → Now 0 Q t up false f c (with_log l d) → Rel (Pair Q t up d f (Option Value) EO) (lower_expr K x c) (walk_expr K (joined (t ∷ up)) x l)
    expr_in (Expr.Int p n) N = value_push IrType.U64 (λ q. q) (λ q. refl) N
    expr_in (Expr.Ident p n) N =
        bind_l n (LoweringError.UndefinedVariable n) _ _ N λ e.
        value_push e.1 (λ q. q) (λ q. refl) N
    expr_in (Expr.StorageRead p n) N =
        bind_o (storage_named K n) (LoweringError.UndefinedVariable n) _ _ λ e.
        value_push IrType.U64 (λ q. q) (λ q. refl) N
    expr_in (Expr.MappingRead p n x) N = bad LoweringError.MappingRead
    expr_in (Expr.FieldAccess p f x) N =
        bind_v _ _ (value_same (expr_in x N)) λ c l g n m y le e N.
        simp nested (bind_o (struct_name_of y) LoweringError.FieldOfNonStruct _ _ λ j.
        bind_o (struct_named K j) (LoweringError.UnresolvedType j) _ _ λ d.
        bind_o (field_position d.1.fields f) (LoweringError.NoSuchField j f) _ _ λ i.
        value_push IrType.U64 le (λ q. ap (λ (z : ℕ). Instruction.Load IrType.U64 z (i * 8)) (e q)) N)
    expr_in (Expr.StructLiteral p n fs) N = bad LoweringError.StructLiteral
    expr_in (Expr.Binary p op x y) N =
        bind_v _ _ (value_same (expr_in x N)) λ c l g n m z le e N.
        bind_v _ _ (value_same (expr_in y N)) λ c l g' n' m' z' le' e' N.
        value_push (binary_type op z) (λ q. le (le' q)) (λ q. ap₂ (Instruction.Binary op z) (e (le' q)) (e' q)) N
    expr_in (Expr.Call p n xs) N = call_same (callee n) n (count xs) (λ d. lower_args K xs d) (λ d. walk_args K (joined (t ∷ up)) xs d) (args_in xs N) N

    args_in : (xs : Exprs) {c : FnCtx} {l : Log} {f : Bool} → Now 0 Q t up false f c (with_log l d) → Rel (Pair Q t up d f (List ℕ) EL) (lower_args K xs c) (walk_args K (joined (t ∷ up)) xs l)
    args_in enil {c} {l} {f} N = good _ _ (pair c l f [] [] (λ q. q) eln N)
    args_in (econs x xs) N =
        bind_v _ _ (value_same (expr_in x N)) λ c l g n m z le e N.
        bind_e _ _ (args_in xs N) λ c l g' a b le' h N.
        good _ _ (pair c l g' _ _ (λ q. le (le' q)) (elc n m a b (λ q. e (le' q)) h) N)

-- ---- in a state of the walk
module _ (K : Contract) {Q : List ℕ} {t : Scope} {up : List Scope} {c : FnCtx} {d : LogCtx} {f : Bool} (N : Now 0 Q t up false f c d) where
  pub expr_same : (x : Expr) → Rel (Pair Q t up d f (Option Value) EO) (lower_expr K x c) (walk_expr K (joined (t ∷ up)) x d.log)
  expr_same x = expr_in K x N

  pub args_same : (xs : Exprs) → Rel (Pair Q t up d f (List ℕ) EL) (lower_args K xs c) (walk_args K (joined (t ∷ up)) xs d.log)
  args_same xs = args_in K xs N

  pub exprv_same : (x : Expr) → Rel (Pair Q t up d f Value EV) (lower_expr_value K x c) (walk_expr_value K (joined (t ∷ up)) x d.log)
  unfolding lower_expr_value walk_expr_value
  exprv_same x = value_same K (expr_in K x N)

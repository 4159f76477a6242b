-- What each statement comes to, once its parts do. Assumes nothing.
use mathlib.Core.Path.{◌≡◌, refl, ap, ◌∙◌}
use Prim.Native.Nat.{ℕ}
use Rattle.std.proofs.Common.{inl, inr}
use Rattle.definitions.specs.Result.{err, ok, ◌>>=◌, ◌>>◌}
use Rattle.definitions.specs.Ast.{Expr, Stmt, Stmts, snil, scons, Contract}
use Rattle.definitions.specs.Ir.{IrType}
use Rattle.definitions.specs.Analyze.{Ty, U64, Env, insert}
use Rattle.analyze_walk.specs.Stops.{Checking, check_expr, check_stmt, check_stmts, check_else}
use Rattle.contract_nodes.specs.Nodes.{expr_in, stmt_in, stmts_in, IfIs}
use Rattle.contract_nodes.specs.declared.expr.Expr.{Expr as Condition}
use Rattle.contract_nodes.specs.declared.stmt.Stmt.{Stmt as Node}
use Rattle.contract_nodes.specs.declared.stmt.Stmts.{Stmts as Arm}
use Rattle.analyze_env.specs.Names.{Names}
use Rattle.analyze_simple.specs.Checked.{pair_checked}

module _ (K : Contract) (ret : IrType) (env : Env) where
  -- LET
  pub let_is : {s : Stmt} {p n : ℕ} {e : Expr} {r : Checking Ty} → s ≡ Stmt.Let p n e → r ≡ check_expr K env e → (r >>= λ ty. ok (insert n ty env)) ≡ check_stmt K ret s env
  unfolding check_stmt
  let_is {n = n} q w = rw q (ap (λ (r : Checking Ty). r >>= λ ty. ok (insert n ty env)) w)

  -- STATEMENTS, from the first on
  pub first_is : {ss : Stmts} {s : Stmt} {rest : Stmts} {r : Checking Env} → ss ≡ scons s rest → r ≡ check_stmt K ret s env → (r >>= check_stmts K ret rest) ≡ check_stmts K ret ss env
  unfolding check_stmt
  first_is {rest = rest} q w = rw q (ap (λ (r : Checking Env). r >>= check_stmts K ret rest) w)

  pub none_is : {ss : Stmts} → ss ≡ snil → ok env ≡ check_stmts K ret ss env
  unfolding check_stmt
  none_is q = rw q

  -- IF, given what came of the condition, and then of the first arm
  module _ {t : Node} {cond : Condition} {a b : Arm} (i : IfIs t cond a b) where
    abbrev both_arms : Checking Ty → Checking Env
    both_arms r = r >> (check_stmts K ret (stmts_in a) env >>= check_else K ret i.arms)

    other_arm : (env₁ : Env) → check_stmts K ret (stmts_in b) env₁ ≡ check_else K ret i.arms env₁
    unfolding check_stmt
    other_arm env₁ = elim i.other [ inl h ↦ rw (h.0, h.1) | inr h ↦ rw h.1 ]

    pub test_is : {r : Checking Ty} → r ≡ check_expr K env (expr_in cond) → both_arms r ≡ check_stmt K ret (stmt_in t) env
    unfolding check_stmt
    test_is w = rw i.is (ap both_arms w)

    module _ {ty : Ty} (w : ok ty ≡ check_expr K env (expr_in cond)) where
      pub then_is : {r : Checking Env} → r ≡ check_stmts K ret (stmts_in a) env → (r >>= check_else K ret i.arms) ≡ check_stmt K ret (stmt_in t) env
      then_is v = ap (λ (r : Checking Env). r >>= check_else K ret i.arms) v ∙ test_is w

      pub if_is : {env₁ : Env} {r : Checking Env} → ok env₁ ≡ check_stmts K ret (stmts_in a) env → r ≡ check_stmts K ret (stmts_in b) env₁ → r ≡ check_stmt K ret (stmt_in t) env
      if_is {env₁} v u = u ∙ (other_arm env₁ ∙ then_is v)

  -- WHILE, given what came of the condition
  pub while_is : {s : Stmt} {p q : ℕ} {cond : Expr} {a : Stmts} {r : Checking Ty} → s ≡ Stmt.While p cond q a → r ≡ check_expr K env cond → (r >> check_stmts K ret a env) ≡ check_stmt K ret s env
  unfolding check_stmt
  while_is {a = a} is w = rw is (ap (λ (r : Checking Ty). r >> check_stmts K ret a env) w)

  -- FOR, given what came of its bounds, and then of its body, before which its variable became known
  both_bounds : (r s : Checking Ty) (k : Checking Env) → (((r >> s) >> ok env) >> k) ≡ (r >> (s >> k))
  both_bounds (err x) s k = refl
  both_bounds (ok t) (err x) k = refl
  both_bounds (ok t) (ok u) k = refl

  module _ {s : Stmt} {p var q : ℕ} {start end : Expr} {body : Stmts} (is : s ≡ Stmt.For p var start end q body) where
    pub bounds_are : {r : Checking Env} → r ≡ pair_checked K env start end → (r >> (check_stmts K ret body (insert var U64 env) >> ok env)) ≡ check_stmt K ret s env
    unfolding check_stmt
    bounds_are w =
        ap (λ (r : Checking Env). r >> (check_stmts K ret body (insert var U64 env) >> ok env)) w
        ∙ rw is (both_bounds (check_expr K env start) (check_expr K env end) (check_stmts K ret body (insert var U64 env) >> ok env))

    pub body_is : {e : Env} {room : ℕ} {env₁ : Names} {r : Checking Env} → ok e ≡ pair_checked K env start end → env₁ ≡ record { names = insert var U64 env; room = room } → r ≡ check_stmts K ret body env₁.names → (r >> ok env) ≡ check_stmt K ret s env
    body_is w k v = ap (λ (r : Checking Env). r >> ok env) (rw k at v) ∙ bounds_are w

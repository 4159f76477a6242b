-- What the walk of a statement is in the nodes' words. Assumes nothing.
use mathlib.Core.Path.{◌≡◌, refl}
use Prim.Native.Nat.{ℕ}
use Rattle.std.proofs.Common.{inl, inr}
use Rattle.definitions.specs.Ast.{Contract}
use Rattle.contract_nodes.specs.Nodes.{stmt_in, stmts_in, IfIs}
use Rattle.contract_nodes.specs.declared.expr.Expr.{Expr}
use Rattle.contract_nodes.specs.declared.stmt.Stmt.{Stmt}
use Rattle.contract_nodes.specs.declared.stmt.Stmts.{Stmts}
use Rattle.lower_walk.specs.Held.{Held}
use Rattle.lower_walk.specs.Stmts.{LogCtx, walk_if, walk_stmt, walk_stmts, walk_else}
use Rattle.lower_names.specs.HeldNames.{HeldNames}
use Rattle.lower_names.specs.Stated.{stmt_on}
use Rattle.lower_stmts.specs.Bodies.{if_nodes}

-- IF: an arm that is absent is one without statements
module _ {t : Stmt} {e : Expr} {a b : Stmts} (i : IfIs t e a b) where
  other_arm : (K : Contract) (n : ℕ) (es : Held) (c : LogCtx) → walk_else K n es i.arms c ≡ walk_stmts K n es (stmts_in b) c
  unfolding walk_else walk_stmts
  other_arm K n es c = elim i.other [
    | inl h ↦ rw (h.0, h.1) refl
    | inr h ↦ rw h.1 refl
  ]

  pub if_walk : e.contract.sheet.now ≡ t.contract.sheet.now → (h : HeldNames) (c : LogCtx) → if_nodes e a b h c ≡ stmt_on t.contract h (stmt_in t) c
  unfolding walk_if walk_stmt
  if_walk q h c = rw (i.is, q) (simp other_arm refl)

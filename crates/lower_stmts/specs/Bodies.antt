-- What lowering arms and bodies does, in the words of the walk. Assumes nothing: these are definitions.
use Rattle.std.specs.Prelude.{ℕ, suc, ◌+◌, ◌≤◌, ◌≡◌, ◌++◌, length}
use Rattle.definitions.specs.Ast as ast
use Rattle.definitions.specs.Lower.{Lowering}
use Rattle.contract_nodes.specs.Nodes.{contract_in, expr_in, stmts_in}
use Rattle.contract_nodes.specs.declared.expr.Expr.{Expr}
use Rattle.contract_nodes.specs.declared.stmt.Stmts.{Stmts}
use Rattle.lower_walk.specs.Held.{Held}
use Rattle.lower_walk.specs.Stmts.{LogCtx, walk_if, walk_stmts}
use Rattle.lower_names.specs.HeldNames.{HeldNames}
use Rattle.lower_names.specs.Stated.{stmt_on}

-- each name that is held has a local, and statements so deep open at most 40 scopes
pub record HasRoom (c : LogCtx) (h : HeldNames) (deep : ℕ) : Type 0 where
  pub locals : length h.held ≤ length c.locals
  pub scopes : h.scope + deep ≤ 40

-- an expression and statements of one sheet
abbrev pub OneSheet : Expr → Stmts → Type 0
OneSheet e b = b.contract.sheet.now ≡ e.contract.sheet.now

-- the walk of an arm
abbrev pub arm_nodes : Expr → HeldNames → Stmts → LogCtx → Lowering LogCtx
arm_nodes e h b c = walk_stmts (contract_in e.contract) (suc h.scope) h.held (stmts_in b) c

-- the walk of an If, whose second arm may have no statements
abbrev pub if_nodes : Expr → (a b : Stmts) → HeldNames → LogCtx → Lowering (LogCtx × Held)
if_nodes e a b h c = walk_if (contract_in e.contract) h.held (expr_in e) (arm_nodes e h a) (arm_nodes e h b) c

-- of a While and of a For, at places p and q
abbrev pub while_nodes : (p q : ℕ) → Expr → Stmts → HeldNames → LogCtx → Lowering (LogCtx × Held)
while_nodes p q e b h c = stmt_on e.contract h (ast.Stmt.While p (expr_in e) q (stmts_in b)) c

abbrev pub for_nodes : (p q name : ℕ) → (start end : Expr) → Stmts → HeldNames → LogCtx → Lowering (LogCtx × Held)
for_nodes p q name start end b h c = stmt_on start.contract h (ast.Stmt.For p name (expr_in start) (expr_in end) q (stmts_in b)) c

-- names may have been added to the innermost scope, and none is gone
pub record Extends (before after : HeldNames) : Type 0 where
  pub added : Held
  pub held : after.held ≡ added ++ before.held
  pub scope : after.scope ≡ before.scope

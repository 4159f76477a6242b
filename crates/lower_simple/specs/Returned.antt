-- What a Return comes to, of a value or of none. Assumes nothing: these are definitions.
use Rattle.std.specs.Prelude.{ℕ, ◌≡◌, Option, IfSome}
use Rattle.definitions.specs.Ast.{Stmt}
use Rattle.definitions.specs.Lower.{Lowering}
use Rattle.contract_nodes.specs.Nodes.{opt_expr_in}
use Rattle.contract_nodes.specs.declared.contract.Contract.{Contract}
use Rattle.contract_nodes.specs.declared.expr.Expr.{Expr}
use Rattle.lower_walk.specs.Held.{Held}
use Rattle.lower_walk.specs.Stmts.{LogCtx}
use Rattle.lower_names.specs.HeldNames.{HeldNames}
use Rattle.lower_names.specs.Stated.{stmt_on}

-- the walk of a Return, of a value or of none
abbrev pub return_on : Contract → HeldNames → (p : ℕ) → Option Expr → LogCtx → Lowering (LogCtx × Held)
return_on K h p value c = stmt_on K h (Stmt.Return p (opt_expr_in value)) c

-- a value, if there is one, is of the contract's sheet
abbrev pub OnSheet : Contract → Option Expr → Type 0
OnSheet K value = IfSome value (λ e. e.contract.sheet.now ≡ K.sheet.now)

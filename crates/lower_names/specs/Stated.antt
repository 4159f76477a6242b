-- What a statement comes to, and what it leaves. Assumes nothing: these are definitions.
use Rattle.std.specs.Prelude.{ℕ, ◌∷◌, Result}
use Rattle.definitions.specs.Ast.{Stmt}
use Rattle.definitions.specs.Lower.{Lowering}
use Rattle.contract_nodes.specs.Nodes.{contract_in}
use Rattle.contract_nodes.specs.declared.contract.Contract.{Contract}
use Rattle.lower_walk.specs.Held.{Held}
use Rattle.lower_walk.specs.Stmts.{LogCtx, walk_stmt}
use Rattle.ir.specs.Types.{as_type}
use Rattle.ir.specs.declared.IrType.{IrType}
use Rattle.ir.specs.declared.LocalId.{LocalId}
use Rattle.lower_state.specs.Answers.{with_state, done_after}
use Rattle.lower_state.specs.declared.refusals.LoweringError.{LoweringError}
use Rattle.lower_names.specs.HeldNames.{HeldNames, held_name}

-- the state, and the names that are held
abbrev pub stated : LogCtx → HeldNames → Result (Unit {0}) LoweringError → Lowering (LogCtx × Held)
stated c h r = done_after (c, h.held) r

-- the state, and the names with one more, that of a Let, with its local and its type
abbrev pub let_stated : LogCtx → HeldNames → (name : ℕ) → Result (LocalId × IrType) LoweringError → Lowering (LogCtx × Held)
let_stated c h name r = with_state (λ p. held_name h.scope name p.0.0 (as_type p.1) ∷ h.held) c r

-- the walk of a statement of a contract, with the names that are held
abbrev pub stmt_on : Contract → HeldNames → Stmt → LogCtx → Lowering (LogCtx × Held)
stmt_on K h x c = walk_stmt (contract_in K) h.scope h.held x c

-- The locals of a For in the words of the walk. Assumes nothing: these are definitions.
use Rattle.definitions.specs.Lower.{Lowering}
use Rattle.contract_nodes.specs.Nodes.{contract_in, expr_in}
use Rattle.contract_nodes.specs.declared.expr.Expr.{Expr}
use Rattle.lower_walk.specs.Held.{Held}
use Rattle.lower_walk.specs.Stmts as walk
use Rattle.lower_walk.specs.Stmts.{LogCtx, for_locals}
use Rattle.lower_control.specs.declared.Bounds.{Bounds}

abbrev pub bounds_of : Bounds → walk.Bounds
bounds_of i = record { var = i.var.0; end = i.end.0 }

-- the two locals of a For, by the nodes of its start and its end, with the names that are held
abbrev pub locals_of : (start end : Expr) → Held → LogCtx → Lowering (LogCtx × walk.Bounds)
locals_of start end es c = for_locals (contract_in start.contract) es (expr_in start) (expr_in end) c

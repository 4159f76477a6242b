-- The measures of the cycle of expressions, and the loop's invariant. Three for each level of depth, and a rank: a value is an expression,
-- which is a call, whose arguments are one level down. Assumes nothing.
use mathlib.Core.Path.{◌≡◌}
use Prim.Native.Nat.{◌+◌, ◌*◌}
use Rattle.contract_nodes.specs.Nodes.{contract_in, exprs_in}
use Rattle.lower_walk.specs.Exprs.{finish_call}
use Rattle.lower_values.specs.Values.{called_of}
use Rattle.lower_exprs.specs.Calls.{call_of}
use Rattle.lower_exprs.proofs.ArgSteps.{Going}
use Rattle.lower_exprs.proofs.+exprs.Given as goal

abbrev pub decreases-lower_expr : goal.decreases-lower_expr
decreases-lower_expr l = 3 * l.e.depth + 1

abbrev pub decreases-lower_expr_value : goal.decreases-lower_expr_value
decreases-lower_expr_value l = 3 * l.e.depth + 2

abbrev pub decreases-lower_call : goal.decreases-lower_call
decreases-lower_call l = 3 * l.args.depth + 3

-- the arguments that are left, after the values so far, give what the whole call gives
abbrev pub invariant-lower_call-loop-arg : goal.invariant-lower_call-loop-arg
invariant-lower_call-loop-arg l = record {
  sheet : l.arg-iterator.contract.sheet.now ≡ l.fn.args.contract.sheet.now;
  depth : l.arg-iterator.depth ≡ l.fn.args.depth;
  left : Going (contract_in l.fn.args.contract) l.scopes.held (finish_call (called_of l.called)) (call_of (contract_in l.fn.args.contract) l.scopes.held l.fn.name.0 (exprs_in l.fn.args) l.fn.ctx.log) l.fn.ctx (exprs_in l.arg-iterator) l.values l.ctx;
}

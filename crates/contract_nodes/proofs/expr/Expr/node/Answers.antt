-- `contract_nodes::expr::Expr::node`: the operator's number is that of an operator. Assumes nothing.
use mathlib.Core.Path.{sym, ◌∙◌}
use Rattle.format.specs.Operators.{operator_number}
use Rattle.sheet.proofs.Standing.{kind_ok}
use Rattle.contract_nodes.proofs.Steps.{op_kind}
use Rattle.contract_nodes.proofs.expr.Expr.node.Goals as goal

pub unwrap-op-requires : goal.unwrap-op-requires
unwrap-op-requires c = let k = op_kind _ c.in-Binary.ensures.here.0 in kind_ok operator_number _ c.try_from.ensures (k.0, k.1 ∙ sym c.read_u16-in-Binary.ensures)

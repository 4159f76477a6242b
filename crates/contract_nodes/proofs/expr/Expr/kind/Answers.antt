-- The number is that of a kind of expression. Those of `Stmt::kind` differ in the class, its table and its clause. Assumes nothing.
use mathlib.Core.Path.{sym, ◌∙◌}
use native.Mathlib.Omega.{arith}
use Rattle.format.specs.Kinds.{expr_number}
use Rattle.sheet.proofs.Standing.{kind_ok, kind_is}
use Rattle.contract_nodes.proofs.Standing.{ready}
use Rattle.contract_nodes.proofs.Children.{bounds}
use Rattle.contract_nodes.proofs.ExprPlaces.{expr_long, expr_here}
use Rattle.contract_nodes.proofs.Steps.{expr_kind}
use Rattle.contract_nodes.proofs.expr.Expr.kind.Goals as goal

pub read_u16-requires : goal.read_u16-requires
read_u16-requires c = let b = bounds (ready c.args.self.ready) in omega (arith, b.low, b.high)

pub unwrap-requires : goal.unwrap-requires
unwrap-requires c =
    let k = expr_kind (ready c.args.self.ready) in
    kind_ok expr_number _ c.try_from.ensures (k.0, k.1 ∙ sym c.read_u16.ensures)

pub returns-clause-here : goal.returns-clause-here
returns-clause-here c = expr_here (ready c.args.self.ready) _ (sym (kind_is expr_number c.try_from.ensures c.unwrap.ensures ∙ c.read_u16.ensures))

pub returns-clause-deep : goal.returns-clause-deep
returns-clause-deep c = (bounds (ready c.args.self.ready)).deep

pub returns-clause-room : goal.returns-clause-room
returns-clause-room c = let r = ready c.args.self.ready in omega (arith, expr_long r, (bounds r).high)

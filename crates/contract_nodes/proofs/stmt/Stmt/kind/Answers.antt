-- The number is that of a kind of statement. Those of `Expr::kind` differ in the class, its table and its clause. Assumes nothing.
use mathlib.Core.Path.{sym, ◌∙◌}
use native.Mathlib.Omega.{arith}
use Rattle.format.specs.Kinds.{stmt_number}
use Rattle.sheet.proofs.Standing.{kind_ok, kind_is}
use Rattle.contract_nodes.proofs.Standing.{ready}
use Rattle.contract_nodes.proofs.Children.{bounds}
use Rattle.contract_nodes.proofs.StmtPlaces.{stmt_here}
use Rattle.contract_nodes.proofs.Steps.{stmt_kind}
use Rattle.contract_nodes.proofs.stmt.Stmt.kind.Goals as goal

pub read_u16-requires : goal.read_u16-requires
read_u16-requires c = let b = bounds (ready c.args.self.ready) in omega (arith, b.low, b.high)

pub unwrap-requires : goal.unwrap-requires
unwrap-requires c =
    let k = stmt_kind (ready c.args.self.ready) in
    kind_ok stmt_number _ c.try_from.ensures (k.0, k.1 ∙ sym c.read_u16.ensures)

pub returns-clause-here : goal.returns-clause-here
returns-clause-here c = stmt_here (ready c.args.self.ready) _ (sym (kind_is stmt_number c.try_from.ensures c.unwrap.ensures ∙ c.read_u16.ensures))

pub returns-clause-deep : goal.returns-clause-deep
returns-clause-deep c = (bounds (ready c.args.self.ready)).deep

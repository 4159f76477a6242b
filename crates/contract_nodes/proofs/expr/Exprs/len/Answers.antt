use mathlib.Core.Path.{sym, ◌∙◌}
use Rattle.contract_nodes.proofs.Standing.{ready_all}
use Rattle.contract_nodes.proofs.ExprPlaces.{count_is}
use Rattle.contract_nodes.proofs.expr.Exprs.len.Goals as goal

pub count-requires : goal.count-requires
count-requires c = let r = ready_all c.args.self.ready in (record { pattern = _; fine = r.fine }, r.inside)

pub returns : goal.returns
returns c = c.count.ensures ∙ sym (count_is _)

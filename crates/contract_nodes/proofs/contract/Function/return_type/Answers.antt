use mathlib.Core.Path.{sym, ◌∙◌}
use native.Mathlib.Omega.{arith}
use Rattle.contract_nodes.proofs.Steps.{name_or_none, function_here}
use Rattle.contract_nodes.proofs.contract.Function.return_type.Goals as goal

pub opt_id-requires : goal.opt_id-requires
opt_id-requires c = let f = function_here c.args.self in omega (arith, f.fits, f.inside)

pub returns : goal.returns
returns c =
    let f = function_here c.args.self in
    name_or_none _ _ c.map.ensures.cases ∙ (c.opt_id.ensures ∙ sym f.return_type)

use mathlib.Core.Path.{sym, ◌∙◌}
use native.Mathlib.Omega.{arith}
use Rattle.contract_nodes.proofs.Steps.{function_here}
use Rattle.contract_nodes.proofs.contract.Function.name.Goals as goal

pub read_u16-requires : goal.read_u16-requires
read_u16-requires c = let f = function_here c.args.self in omega (arith, f.fits, f.inside)

pub returns : goal.returns
returns c =
    let f = function_here c.args.self in
    c.new.ensures ∙ (c.read_u16.ensures ∙ sym f.name)

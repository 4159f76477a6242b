use mathlib.Core.Path.{ap, sym, ◌∙◌}
use Prim.Native.Nat.{◌+◌}
use native.Mathlib.Omega.{arith}
use Rattle.contract_nodes.specs.Ready.{params_from}
use Rattle.contract_nodes.proofs.Steps.{params_count, function_here}
use Rattle.contract_nodes.proofs.contract.Function.params.Goals as goal

pub invariant_of-result : goal.invariant_of-result
invariant_of-result c =
    let f = function_here c.args.self in
    record { inside = omega (arith, c.param_count.ensures.count, params_count f, f.fits, f.inside) }

pub returns-clause-is : goal.returns-clause-is
returns-clause-is c =
    let x = c.args.self in
    let f = function_here x in
    ap (params_from x.contract.sheet.now (x.at + 14)) (c.param_count.ensures.count ∙ params_count f) ∙ sym f.params

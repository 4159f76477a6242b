use mathlib.Core.Path.{sym, ◌∙◌}
use native.Mathlib.Omega.{arith}
use Rattle.contract_nodes.proofs.Steps.{params_count, function_here}
use Rattle.contract_nodes.proofs.contract.Function.param_count.Goals as goal

pub read-requires : goal.read-requires
read-requires c = let f = function_here c.args.self in (omega (arith, f.fits, f.inside), omega arith)

pub returns-clause-count : goal.returns-clause-count
returns-clause-count c = c.read.ensures.0 ∙ sym (params_count (function_here c.args.self))

pub returns-clause-most : goal.returns-clause-most
returns-clause-most c = omega (arith, c.read.ensures.0, (function_here c.args.self).few)

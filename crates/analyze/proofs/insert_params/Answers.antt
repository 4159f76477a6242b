-- `analyze::insert_params`: what is left of the parameters gives what all of them give. Assumes nothing.
use mathlib.Core.Path.{ap}
use Rattle.definitions.specs.Analyze.{known}
use Rattle.analyze.proofs.Knowing.{one_more}
use Rattle.analyze.proofs.insert_params.Goals as goal

pub loop-param-preserved : goal.loop-param-preserved
loop-param-preserved c = one_more c.loop-param.invariant c.in-Some.ensures.steps (ap known c.from_str.ensures) c.insert.ensures

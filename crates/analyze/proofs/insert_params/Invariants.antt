-- `analyze::insert_params`: what is left of the parameters gives what all of them give. Assumes nothing.
use Rattle.contract_nodes.specs.Nodes.{function_in}
use Rattle.analyze.proofs.Knowing.{Knowing}
use Rattle.analyze.proofs.insert_params.Given as goal

abbrev pub invariant-loop-param : goal.invariant-loop-param
invariant-loop-param l = Knowing (function_in l.f).params l.fn.env.room l.env l.param-iterator

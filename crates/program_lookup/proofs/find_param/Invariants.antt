-- `program_lookup::find_param`: what is left of the parameters is searched. Assumes nothing.
use mathlib.Core.Path.{◌≡◌}
use Rattle.program_nodes.specs.Definitions.{first_definition}
use Rattle.program_nodes.specs.Nodes.{param_definitions_in, params_of}
use Rattle.program_lookup.proofs.find_param.Given as goal

abbrev pub invariant-loop-param : goal.invariant-loop-param
invariant-loop-param l = first_definition l.v.0 (param_definitions_in l.param-iterator) ≡ first_definition l.v.0 (params_of l.f)

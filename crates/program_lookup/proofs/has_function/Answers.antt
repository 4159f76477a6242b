-- `program_lookup::has_function`: whether one is found. Assumes nothing.
use mathlib.Core.Path.{◌∙◌}
use Rattle.program_nodes.specs.Nodes.{ir_of, functions_of}
use Rattle.program_lookup.proofs.Searches.{has_function_lem}
use Rattle.program_lookup.proofs.has_function.Goals as goal

pub returns : goal.returns
returns c = c.is_some.ensures ∙ has_function_lem ir_of c.find_function.result c.args.g.0 (functions_of c.args.program) c.find_function.ensures.is

-- `program_lookup::find_function`: what is left of the functions is searched. Assumes nothing.
use mathlib.Core.Path.{◌≡◌}
use Rattle.definitions.specs.Bench.{function_with}
use Rattle.program_nodes.specs.Nodes.{functions_of, functions_in}
use Rattle.program_lookup.proofs.find_function.Given as goal

abbrev pub invariant-loop-function : goal.invariant-loop-function
invariant-loop-function l = (function_with l.g.0 (functions_in l.function-iterator) ≡ function_with l.g.0 (functions_of l.program)) × (l.function-iterator.program.sheet.now ≡ l.program.sheet.now)

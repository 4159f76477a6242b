-- `verify::verify_program`: what is left of the functions says what all of them say. Assumes nothing.
use mathlib.Core.Path.{◌≡◌}
use Rattle.definitions.specs.Verify.{verify_functions}
use Rattle.program_nodes.specs.Nodes.{functions_in, functions_of, ids_of_all}
use Rattle.verify.proofs.verify_program.Given as goal

abbrev pub invariant-loop-function : goal.invariant-loop-function
invariant-loop-function l = (l.function-iterator.program.sheet.now ≡ l.program.sheet.now) × (verify_functions (functions_in l.function-iterator) (ids_of_all l.program) ≡ verify_functions (functions_of l.program) (ids_of_all l.program))

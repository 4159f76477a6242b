-- The code's options and results in the words of the definitions. Assumes nothing: these are definitions.
use Rattle.std.specs.Prelude.{Option, None, Some, Result, Ok, Err}
use Rattle.std.proofs.Math.Option as maths
use Rattle.definitions.specs.Result as defs

abbrev pub option_of : {A B : Type 0} → (A → B) → Option A → maths.Option B
option_of f None = maths.none
option_of f (Some a) = maths.some (f a)

abbrev pub result_of : {E F A B : Type 0} → (E → F) → (A → B) → Result A E → defs.Result F B
result_of f g (Err e) = defs.err (f e)
result_of f g (Ok a) = defs.ok (g a)

-- a result that says no more than that nothing is wrong
abbrev pub done_of : {E F : Type 0} → (E → F) → Result (Unit {0}) E → defs.Result F defs.Done
done_of f r = result_of f (λ x. tt) r

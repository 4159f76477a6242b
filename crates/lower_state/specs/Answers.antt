-- The code's answers, with the state that they leave, in the words of the walk. Assumes nothing: these are definitions.
use Rattle.std.specs.Prelude.{◌≡◌, Result, OnErr}
use Rattle.definitions.specs.Lower.{Lowering}
use Rattle.ir.specs.Answers.{result_of}
use Rattle.lower_state.specs.Errors.{error_of}
use Rattle.lower_state.specs.declared.refusals.LoweringError.{LoweringError}

-- a state s, and what the code gave; a state alone
abbrev pub with_state : {S A B : Type 0} → (A → B) → S → Result A LoweringError → Lowering (S × B)
with_state f s r = result_of error_of (λ a. (s, f a)) r

abbrev pub done_after : {S : Type 0} → S → Result (Unit {0}) LoweringError → Lowering S
done_after s r = result_of error_of (λ u. s) r

-- a refusal leaves the state as it was
abbrev pub KeptIfErr : {S A : Type 0} → Result A LoweringError → (before after : S) → Type 0
KeptIfErr r before after = OnErr r (after ≡ before)

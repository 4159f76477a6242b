-- The code's answer as the definitions' answer: document 01's number and values for each case. Assumes nothing: these are definitions.
use Rattle.std.specs.Prelude.{[], ◌∷◌, Result}
use Rattle.definitions.specs.Answers as answers
use Rattle.ir.specs.Answers.{result_of}
use Rattle.verify_state.specs.Errors.{error_of}
use Rattle.verify.specs.declared.refusal.Refusal.{Refusal}
use Rattle.verify.specs.declared.refusal.Refusal.TheVariants.{TooLong, Malformed, Verify}

-- a refusal, and the answer to a sheet: document 01's number with its details
abbrev pub refusal_of : Refusal → answers.Refusal
refusal_of TooLong = answers.refusal 1 []
refusal_of (Malformed fault) = answers.refusal 40 (fault.0 ∷ [])
refusal_of (Verify e) = answers.verify_refusal (error_of e)

abbrev pub answer_of : Result (Unit {0}) Refusal → answers.Answer
answer_of r = result_of refusal_of (λ x. []) r

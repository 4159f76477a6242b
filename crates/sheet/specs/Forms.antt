-- The answers of the code, in the words of the definitions. Assumes nothing: these are definitions.
use Rattle.std.specs.Prelude.{Result, Ok, Err, [], ◌∷◌}
use Rattle.definitions.specs.Answers.{Refusal, refusal}
use Rattle.definitions.specs.Records.{Verdict, Good, Bad}
use Rattle.sheet.specs.declared.errors.Malformed.{Malformed}
use Rattle.sheet.specs.declared.errors.OverLimit.{OverLimit}
use Rattle.sheet.specs.declared.errors.ContractError.{ContractError}
use Rattle.sheet.specs.declared.errors.ContractError.TheVariants as error

unfoldable pub form_of : {A : Type 0} → Result A Malformed → Verdict
form_of (Ok x) = Good
form_of (Err fault) = Bad fault.0

unfoldable pub limits_of : Result (Unit {0}) OverLimit → Verdict
limits_of (Ok x) = Good
limits_of (Err fault) = Bad fault.0

abbrev pub refusal_of : ContractError → Refusal
refusal_of error.TooLong = refusal 1 []
refusal_of (error.Malformed fault) = refusal 3 (fault.0 ∷ [])
refusal_of (error.OverLimit fault) = refusal 4 (fault.0 ∷ [])

-- The code's errors in the words of the definitions. Assumes nothing: these are definitions.
use Rattle.definitions.specs.Answers.{Refusal}
use Rattle.analyze_walk.specs.Stops.{sema}
use Rattle.analyze_state.specs.declared.SemaError.{SemaError}
use Rattle.analyze_state.specs.declared.SemaError.TheVariants as error

-- the refusal of an error
abbrev pub error_of : SemaError → Refusal
error_of (error.AssignMismatch p) = sema p 1
error_of (error.UndefinedVariable p) = sema p 2
error_of (error.ReturnMismatch p) = sema p 3
error_of (error.UndefinedIdentifier p) = sema p 4
error_of (error.NoSuchField p) = sema p 5
error_of (error.FieldOfNonStruct p) = sema p 6
error_of (error.FieldMismatch p) = sema p 7
error_of (error.UnknownField p) = sema p 8
error_of (error.UndefinedStruct p) = sema p 9
error_of (error.ArgumentCount p) = sema p 10
error_of (error.ArgumentMismatch p) = sema p 11
error_of (error.UndefinedFunction p) = sema p 12
error_of (error.BinaryMismatch p) = sema p 13

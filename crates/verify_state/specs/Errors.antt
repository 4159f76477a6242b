-- The code's errors, and what a part of its check gives, in the words of the definitions. Assumes nothing: these are definitions.
use Rattle.std.specs.Prelude.{ℕ, Result}
use Rattle.definitions.specs.Result as defs
use Rattle.definitions.specs.Result.{err, ok, Done}
use Rattle.definitions.specs.Verify as rules
use Rattle.ir.specs.Types.{as_type}
use Rattle.ir.specs.Answers.{option_of, done_of}
use Rattle.verify_state.specs.declared.VerifyError.{VerifyError}
use Rattle.verify_state.specs.declared.VerifyError.TheVariants.{UndefinedValue, DuplicateValueDef, UndefinedBlock, MissingTerminator, ReturnTypeMismatch, BranchConditionNotBool, OperandTypeMismatch, UndefinedLocal, UndefinedFunction, ResultOnNone}

-- an error with its function's name
abbrev pub error_of : VerifyError → ℕ × rules.VerifyError
error_of (UndefinedValue f v) = (f.0, rules.VerifyError.UndefinedValue v.0)
error_of (DuplicateValueDef f v) = (f.0, rules.VerifyError.DuplicateValueDef v.0)
error_of (UndefinedBlock f b) = (f.0, rules.VerifyError.UndefinedBlock b.0)
error_of (MissingTerminator f b) = (f.0, rules.VerifyError.MissingTerminator b.0)
error_of (ReturnTypeMismatch f e g) = (f.0, rules.VerifyError.ReturnTypeMismatch (as_type e) (option_of as_type g))
error_of (BranchConditionNotBool f v t) = (f.0, rules.VerifyError.BranchConditionNotBool v.0 (as_type t))
error_of (OperandTypeMismatch f l r) = (f.0, rules.VerifyError.OperandTypeMismatch (as_type l) (as_type r))
error_of (UndefinedLocal f l) = (f.0, rules.VerifyError.UndefinedLocal l.0)
error_of (UndefinedFunction f g) = (f.0, rules.VerifyError.UndefinedFunction g.0)
error_of (ResultOnNone f k) = (f.0, rules.VerifyError.ResultOnNone k)

-- a part's answer: nothing, or an error with its function's name
abbrev pub Outcome : Type 0
Outcome = defs.Result (ℕ × rules.VerifyError) Done

abbrev pub checked_of : Result (Unit {0}) VerifyError → Outcome
checked_of r = done_of error_of r

-- a part of the check of the function f: its error has f's name, and what it gives is not looked at
abbrev pub in_function : {A : Type 0} → ℕ → rules.Checked A → Outcome
in_function f (err x) = err (f, x)
in_function f (ok a) = ok tt

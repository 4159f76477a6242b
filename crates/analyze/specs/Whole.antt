-- The answer of the body check in the words of the definitions, and what its parts promise. Assumes nothing: these are definitions.
use Rattle.std.specs.Prelude.{ℕ, ◌≡◌, List, [], Result}
use Rattle.definitions.specs.Answers as defs
use Rattle.definitions.specs.Answers.{Answer}
use Rattle.definitions.specs.Ast.{Contract}
use Rattle.definitions.specs.Result.{Done}
use Rattle.ir.specs.Answers.{result_of}
use Rattle.sheet.specs.Forms as sheet
use Rattle.analyze_walk.specs.Stops.{Checking, check_functions}
use Rattle.analyze_env.specs.Names.{Names}
use Rattle.analyze_state.specs.Errors.{error_of}
use Rattle.analyze_stmts.specs.Room.{RoomForAll}
use Rattle.analyze.specs.declared.Refusal.{Refusal}
use Rattle.analyze.specs.declared.Refusal.TheVariants as refusal

-- THE READING of the answer
abbrev pub refusal_of : Refusal → defs.Refusal
refusal_of (refusal.Contract e) = sheet.refusal_of e
refusal_of (refusal.Sema e) = error_of e

abbrev pub answer_of : Result (Unit {0}) Refusal → Answer
answer_of r = result_of refusal_of (λ x. []) r

-- the bodies of all functions
abbrev pub check_bodies : Contract → Checking Done
check_bodies K = check_functions K K.functions

-- no name is known, and there is room for all of a sheet
abbrev pub Empty : List ℕ → Names → Type 0
Empty s env = (env.names ≡ []) × RoomForAll s env

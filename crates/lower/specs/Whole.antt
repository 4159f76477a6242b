-- The parts of lowering that lead from the walk of each function to the answer. Untrusted, but for `answer_of` and `refusal_of`, which give
-- document 01's number and values for each answer.
use Rattle.std.specs.Prelude.{ℕ, ◌≤◌, ◌≡◌, ◌&&◌, List, [], ◌++◌, leb, length, take}
use Rattle.std.specs.Prelude as code
use Rattle.definitions.specs.Fields.{bytes}
use Rattle.definitions.specs.Result.{Result, err, ok, ◌>>=◌, ◌>>◌, map_err, check}
use Rattle.definitions.specs.Ast.{Function, Contract}
use Rattle.definitions.specs.Ir.{IrFunction}
use Rattle.definitions.specs.Lower.{lower_function, lower_functions, lower_contract}
use Rattle.definitions.specs.Records.{tnil, write_tree, write_trees, trees_of}
use Rattle.definitions.specs.ProgramSheet.{ir_function_tree, write_program}
use Rattle.definitions.specs.Answers as answers
use Rattle.definitions.specs.Answers.{Refusal, refusal, lower_refusal, length_of}
use Rattle.ir.specs.Answers.{result_of}
use Rattle.sheet.specs.Forms as forms
use Rattle.lower_state.specs.Errors.{error_of}
use Rattle.lower_state.specs.declared.refusals.LoweringError.{LoweringError}
use Rattle.lower_layout.specs.Laid.{Laid}
use Rattle.lower.specs.declared.refusal.Refusal as lowering
use Rattle.lower.specs.declared.refusal.Refusal.TheVariants as refused

-- FUNCTIONS: x is laid down at `to`, if all before it fitted
abbrev pub LaidFrom : (x before : List ℕ) → code.Option ℕ → (after : List ℕ) → code.Option ℕ → Type 0
LaidFrom x before (code.Some to) after r = Laid x before to after r
LaidFrom x before code.None after r = (length after ≡ length before) × (r ≡ code.None)

-- the function f with id i
abbrev pub FunctionPlaced : Contract → ℕ → Function → (before : List ℕ) (to : code.Option ℕ) (after : List ℕ) → code.Result (code.Option ℕ) LoweringError → Type 0
FunctionPlaced K i f before to after (code.Ok r) = (g : IrFunction) × ((lower_function K i f ≡ ok g) × LaidFrom (write_tree (ir_function_tree g)) before to after r)
FunctionPlaced K i f before to after (code.Err e) = (lower_function K i f ≡ err (error_of e)) × (length after ≡ length before)

abbrev pub FunctionsPlaced : Contract → (before after : List ℕ) → code.Result (code.Option ℕ) LoweringError → Type 0
FunctionsPlaced K before after (code.Ok r) = (gs : List IrFunction) × ((lower_functions K 0 K.functions ≡ ok gs) × Laid (write_trees (trees_of ir_function_tree gs tnil)) before 6 after r)
FunctionsPlaced K before after (code.Err e) = (lower_functions K 0 K.functions ≡ err (error_of e)) × (length after ≡ length before)

-- the program's head
abbrev pub program_head : ℕ → List ℕ
program_head n = bytes 4 n ++ bytes 2 50

-- ANSWERS: document 01's number and values for each
abbrev pub refusal_of : lowering.Refusal → Refusal
refusal_of (refused.Contract e) = forms.refusal_of e
refusal_of (refused.Lowering e) = lower_refusal (error_of e)
refusal_of refused.NoRoom = refusal 31 []

abbrev pub answer_of : code.Result ℕ lowering.Refusal → Result Refusal ℕ
answer_of r = result_of refusal_of (λ n. n) r

-- the bytes of a program, if they have room
abbrev pub program_answer : List ℕ → (room : ℕ) → answers.Answer
program_answer b room = do
  check (leb (length b) 32768 && leb (length b) room) (refusal 31 [])
  ok b

-- what `lower_sheet` does after its checks
unfoldable pub lower_rest : Contract → (room : ℕ) → answers.Answer
lower_rest K room = do
  p ← map_err lower_refusal (lower_contract K)
  program_answer (write_program p) room

-- an output that begins with what is written
abbrev pub StartsWith : answers.Answer → List ℕ → Type 0
StartsWith (ok b) out = (length b ≤ length out) × (take (length b) out ≡ b)
StartsWith (err r) out = Unit {0}

-- an answer, and an output of n bytes that begins with what is written
pub record AnsweredWith (a : answers.Answer) (n : ℕ) (out : List ℕ) (r : code.Result ℕ lowering.Refusal) : Type 0 where
  pub is : answer_of r ≡ length_of a
  pub same_length : length out ≡ n
  pub holds : StartsWith a out

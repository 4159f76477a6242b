-- What makes demand 3 mean something: runs that end, a program whose run lacks, and what small contracts come to.
-- `proofs/Meaning.antt` shows that the rows hold. Assumes nothing: these are definitions.
use Rattle.std.specs.Prelude.{ℕ, zero, suc, ◌≡◌, List, [], ◌∷◌}
use Rattle.std.proofs.Math.Option.{none}
use Rattle.definitions.specs.All.{All}
use Rattle.definitions.specs.Result.{Result, err, ok}
use Rattle.definitions.specs.Ir.{IrFunction}
use Rattle.definitions.specs.Run.{then_way, else_way, Pick, State, at, ended, lacks, run}
use Rattle.definitions.specs.ProgramSheet.{read_program}
use Rattle.definitions.specs.Answers.{Refusal, refusal, Answer, lower_sheet, verify_sheet}
use Rattle.definitions.specs.Rows.{SheetRow, P1, P3, P7, P12, Holds}
use Rattle.definitions.specs.Readings.{Reading, lowers, Answered}
use Rattle.definitions.specs.RunRows.{StateRow, StepsRow, Reaches, StepsTo}
use Rattle.definitions.specs.ReadsRows.{Equal}

-- where the run of a program's first function stands after the picks, with no parameter
pub data Stands : Type 0 where
  going_on has_ended has_lacked no_function : Stands

abbrev stands_in : State → Stands
stands_in (at place) = going_on
stands_in ended = has_ended
stands_in lacks = has_lacked

abbrev run_first : List IrFunction → List Pick → Stands
run_first [] picks = no_function
run_first (f ∷ fs) picks = stands_in (run f [] picks)

-- A PROGRAM SHEET: the verifier's answer, and where its run stands
pub record Ran : Type 0 where
  pub verified : Answer
  pub stands : Stands

abbrev pub ran_on : List ℕ → List Pick → Ran
ran_on b picks = record { verified = verify_sheet b; stands = run_first (read_program b).functions picks }

-- a CONTRACT SHEET: lowering's refusal, or that of its program
abbrev pub comes_to : Answer → List Pick → Result Refusal Ran
comes_to (err r) picks = err r
comes_to (ok b) picks = ok (ran_on b picks)

-- one word and one way, n times over
abbrev pub times : ℕ → Pick → List Pick
times zero p = []
times (suc n) p = p ∷ times n p

pub record RunRow : Type 0 where
  pub sheet : List ℕ
  pub picks : List Pick
  pub result : Result Refusal Ran

abbrev ends_verified : Result Refusal Ran
ends_verified = ok (record { verified = ok []; stands = has_ended })

-- P3 is accepted, and its run meets the Return and ends
abbrev returns : RunRow
returns = record { sheet = P3.sheet; picks = times 2 (7, then_way); result = ends_verified }

-- P1 has no function
abbrev empty_program : RunRow
empty_program = record { sheet = P1.sheet; picks = times 2 (7, then_way); result = ok (record { verified = ok []; stands = no_function }) }

-- one pick less: the run is still going on
abbrev goes_on : RunRow
goes_on = record { sheet = P3.sheet; picks = times 1 (7, then_way); result = ok (record { verified = ok []; stands = going_on }) }

-- P7 and P12: the loop's test is false
abbrev leaves_while : RunRow
leaves_while = record { sheet = P7.sheet; picks = times 6 (0, else_way); result = ends_verified }

abbrev leaves_loop : RunRow
leaves_loop = record { sheet = P12.sheet; picks = times 10 (0, else_way); result = ends_verified }

-- let a = 1; a = 2
abbrev assigns : RunRow
assigns = record {
  sheet =
      0x42 ∷ 0x00 ∷ 0x00 ∷ 0x00 ∷ 0x01 ∷ 0x00 ∷ 0x0A ∷ 0x00 ∷  -- contract
      0x3A ∷ 0x00 ∷ 0x00 ∷ 0x00 ∷ 0x04 ∷ 0x00 ∷ 0x0B ∷ 0x00 ∷ 0xFF ∷ 0xFF ∷ 0x00 ∷ 0x00 ∷ 0x00 ∷ 0x00 ∷  -- function
      0x16 ∷ 0x00 ∷ 0x00 ∷ 0x00 ∷ 0x0A ∷ 0x00 ∷ 0x16 ∷ 0x00 ∷  -- Let
      0x0E ∷ 0x00 ∷ 0x00 ∷ 0x00 ∷ 0x1E ∷ 0x00 ∷ 0x01 ∷ 0x00 ∷ 0x00 ∷ 0x00 ∷ 0x00 ∷ 0x00 ∷ 0x00 ∷ 0x00 ∷  -- Int
      0x16 ∷ 0x00 ∷ 0x00 ∷ 0x00 ∷ 0x0C ∷ 0x00 ∷ 0x16 ∷ 0x00 ∷  -- Assign
      0x0E ∷ 0x00 ∷ 0x00 ∷ 0x00 ∷ 0x1E ∷ 0x00 ∷ 0x02 ∷ 0x00 ∷ 0x00 ∷ 0x00 ∷ 0x00 ∷ 0x00 ∷ 0x00 ∷ 0x00 ∷ [];  -- Int
  picks = times 5 (0, then_way);
  result = ends_verified;
}

-- let a = a
abbrev let_itself : RunRow
let_itself = record {
  sheet =
      0x26 ∷ 0x00 ∷ 0x00 ∷ 0x00 ∷ 0x01 ∷ 0x00 ∷ 0x0A ∷ 0x00 ∷  -- contract
      0x1E ∷ 0x00 ∷ 0x00 ∷ 0x00 ∷ 0x04 ∷ 0x00 ∷ 0x0B ∷ 0x00 ∷ 0xFF ∷ 0xFF ∷ 0x00 ∷ 0x00 ∷ 0x00 ∷ 0x00 ∷  -- function
      0x10 ∷ 0x00 ∷ 0x00 ∷ 0x00 ∷ 0x0A ∷ 0x00 ∷ 0x16 ∷ 0x00 ∷  -- Let
      0x08 ∷ 0x00 ∷ 0x00 ∷ 0x00 ∷ 0x1F ∷ 0x00 ∷ 0x16 ∷ 0x00 ∷ [];  -- Ident
  picks = times 3 (0, then_way);
  result = err (refusal 10 (22 ∷ []));
}

-- if 1 == 1 { let a = 1 }; return a
abbrev closed_scope : RunRow
closed_scope = record {
  sheet =
      0x6A ∷ 0x00 ∷ 0x00 ∷ 0x00 ∷ 0x01 ∷ 0x00 ∷ 0x0A ∷ 0x00 ∷  -- contract
      0x62 ∷ 0x00 ∷ 0x00 ∷ 0x00 ∷ 0x04 ∷ 0x00 ∷ 0x0B ∷ 0x00 ∷ 0x01 ∷ 0x00 ∷ 0x00 ∷ 0x00 ∷ 0x00 ∷ 0x00 ∷  -- function
      0x46 ∷ 0x00 ∷ 0x00 ∷ 0x00 ∷ 0x0F ∷ 0x00 ∷  -- If
      0x24 ∷ 0x00 ∷ 0x00 ∷ 0x00 ∷ 0x24 ∷ 0x00 ∷ 0x04 ∷ 0x00 ∷  -- Binary
      0x0E ∷ 0x00 ∷ 0x00 ∷ 0x00 ∷ 0x1E ∷ 0x00 ∷ 0x01 ∷ 0x00 ∷ 0x00 ∷ 0x00 ∷ 0x00 ∷ 0x00 ∷ 0x00 ∷ 0x00 ∷  -- Int
      0x0E ∷ 0x00 ∷ 0x00 ∷ 0x00 ∷ 0x1E ∷ 0x00 ∷ 0x01 ∷ 0x00 ∷ 0x00 ∷ 0x00 ∷ 0x00 ∷ 0x00 ∷ 0x00 ∷ 0x00 ∷  -- Int
      0x1C ∷ 0x00 ∷ 0x00 ∷ 0x00 ∷ 0x05 ∷ 0x00 ∷  -- block
      0x16 ∷ 0x00 ∷ 0x00 ∷ 0x00 ∷ 0x0A ∷ 0x00 ∷ 0x16 ∷ 0x00 ∷  -- Let
      0x0E ∷ 0x00 ∷ 0x00 ∷ 0x00 ∷ 0x1E ∷ 0x00 ∷ 0x01 ∷ 0x00 ∷ 0x00 ∷ 0x00 ∷ 0x00 ∷ 0x00 ∷ 0x00 ∷ 0x00 ∷  -- Int
      0x0E ∷ 0x00 ∷ 0x00 ∷ 0x00 ∷ 0x12 ∷ 0x00 ∷  -- Return
      0x08 ∷ 0x00 ∷ 0x00 ∷ 0x00 ∷ 0x1F ∷ 0x00 ∷ 0x16 ∷ 0x00 ∷ [];  -- Ident
  picks = times 6 (0, else_way);
  result = err (refusal 10 (22 ∷ []));
}

abbrev pub run_rows : List RunRow
run_rows = returns ∷ empty_program ∷ goes_on ∷ leaves_while ∷ leaves_loop ∷ assigns ∷ let_itself ∷ closed_scope ∷ []

abbrev pub Runs : RunRow → Type 0
Runs r = comes_to (lower_sheet r.sheet 32768) r.picks ≡ r.result

abbrev pub RunRowsHold : Type 0
RunRowsHold = All Runs run_rows

-- A PROGRAM THAT LACKS, which no lowering wrote: block 1 returns the value that only block 2 makes. The verifier accepts it, since a
-- value that is defined anywhere in the function counts; the run lacks.
abbrev pub lacking_program : List ℕ
lacking_program =
    0x66 ∷ 0x00 ∷ 0x00 ∷ 0x00 ∷ 0x32 ∷ 0x00 ∷  -- program
    0x56 ∷ 0x00 ∷ 0x00 ∷ 0x00 ∷ 0x33 ∷ 0x00 ∷ 0x00 ∷ 0x00 ∷ 0x0B ∷ 0x00 ∷ 0x00 ∷ 0x00 ∷ 0x00 ∷ 0x00 ∷ 0x00 ∷ 0x00 ∷ 0x00 ∷ 0x00 ∷  -- function
    0x10 ∷ 0x00 ∷ 0x00 ∷ 0x00 ∷ 0x35 ∷ 0x00 ∷ 0x00 ∷ 0x00 ∷  -- block
    0x08 ∷ 0x00 ∷ 0x00 ∷ 0x00 ∷ 0x5A ∷ 0x00 ∷ 0x01 ∷ 0x00 ∷  -- Jump
    0x10 ∷ 0x00 ∷ 0x00 ∷ 0x00 ∷ 0x35 ∷ 0x00 ∷ 0x01 ∷ 0x00 ∷  -- block
    0x08 ∷ 0x00 ∷ 0x00 ∷ 0x00 ∷ 0x5C ∷ 0x00 ∷ 0x00 ∷ 0x00 ∷  -- Return
    0x24 ∷ 0x00 ∷ 0x00 ∷ 0x00 ∷ 0x35 ∷ 0x00 ∷ 0x02 ∷ 0x00 ∷  -- block
    0x14 ∷ 0x00 ∷ 0x00 ∷ 0x00 ∷ 0x3C ∷ 0x00 ∷ 0x00 ∷ 0x00 ∷ 0x00 ∷ 0x00 ∷ 0x00 ∷ 0x00 ∷ 0x07 ∷ 0x00 ∷ 0x00 ∷ 0x00 ∷ 0x00 ∷ 0x00 ∷ 0x00 ∷ 0x00 ∷  -- Const
    0x08 ∷ 0x00 ∷ 0x00 ∷ 0x00 ∷ 0x5C ∷ 0x00 ∷ 0x00 ∷ 0x00 ∷  -- Return
    0x0A ∷ 0x00 ∷ 0x00 ∷ 0x00 ∷ 0x34 ∷ 0x00 ∷ 0x0B ∷ 0x00 ∷ 0x00 ∷ 0x00 ∷ []  -- function name

abbrev lacking_picks : List Pick
lacking_picks = times 2 (0, then_way)

abbrev pub LackingProgramLacks : Type 0
LackingProgramLacks = ran_on lacking_program lacking_picks ≡ record { verified = ok []; stands = has_lacked }

-- THE ROWS SAY SOMETHING: each of their laws is false of a row with a wrong answer
abbrev pub wrong_sheet : SheetRow
wrong_sheet = record { sheet = P1.sheet; lowered = err (refusal 3 []); verified = P1.verified }

abbrev pub wrong_verified : SheetRow
wrong_verified = record { sheet = P1.sheet; lowered = P1.lowered; verified = none }

abbrev pub wrong_reading : Reading
wrong_reading = record { asks = lowers 32768; sheet = []; answer = ok [] }

abbrev pub wrong_run : RunRow
wrong_run = record { sheet = P3.sheet; picks = times 2 (7, then_way); result = ok (record { verified = ok []; stands = has_lacked }) }

abbrev pub wrong_state : StateRow
wrong_state = record { blocks = []; params = []; words = []; picks = []; state = ended }

abbrev pub wrong_steps : StepsRow
wrong_steps = record { blocks = []; params = []; words = []; from = lacks; picks = []; state = ended }

abbrev pub wrong_pair : ℕ × ℕ
wrong_pair = (0, 1)

abbrev right_pair : ℕ × ℕ
right_pair = (1, 1)

pub record WrongRowsRefused : Type 0 where
  pub sheet : Holds wrong_sheet → ⊥
  pub verified : Holds wrong_verified → ⊥
  pub reading : Answered wrong_reading → ⊥
  pub run : Runs wrong_run → ⊥
  pub state : Reaches wrong_state → ⊥
  pub steps : StepsTo wrong_steps → ⊥
  pub pair : Equal wrong_pair → ⊥
  pub first : All Equal (wrong_pair ∷ right_pair ∷ []) → ⊥
  pub second : All Equal (right_pair ∷ wrong_pair ∷ []) → ⊥

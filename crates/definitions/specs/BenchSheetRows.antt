-- The bench on whole sheets (document 02, order 2), with the numbers that are handed out; whole states of its machine; outcomes as numbers.
-- `proofs/BenchSheetRows.antt` shows that the rows hold. Assumes nothing: these are definitions.
use Rattle.std.specs.Prelude.{ℕ, ◌≡◌, List, [], ◌∷◌, ◌++◌}
use Rattle.std.proofs.Math.Option.{Option, none, some}
use Rattle.std.proofs.Math.ListN.{get_elem?}
use Rattle.definitions.specs.All.{All}
use Rattle.definitions.specs.Result.{err, ok, ok_or_else}
use Rattle.definitions.specs.Ast.{BinOp}
use Rattle.definitions.specs.Ir.{IrType, Instruction, Terminator, InstrNode, IrFunction}
use Rattle.definitions.specs.Answers.{refusal, padded, Answer, lower_sheet}
use Rattle.definitions.specs.Bench.{Words, BenchOutcome, Stop, Notes, Open, Waiting, Machine, Lent, state_word, BenchState, bench_run, bench_start, Tried, lent_with, bench_sheet, memory_after, bench_numbers}
use Rattle.definitions.specs.Rows.{P11}
use Rattle.definitions.specs.RunRows.{block, gives, does, five, six}
use Rattle.definitions.specs.ReadsRows.{Equal}
use Rattle.definitions.specs.BenchRows.{Loan, lending, bench_function}

-- ---- PROGRAM SHEETS: a sheet, the position, what is lent, what it comes to, and its numbers
pub record BenchSheetRow : Type 0 where
  pub sheet : List ℕ
  pub position : ℕ
  pub loan : Loan
  pub tried : Tried
  pub numbers : List ℕ

-- the context words are 101, 102 and 103
abbrev pub sheet_tried : List ℕ → ℕ → Loan → Tried
sheet_tried s position l = bench_sheet s position l.args l.state 101 102 103 l.outside l.memory l.limit

abbrev pub sheet_row_tried : List ℕ → ℕ → Loan → BenchSheetRow
sheet_row_tried s position l = record { sheet = s; position = position; loan = l; tried = sheet_tried s position l; numbers = bench_numbers (sheet_tried s position l) }

abbrev pub SheetTries : BenchSheetRow → Type 0
SheetTries r = sheet_row_tried r.sheet r.position r.loan ≡ r

-- a function named 11 with two parameters, which writes the first to slot 0: up to the id that it returns, and from behind it
abbrev up_to_id : List ℕ
up_to_id =
    0x4C ∷ 0x00 ∷ 0x00 ∷ 0x00 ∷ 0x32 ∷ 0x00 ∷  -- program
    0x3C ∷ 0x00 ∷ 0x00 ∷ 0x00 ∷ 0x33 ∷ 0x00 ∷ 0x00 ∷ 0x00 ∷ 0x0B ∷ 0x00 ∷ 0x00 ∷ 0x00 ∷ 0x00 ∷ 0x00 ∷ 0x02 ∷ 0x00 ∷  -- function
    0x00 ∷ 0x00 ∷ 0x00 ∷ 0x00 ∷ 0x00 ∷ 0x00 ∷ 0x01 ∷ 0x00 ∷ 0x00 ∷ 0x00 ∷ 0x00 ∷ 0x00 ∷ 0x00 ∷ 0x00 ∷  -- its parameters, and no local
    0x1E ∷ 0x00 ∷ 0x00 ∷ 0x00 ∷ 0x35 ∷ 0x00 ∷ 0x00 ∷ 0x00 ∷  -- block
    0x0E ∷ 0x00 ∷ 0x00 ∷ 0x00 ∷ 0x4A ∷ 0x00 ∷ 0xFF ∷ 0xFF ∷ 0x00 ∷ 0x00 ∷ 0x00 ∷ 0x00 ∷ 0x00 ∷ 0x00 ∷  -- StateWrite
    0x08 ∷ 0x00 ∷ 0x00 ∷ 0x00 ∷ 0x5C ∷ 0x00 ∷ []  -- Return

abbrev behind_id : List ℕ
behind_id = 0x0A ∷ 0x00 ∷ 0x00 ∷ 0x00 ∷ 0x34 ∷ 0x00 ∷ 0x0B ∷ 0x00 ∷ 0x00 ∷ 0x00 ∷ []  -- name

-- its second parameter is returned; a value that it has not; none
abbrev returns_second : List ℕ
returns_second = up_to_id ++ (0x01 ∷ 0x00 ∷ behind_id)

abbrev returns_nine : List ℕ
returns_nine = up_to_id ++ (0x09 ∷ 0x00 ∷ behind_id)

abbrev returns_none : List ℕ
returns_none = up_to_id ++ (0xFF ∷ 0xFF ∷ behind_id)

-- a function named 11 without parameters, which writes the three context words to slots 0, 1 and 2 and returns an outside result
abbrev contextual : List ℕ
contextual =
    0x7C ∷ 0x00 ∷ 0x00 ∷ 0x00 ∷ 0x32 ∷ 0x00 ∷  -- program
    0x76 ∷ 0x00 ∷ 0x00 ∷ 0x00 ∷ 0x33 ∷ 0x00 ∷ 0x00 ∷ 0x00 ∷ 0x0B ∷ 0x00 ∷ 0x00 ∷ 0x00 ∷ 0x00 ∷ 0x00 ∷ 0x00 ∷ 0x00 ∷ 0x00 ∷ 0x00 ∷  -- function
    0x64 ∷ 0x00 ∷ 0x00 ∷ 0x00 ∷ 0x35 ∷ 0x00 ∷ 0x00 ∷ 0x00 ∷  -- block
    0x0A ∷ 0x00 ∷ 0x00 ∷ 0x00 ∷ 0x51 ∷ 0x00 ∷ 0x00 ∷ 0x00 ∷ 0x00 ∷ 0x00 ∷  -- ContextRead
    0x0A ∷ 0x00 ∷ 0x00 ∷ 0x00 ∷ 0x51 ∷ 0x00 ∷ 0x01 ∷ 0x00 ∷ 0x01 ∷ 0x00 ∷  -- ContextRead
    0x0A ∷ 0x00 ∷ 0x00 ∷ 0x00 ∷ 0x51 ∷ 0x00 ∷ 0x02 ∷ 0x00 ∷ 0x02 ∷ 0x00 ∷  -- ContextRead
    0x0C ∷ 0x00 ∷ 0x00 ∷ 0x00 ∷ 0x4F ∷ 0x00 ∷ 0x03 ∷ 0x00 ∷ 0x00 ∷ 0x00 ∷ 0x01 ∷ 0x00 ∷  -- Poseidon
    0x0E ∷ 0x00 ∷ 0x00 ∷ 0x00 ∷ 0x4A ∷ 0x00 ∷ 0xFF ∷ 0xFF ∷ 0x00 ∷ 0x00 ∷ 0x00 ∷ 0x00 ∷ 0x00 ∷ 0x00 ∷  -- StateWrite
    0x0E ∷ 0x00 ∷ 0x00 ∷ 0x00 ∷ 0x4A ∷ 0x00 ∷ 0xFF ∷ 0xFF ∷ 0x01 ∷ 0x00 ∷ 0x00 ∷ 0x00 ∷ 0x01 ∷ 0x00 ∷  -- StateWrite
    0x0E ∷ 0x00 ∷ 0x00 ∷ 0x00 ∷ 0x4A ∷ 0x00 ∷ 0xFF ∷ 0xFF ∷ 0x02 ∷ 0x00 ∷ 0x00 ∷ 0x00 ∷ 0x02 ∷ 0x00 ∷  -- StateWrite
    0x08 ∷ 0x00 ∷ 0x00 ∷ 0x00 ∷ 0x5C ∷ 0x00 ∷ 0x03 ∷ 0x00 ∷ []  -- Return

abbrev lent : List ℕ → (memory limit : ℕ) → Loan
lent args memory limit = record { args = args; state = 5 ∷ 6 ∷ []; outside = []; memory = memory; limit = limit }

abbrev comes : List ℕ → ℕ → Loan → BenchOutcome ℕ → List ℕ → List ℕ → BenchSheetRow
comes s position l o state ns = record { sheet = s; position = position; loan = l; tried = record { answer = ok o; state = state }; numbers = ns }

abbrev stays : List ℕ → ℕ → Loan → ℕ → List ℕ → BenchSheetRow
stays s position l k ds = record { sheet = s; position = position; loan = l; tried = record { answer = err (refusal k ds); state = 5 ∷ 6 ∷ [] }; numbers = k ∷ ds }

abbrev pub bench_sheet_rows : List BenchSheetRow
bench_sheet_rows =
    comes returns_second 0 (lent (7 ∷ 8 ∷ []) 18 2) (BenchOutcome.returned (some 8)) (7 ∷ 6 ∷ []) (0 ∷ 1 ∷ 8 ∷ []) ∷  -- returned
    comes returns_second 0 (lent (7 ∷ 8 ∷ []) 18 1) BenchOutcome.limit_reached (7 ∷ 6 ∷ []) (0 ∷ 11 ∷ 0 ∷ []) ∷  -- limit_reached
    comes contextual 0 (lending [] (5 ∷ 6 ∷ 7 ∷ []) (40 ∷ [])) (BenchOutcome.returned (some 40)) (101 ∷ 102 ∷ 103 ∷ []) (0 ∷ 1 ∷ 40 ∷ []) ∷  -- context_words
    stays returns_second 0 (lent (7 ∷ 8 ∷ []) 17 2) 53 [] ∷  -- short
    stays returns_second 0 (lent (7 ∷ []) 17 0) 52 [] ∷  -- argument_missing
    stays returns_second 1 (lent (7 ∷ 8 ∷ []) 17 0) 52 [] ∷  -- position_absent
    stays returns_nine 1 (lent [] 0 0) 41 (11 ∷ 9 ∷ []) ∷  -- verifier_before_bench
    stays returns_none 1 (lent [] 0 0) 45 (11 ∷ 0 ∷ 0 ∷ 65535 ∷ 0 ∷ []) ∷  -- five_details
    stays [] 1 (lent [] 0 0) 40 (0 ∷ []) ∷ []  -- no_bytes

abbrev pub BenchSheetRowsHold : Type 0
BenchSheetRowsHold = All SheetTries bench_sheet_rows

-- "The verifier's own refusals come before the bench's": a sheet of over 32,768 bytes
abbrev pub overlong : BenchSheetRow
overlong = stays (padded 32769 []) 1 (lent [] 0 0) 1 []

abbrev pub OverlongSheet : Type 0
OverlongSheet = SheetTries overlong

-- ---- CONTRACT SHEETS, lowered and then run without arguments
pub record LoweredRow : Type 0 where
  pub sheet : List ℕ
  pub position : ℕ
  pub tried : Option Tried

-- f(i) returns i + 1, and g returns f(41)
abbrev calls_across : LoweredRow
calls_across = record {
  sheet =
      0x68 ∷ 0x00 ∷ 0x00 ∷ 0x00 ∷ 0x01 ∷ 0x00 ∷ 0x0A ∷ 0x00 ∷  -- contract
      0x36 ∷ 0x00 ∷ 0x00 ∷ 0x00 ∷ 0x04 ∷ 0x00 ∷ 0x0B ∷ 0x00 ∷ 0x01 ∷ 0x00 ∷ 0x00 ∷ 0x00 ∷ 0x01 ∷ 0x00 ∷ 0x14 ∷ 0x00 ∷ 0x01 ∷ 0x00 ∷  -- function
      0x24 ∷ 0x00 ∷ 0x00 ∷ 0x00 ∷ 0x12 ∷ 0x00 ∷  -- Return
      0x1E ∷ 0x00 ∷ 0x00 ∷ 0x00 ∷ 0x24 ∷ 0x00 ∷ 0x00 ∷ 0x00 ∷  -- Binary
      0x08 ∷ 0x00 ∷ 0x00 ∷ 0x00 ∷ 0x1F ∷ 0x00 ∷ 0x14 ∷ 0x00 ∷  -- Ident
      0x0E ∷ 0x00 ∷ 0x00 ∷ 0x00 ∷ 0x1E ∷ 0x00 ∷ 0x01 ∷ 0x00 ∷ 0x00 ∷ 0x00 ∷ 0x00 ∷ 0x00 ∷ 0x00 ∷ 0x00 ∷  -- Int
      0x2A ∷ 0x00 ∷ 0x00 ∷ 0x00 ∷ 0x04 ∷ 0x00 ∷ 0x0C ∷ 0x00 ∷ 0x01 ∷ 0x00 ∷ 0x00 ∷ 0x00 ∷ 0x00 ∷ 0x00 ∷  -- function
      0x1C ∷ 0x00 ∷ 0x00 ∷ 0x00 ∷ 0x12 ∷ 0x00 ∷  -- Return
      0x16 ∷ 0x00 ∷ 0x00 ∷ 0x00 ∷ 0x25 ∷ 0x00 ∷ 0x0B ∷ 0x00 ∷  -- Call
      0x0E ∷ 0x00 ∷ 0x00 ∷ 0x00 ∷ 0x1E ∷ 0x00 ∷ 0x29 ∷ 0x00 ∷ 0x00 ∷ 0x00 ∷ 0x00 ∷ 0x00 ∷ 0x00 ∷ 0x00 ∷ [];  -- Int
  position = 1;
  tried = some (record { answer = ok (BenchOutcome.returned (some 42)); state = 5 ∷ [] });
}

-- P11 is lowered and verified; `f()` gives no word, and the WriteLocal behind it finds its value unset
abbrev P11-unset : LoweredRow
P11-unset = record { sheet = P11.sheet; position = 0; tried = some (record { answer = ok BenchOutcome.unset; state = 5 ∷ [] }) }

abbrev pub lowered_rows : List LoweredRow
lowered_rows = calls_across ∷ P11-unset ∷ []

abbrev pub lowered_tried : Answer → ℕ → Option Tried
lowered_tried (err r) position = none
lowered_tried (ok b) position = some (sheet_tried b position (lending [] (5 ∷ []) []))

abbrev pub LoweredTries : LoweredRow → Type 0
LoweredTries r = lowered_tried (lower_sheet r.sheet 32768) r.position ≡ r.tried

abbrev pub LoweredRowsHold : Type 0
LoweredRowsHold = All LoweredTries lowered_rows

-- ---- WHOLE STATES, of the machine on words that keep the type that `make` gave them
abbrev pub TypeKept : Type 0
TypeKept = ℕ × IrType

abbrev pub keeps_type : Words TypeKept
keeps_type = record { number = λ w. w.0; make = λ t n. (n, t) }

-- what makes or fetches a word gives it its own type, Bool or U64 (document 01's rows), an argument has its parameter's, and any other word keeps its type
abbrev behind_call : List InstrNode
behind_call = does (Instruction.StateWrite 1 18) ∷ []

abbrev before : List InstrNode → List InstrNode
before more =
    gives 10 (Instruction.Const IrType.FieldT 7) ∷
    gives 11 (Instruction.Binary BinOp.Add IrType.FieldT 10 10) ∷
    gives 12 (Instruction.Binary BinOp.Lt IrType.U64 5 6) ∷
    gives 13 (Instruction.Load (IrType.Struct 30) 10 0) ∷
    gives 14 (Instruction.StateRead IrType.BoolT 1) ∷
    gives 15 (Instruction.Poseidon 5 6) ∷
    gives 16 (Instruction.ContextRead 1) ∷
    does (Instruction.WriteLocal 0 6) ∷
    gives 17 (Instruction.ReadLocal 0 IrType.U64) ∷
    gives 18 (Instruction.Call 1 (6 ∷ 10 ∷ []) (IrType.Struct 31)) ∷
    more

abbrev makes : IrFunction
makes =
    bench_function 0 (five ∷ six ∷ []) (IrType.BoolT ∷ [])
    (block 4 (before behind_call) (Terminator.Jump 5) ∷ block 5 [] (Terminator.Return (some 18)) ∷ [])

abbrev second : IrFunction
second = bench_function 1 (five ∷ six ∷ []) [] (block 0 [] (Terminator.Return (some 6)) ∷ [])

abbrev made : Notes TypeKept
made =
    (17, some (60, IrType.BoolT)) ∷
    (16, some (102, IrType.U64)) ∷
    (15, some (45, IrType.U64)) ∷
    (14, some (6, IrType.BoolT)) ∷
    (13, some (40, IrType.Struct 30)) ∷
    (12, some (1, IrType.BoolT)) ∷
    (11, some (14, IrType.FieldT)) ∷
    (10, some (7, IrType.FieldT)) ∷
    (5, some (50, IrType.U64)) ∷
    (6, some (60, IrType.BoolT)) ∷ []

abbrev made_open : (block : ℕ) → List InstrNode → Terminator → Notes TypeKept → Open TypeKept
made_open k rest t values = record { function = makes; block = some (block k rest t); values = values; locals = (0, some (60, IrType.BoolT)) ∷ [] }

abbrev goes_on : Open TypeKept → List (Waiting TypeKept) → List ℕ → BenchState TypeKept
goes_on top callers state = BenchState.running (record { top = top; callers = callers; state = state; outside = 46 ∷ [] })

-- so many steps, and the state that is reached
pub record ReachedRow : Type 0 where
  pub count : ℕ
  pub reached : BenchState TypeKept

abbrev after : ℕ → BenchState TypeKept → ReachedRow
after n s = record { count = n; reached = s }

abbrev pub lent_to_makes : Lent
lent_to_makes = lent_with (record { functions = makes ∷ second ∷ []; function_names = [] }) 101 102 103 999

abbrev pub Reached : ReachedRow → Type 0
Reached r = bench_run keeps_type lent_to_makes r.count (bench_start keeps_type lent_to_makes makes (50 ∷ 60 ∷ []) (5 ∷ 6 ∷ []) (40 ∷ 45 ∷ 46 ∷ [])) ≡ r.reached

abbrev in_call : BenchState TypeKept
in_call =
    goes_on (record { function = second; block = some (block 0 [] (Terminator.Return (some 6))); values = (5, some (60, IrType.BoolT)) ∷ (6, some (7, IrType.FieldT)) ∷ []; locals = [] })
    (record { result = some 18; caller = made_open 4 behind_call (Terminator.Jump 5) made } ∷ []) (5 ∷ 6 ∷ [])

abbrev with_result : Notes TypeKept
with_result = (18, some (7, IrType.FieldT)) ∷ made

abbrev stops : BenchState TypeKept
stops = BenchState.stopped (Stop.outcome (BenchOutcome.returned (some (7, IrType.FieldT)))) (5 ∷ 7 ∷ [])

abbrev pub reached_rows : List ReachedRow
reached_rows =
    after 9 (goes_on (made_open 4 (gives 18 (Instruction.Call 1 (6 ∷ 10 ∷ []) (IrType.Struct 31)) ∷ behind_call) (Terminator.Jump 5) made) [] (5 ∷ 6 ∷ [])) ∷  -- words_made
    after 10 in_call ∷  -- in_call
    after 11 (goes_on (made_open 4 behind_call (Terminator.Jump 5) with_result) [] (5 ∷ 6 ∷ [])) ∷  -- given_back
    after 12 (goes_on (made_open 4 [] (Terminator.Jump 5) with_result) [] (5 ∷ 7 ∷ [])) ∷  -- state_written
    after 13 (goes_on (made_open 5 [] (Terminator.Return (some 18)) with_result) [] (5 ∷ 7 ∷ [])) ∷  -- jumped
    after 14 stops ∷  -- stops
    after 15 stops ∷ []  -- stays_stopped

abbrev pub ReachedRowsHold : Type 0
ReachedRowsHold = All Reached reached_rows

-- ---- SLOTS from 2^31 on are negative numbers, however many state words are lent
pub record SlotsApart : Type 0 where
  pub negative : (m : Machine ℕ) → state_word m 2147483648 ≡ err (Stop.outcome BenchOutcome.slot_absent)
  pub greatest : (m : Machine ℕ) → state_word m 2147483647 ≡ ok_or_else (get_elem? m.state 2147483647) (Stop.outcome BenchOutcome.slot_absent)

-- ---- NUMBERS of the outcomes, and the working memory afterwards
abbrev numbers_with : BenchOutcome ℕ → List ℕ
numbers_with o = bench_numbers (record { answer = ok o; state = [] })

abbrev pub number_rows : List (List ℕ × List ℕ)
number_rows =
    (numbers_with (BenchOutcome.returned (some 42)), 0 ∷ 1 ∷ 42 ∷ []) ∷  -- returned_word
    (numbers_with (BenchOutcome.returned none), 0 ∷ 2 ∷ 0 ∷ []) ∷  -- returned_nothing
    (numbers_with BenchOutcome.zero_divisor, 0 ∷ 3 ∷ 0 ∷ []) ∷  -- zero_divisor
    (numbers_with BenchOutcome.list_used_up, 0 ∷ 4 ∷ 0 ∷ []) ∷  -- list_used_up
    (numbers_with BenchOutcome.slot_absent, 0 ∷ 5 ∷ 0 ∷ []) ∷  -- slot_absent
    (numbers_with BenchOutcome.seventeenth, 0 ∷ 6 ∷ 0 ∷ []) ∷  -- seventeenth
    (numbers_with BenchOutcome.store, 0 ∷ 7 ∷ 0 ∷ []) ∷  -- store
    (numbers_with BenchOutcome.unreachable, 0 ∷ 8 ∷ 0 ∷ []) ∷  -- unreachable
    (numbers_with BenchOutcome.no_start_block, 0 ∷ 9 ∷ 0 ∷ []) ∷  -- no_start_block
    (numbers_with BenchOutcome.unset, 0 ∷ 10 ∷ 0 ∷ []) ∷  -- unset
    (numbers_with BenchOutcome.limit_reached, 0 ∷ 11 ∷ 0 ∷ []) ∷  -- limit_reached
    (memory_after 3, 0 ∷ 0 ∷ 0 ∷ []) ∷ []  -- memory_after

abbrev pub NumberRowsHold : Type 0
NumberRowsHold = All (Equal {A = List ℕ}) number_rows

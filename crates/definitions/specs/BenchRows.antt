-- Runs of small programs on the bench (document 02, order 2), each with its whole answer: outcome or refusal, and what the state words then hold. Each reading
-- of docs/DECISIONS.md has its row. `proofs/BenchRows.antt` shows that they hold. Assumes nothing: these are definitions.
use Rattle.std.specs.Prelude.{ℕ, ◌≡◌, List, [], ◌∷◌}
use Rattle.std.proofs.Math.Option.{none, some}
use Rattle.definitions.specs.All.{All}
use Rattle.definitions.specs.Result.{err, ok}
use Rattle.definitions.specs.Ast.{BinOp}
use Rattle.definitions.specs.Ir.{IrType, Instruction, Terminator, InstrNode, BasicBlock, IrFunction}
use Rattle.definitions.specs.Answers.{refusal}
use Rattle.definitions.specs.Bench.{BenchOutcome, Tried, tried_with, bench_program, lent_with}
use Rattle.definitions.specs.RunRows.{block, open_block, gives, does, five, six}

-- ---- PROGRAMS, written short
abbrev pub bench_function : ℕ → List (ℕ × IrType) → List IrType → List BasicBlock → IrFunction
bench_function k ps ls bs = record { id = k; name = 70; params = ps; ret_ty = IrType.Void; blocks = bs; locals = ls }

-- one function of one block
abbrev alone : List (ℕ × IrType) → List InstrNode → Terminator → List IrFunction
alone ps is t = bench_function 0 ps [] (block 0 is t ∷ []) ∷ []

abbrev const : ℕ → Instruction
const n = Instruction.Const IrType.U64 n

abbrev calls : ℕ → List ℕ → Instruction
calls f vs = Instruction.Call f vs IrType.U64

abbrev reads : ℕ → Instruction
reads slot = Instruction.StateRead IrType.U64 slot

abbrev writes : ℕ → ℕ → InstrNode
writes slot v = does (Instruction.StateWrite slot v)

abbrev result : ℕ → Terminator
result v = Terminator.Return (some v)

abbrev nothing : Terminator
nothing = Terminator.Return none

-- ---- A ROW: the functions of a program, the position, what is lent, and what it comes to
pub record Loan : Type 0 where
  pub args : List ℕ
  pub state : List ℕ
  pub outside : List ℕ
  pub memory : ℕ
  pub limit : ℕ

pub record BenchRow : Type 0 where
  pub functions : List IrFunction
  pub position : ℕ
  pub loan : Loan
  pub tried : Tried

-- the context words are 101, 102 and 103
abbrev pub tried_on : List IrFunction → ℕ → Loan → Tried
tried_on fs position l =
    tried_with l.state (bench_program (lent_with (record { functions = fs; function_names = [] }) 101 102 103 l.memory) position l.args l.state l.outside l.limit)

abbrev pub Tries : BenchRow → Type 0
Tries r = tried_on r.functions r.position r.loan ≡ r.tried

abbrev pub RowsTry : List BenchRow → Type 0
RowsTry rs = All Tries rs

-- words for the parameters, state words, outside results; memory and steps enough, or so many of them
abbrev pub lending : List ℕ → List ℕ → List ℕ → Loan
lending args state outside = record { args = args; state = state; outside = outside; memory = 999; limit = 99 }

abbrev with_steps : ℕ → List ℕ → Loan
with_steps n state = record { args = []; state = state; outside = []; memory = 999; limit = n }

abbrev with_memory : ℕ → List ℕ → Loan
with_memory n args = record { args = args; state = 5 ∷ []; outside = []; memory = n; limit = 99 }

-- the first function ends so, or is refused, and the state words hold these
abbrev pub ends_with : List IrFunction → Loan → BenchOutcome ℕ → List ℕ → BenchRow
ends_with fs l o state = record { functions = fs; position = 0; loan = l; tried = record { answer = ok o; state = state } }

abbrev pub refused : List IrFunction → Loan → ℕ → List ℕ → BenchRow
refused fs l k state = record { functions = fs; position = 0; loan = l; tried = record { answer = err (refusal k []); state = state } }

-- ---- "sums, differences and products wrap modulo 2^64, quotients drop the remainder, comparisons give 1 or 0"
abbrev on_words : BinOp → ℕ → ℕ → BenchOutcome ℕ → BenchRow
on_words op a b o = ends_with (alone (five ∷ six ∷ []) (gives 7 (Instruction.Binary op IrType.U64 5 6) ∷ []) (result 7)) (lending (a ∷ b ∷ []) [] []) o []

abbrev gets : BinOp → ℕ → ℕ → ℕ → BenchRow
gets op a b n = on_words op a b (BenchOutcome.returned (some n))

abbrev pub word_rows : List BenchRow
word_rows =
    gets BinOp.Add 3 4 7 ∷  -- sum
    gets BinOp.Add 18446744073709551615 0 18446744073709551615 ∷  -- greatest_sum
    gets BinOp.Add 18446744073709551615 2 1 ∷  -- sum_wraps
    gets BinOp.Sub 9 4 5 ∷  -- difference
    gets BinOp.Sub 9 9 0 ∷  -- no_difference
    gets BinOp.Sub 0 1 18446744073709551615 ∷  -- difference_wraps
    gets BinOp.Mul 6 7 42 ∷  -- product
    gets BinOp.Mul 4294967296 4294967297 4294967296 ∷  -- product_wraps
    gets BinOp.Div 7 2 3 ∷  -- quotient
    gets BinOp.Div 18446744073709551615 1 18446744073709551615 ∷  -- greatest_quotient
    on_words BinOp.Div 7 0 BenchOutcome.zero_divisor ∷  -- zero_divisor
    gets BinOp.Eq 7 7 1 ∷  -- equal
    gets BinOp.Eq 7 8 0 ∷  -- not_equal
    gets BinOp.Neq 7 7 0 ∷  -- not_unequal
    gets BinOp.Neq 7 8 1 ∷  -- unequal
    gets BinOp.Lt 1 2 1 ∷  -- less
    gets BinOp.Lt 2 2 0 ∷  -- not_less
    gets BinOp.Lt 9223372036854775808 1 0 ∷  -- less_unsigned
    gets BinOp.Gt 2 1 1 ∷  -- greater
    gets BinOp.Gt 2 2 0 ∷  -- not_greater
    gets BinOp.Gt 9223372036854775808 1 1 ∷  -- greater_unsigned
    gets BinOp.Lte 2 2 1 ∷  -- at_most
    gets BinOp.Lte 1 2 1 ∷  -- less_is_at_most
    gets BinOp.Lte 9223372036854775808 1 0 ∷  -- at_most_unsigned
    gets BinOp.Gte 2 2 1 ∷  -- at_least
    gets BinOp.Gte 1 2 0 ∷  -- not_at_least
    gets BinOp.Gte 9223372036854775808 1 1 ∷ []  -- at_least_unsigned

-- ---- THE ORDER: limit, start block, operands, then the instruction's own causes
-- a Const, a StateWrite of it, and a Return: three steps
abbrev three_steps : List IrFunction
three_steps = alone [] (gives 1 (const 7) ∷ writes 0 1 ∷ []) (result 1)

-- no block to start in, at once and behind a Call
abbrev no_blocks : List IrFunction
no_blocks = bench_function 0 [] [] [] ∷ []

abbrev calls_no_blocks : List IrFunction
calls_no_blocks = bench_function 0 [] [] (block 0 (does (calls 1 []) ∷ []) nothing ∷ []) ∷ bench_function 1 [] [] [] ∷ []

abbrev pub limit_rows : List BenchRow
limit_rows =
    ends_with three_steps (with_steps 0 (5 ∷ [])) BenchOutcome.limit_reached (5 ∷ []) ∷  -- no_step
    ends_with three_steps (with_steps 1 (5 ∷ [])) BenchOutcome.limit_reached (5 ∷ []) ∷  -- one_step
    ends_with three_steps (with_steps 2 (5 ∷ [])) BenchOutcome.limit_reached (7 ∷ []) ∷  -- limit_before_end
    ends_with three_steps (with_steps 3 (5 ∷ [])) (BenchOutcome.returned (some 7)) (7 ∷ []) ∷  -- ending_step_is_one
    ends_with three_steps (with_steps 4 (5 ∷ [])) (BenchOutcome.returned (some 7)) (7 ∷ []) ∷  -- one_left
    ends_with no_blocks (with_steps 0 (5 ∷ [])) BenchOutcome.limit_reached (5 ∷ []) ∷  -- limit_before_start_block
    ends_with no_blocks (with_steps 1 (5 ∷ [])) BenchOutcome.no_start_block (5 ∷ []) ∷  -- no_start_block
    ends_with calls_no_blocks (with_steps 1 (5 ∷ [])) BenchOutcome.limit_reached (5 ∷ []) ∷  -- call_is_a_step
    ends_with calls_no_blocks (with_steps 2 (5 ∷ [])) BenchOutcome.no_start_block (5 ∷ []) ∷ []  -- no_start_block_behind_call

-- one instruction behind a StateWrite of 7 to slot 0, with value 1 set and value 9 not: its operands come first
abbrev doing : Instruction → List ℕ → BenchOutcome ℕ → BenchRow
doing i outside o = ends_with (alone [] (gives 1 (const 7) ∷ writes 0 1 ∷ gives 2 i ∷ []) (result 2)) (lending [] (5 ∷ 6 ∷ []) outside) o (7 ∷ 6 ∷ [])

-- one without a result: 1 is returned behind it
abbrev passing : Instruction → BenchOutcome ℕ → List ℕ → BenchRow
passing i o state = ends_with (alone [] (gives 1 (const 7) ∷ gives 3 (const 0) ∷ writes 0 1 ∷ does i ∷ []) (result 1)) (lending [] (5 ∷ 6 ∷ []) []) o state

abbrev pub order_rows : List BenchRow
order_rows =
    doing (Instruction.Binary BinOp.Sub IrType.U64 1 1) [] (BenchOutcome.returned (some 0)) ∷  -- binary
    doing (Instruction.Binary BinOp.Div IrType.U64 9 1) [] BenchOutcome.unset ∷  -- left_unset
    doing (Instruction.Binary BinOp.Div IrType.U64 1 9) [] BenchOutcome.unset ∷  -- right_unset
    doing (Instruction.Load IrType.U64 1 3) (40 ∷ []) (BenchOutcome.returned (some 40)) ∷  -- load
    doing (Instruction.Load IrType.U64 1 3) [] BenchOutcome.list_used_up ∷  -- load_nothing_left
    doing (Instruction.Load IrType.U64 9 3) [] BenchOutcome.unset ∷  -- load_base_unset
    doing (Instruction.Poseidon 1 1) (40 ∷ []) (BenchOutcome.returned (some 40)) ∷  -- poseidon
    doing (Instruction.Poseidon 1 1) [] BenchOutcome.list_used_up ∷  -- poseidon_nothing_left
    doing (Instruction.Poseidon 9 1) [] BenchOutcome.unset ∷  -- poseidon_left_unset
    doing (Instruction.Poseidon 1 9) [] BenchOutcome.unset ∷  -- poseidon_right_unset
    doing (reads 0) [] (BenchOutcome.returned (some 7)) ∷  -- reads_what_was_written
    doing (reads 1) [] (BenchOutcome.returned (some 6)) ∷  -- reads_last_slot
    doing (reads 2) [] BenchOutcome.slot_absent ∷  -- reads_past_end
    doing (reads 4294967295) [] BenchOutcome.slot_absent ∷  -- reads_negative_slot
    doing (Instruction.ReadLocal 0 IrType.U64) [] BenchOutcome.unset ∷  -- local_unset
    doing (Instruction.Const IrType.BoolT 7) [] (BenchOutcome.returned (some 7)) ∷  -- bool_of_seven
    doing (Instruction.ContextRead 0) [] (BenchOutcome.returned (some 101)) ∷  -- sender
    doing (Instruction.ContextRead 1) [] (BenchOutcome.returned (some 102)) ∷  -- nonce
    doing (Instruction.ContextRead 2) [] (BenchOutcome.returned (some 103)) ∷ []  -- block_number

abbrev pub pass_rows : List BenchRow
pass_rows =
    passing (Instruction.Store 1 3 1) BenchOutcome.store (7 ∷ 6 ∷ []) ∷  -- store
    passing (Instruction.Store 9 3 1) BenchOutcome.unset (7 ∷ 6 ∷ []) ∷  -- store_base_unset
    passing (Instruction.Store 1 3 9) BenchOutcome.unset (7 ∷ 6 ∷ []) ∷  -- store_value_unset
    passing (Instruction.StateWrite 1 3) (BenchOutcome.returned (some 7)) (7 ∷ 0 ∷ []) ∷  -- writes_last_slot
    passing (Instruction.StateWrite 2 3) BenchOutcome.slot_absent (7 ∷ 6 ∷ []) ∷  -- writes_past_end
    passing (Instruction.StateWrite 4294967295 3) BenchOutcome.slot_absent (7 ∷ 6 ∷ []) ∷  -- writes_negative_slot
    passing (Instruction.StateWrite 2 9) BenchOutcome.unset (7 ∷ 6 ∷ []) ∷  -- operand_before_slot
    passing (Instruction.WriteLocal 0 1) (BenchOutcome.returned (some 7)) (7 ∷ 6 ∷ []) ∷  -- writes_local
    passing (Instruction.WriteLocal 0 9) BenchOutcome.unset (7 ∷ 6 ∷ []) ∷  -- writes_local_unset
    passing (Instruction.Assert 1) (BenchOutcome.returned (some 7)) (7 ∷ 6 ∷ []) ∷  -- assert_of_seven
    passing (Instruction.Assert 3) (BenchOutcome.returned (some 7)) (7 ∷ 6 ∷ []) ∷  -- assert_of_zero
    passing (Instruction.Assert 9) BenchOutcome.unset (7 ∷ 6 ∷ []) ∷  -- assert_unset
    passing (Instruction.Emit 80 (1 ∷ 3 ∷ [])) (BenchOutcome.returned (some 7)) (7 ∷ 6 ∷ []) ∷  -- emit
    passing (Instruction.Emit 80 (9 ∷ 1 ∷ [])) BenchOutcome.unset (7 ∷ 6 ∷ []) ∷  -- emit_first_unset
    passing (Instruction.Emit 80 (1 ∷ 9 ∷ [])) BenchOutcome.unset (7 ∷ 6 ∷ []) ∷ []  -- emit_last_unset

-- ---- BLOCKS
-- block 1 returns 1, block 2 returns 2
abbrev numbered : ℕ → BasicBlock
numbered k = block k (gives 3 (const k) ∷ []) (result 3)

abbrev branching : ℕ → ℕ → BenchOutcome ℕ → BenchRow
branching v a o = ends_with (bench_function 0 (five ∷ []) [] (block 0 [] (Terminator.Branch v 1 2) ∷ numbered 1 ∷ numbered 2 ∷ []) ∷ []) (lending (a ∷ []) [] []) o []

-- the first listed block has id 4, and two blocks have id 1
abbrev listed : List IrFunction
listed =
    bench_function 0 [] [] (block 4 [] (Terminator.Jump 1) ∷ block 0 [] Terminator.Unreachable ∷ block 1 (gives 3 (const 7) ∷ []) (result 3) ∷ numbered 1 ∷ []) ∷ []

-- a value and a local of one block are read in the next
abbrev across : List IrFunction
across =
    bench_function 0 (five ∷ []) [] (block 0 (gives 1 (const 7) ∷ does (Instruction.WriteLocal 3 1) ∷ []) (Terminator.Jump 1)
    ∷ block 1 (gives 2 (Instruction.ReadLocal 3 IrType.U64) ∷ gives 4 (Instruction.Binary BinOp.Add IrType.U64 1 2) ∷ gives 6 (Instruction.Binary BinOp.Add IrType.U64 4 5) ∷ []) (result 6) ∷ [])
    ∷ []

-- the first block is entered again: its parameter, which got another word, keeps that one (no sheet that the verifier accepts shows it)
abbrev again : List IrFunction
again =
    bench_function 0 (five ∷ []) [] (block 0 [] (Terminator.Branch 5 1 2) ∷ block 1 (gives 5 (const 0) ∷ []) (Terminator.Jump 0) ∷ block 2 [] (result 5) ∷ []) ∷ []

abbrev pub block_rows : List BenchRow
block_rows =
    branching 5 0 (BenchOutcome.returned (some 2)) ∷  -- zero_takes_else
    branching 5 1 (BenchOutcome.returned (some 1)) ∷  -- one_takes_then
    branching 5 7 (BenchOutcome.returned (some 1)) ∷  -- seven_takes_then
    branching 9 1 BenchOutcome.unset ∷  -- condition_unset
    ends_with listed (lending [] [] []) (BenchOutcome.returned (some 7)) [] ∷  -- first_listed_and_first_of_id
    ends_with across (lending (40 ∷ []) [] []) (BenchOutcome.returned (some 54)) [] ∷  -- words_last_across_blocks
    ends_with again (lending (1 ∷ []) [] []) (BenchOutcome.returned (some 0)) [] ∷  -- first_block_again
    ends_with (alone [] (gives 1 (const 7) ∷ []) (result 9)) (lending [] (5 ∷ []) []) BenchOutcome.unset (5 ∷ []) ∷  -- returned_unset
    ends_with (alone [] (gives 1 (const 7) ∷ []) nothing) (lending [] (5 ∷ []) []) (BenchOutcome.returned none) (5 ∷ []) ∷  -- returned_nothing
    ends_with (alone [] [] Terminator.Unreachable) (lending [] (5 ∷ []) []) BenchOutcome.unreachable (5 ∷ []) ∷  -- unreachable
    ends_with (alone [] [] (Terminator.Jump 7)) (lending [] (5 ∷ []) []) BenchOutcome.unset (5 ∷ []) ∷  -- missing_block
    ends_with (bench_function 0 [] [] (open_block 0 [] ∷ []) ∷ []) (lending [] (5 ∷ []) []) BenchOutcome.unset (5 ∷ []) ∷ []  -- missing_terminator

-- ---- OUTSIDE RESULTS: one list for Load and Poseidon, in the order in which they are run; one without a result id uses an entry up as well
abbrev loads : ℕ → Instruction
loads v = Instruction.Load IrType.U64 v 0

abbrev outside_of : List InstrNode → List ℕ → BenchOutcome ℕ → BenchRow
outside_of is outside o = ends_with (alone (five ∷ []) is (result 2)) (lending (1 ∷ []) [] outside) o []

abbrev pub outside_rows : List BenchRow
outside_rows =
    outside_of (gives 1 (loads 5) ∷ gives 2 (Instruction.Poseidon 5 1) ∷ []) (40 ∷ 50 ∷ 60 ∷ []) (BenchOutcome.returned (some 50)) ∷  -- load_then_poseidon
    outside_of (gives 1 (Instruction.Poseidon 5 5) ∷ gives 2 (loads 1) ∷ []) (40 ∷ 50 ∷ 60 ∷ []) (BenchOutcome.returned (some 50)) ∷  -- poseidon_then_load
    outside_of (does (loads 5) ∷ gives 2 (Instruction.Poseidon 5 5) ∷ []) (40 ∷ 50 ∷ []) (BenchOutcome.returned (some 50)) ∷  -- load_without_result
    outside_of (does (Instruction.Poseidon 5 5) ∷ gives 2 (loads 5) ∷ []) (40 ∷ 50 ∷ []) (BenchOutcome.returned (some 50)) ∷  -- poseidon_without_result
    outside_of (does (loads 5) ∷ gives 2 (Instruction.Poseidon 5 5) ∷ []) (40 ∷ []) BenchOutcome.list_used_up ∷ []  -- used_up

-- ---- CALLS
-- values 1 and 2 are 7 and 4; function 1 is called with some, and what it gives is returned
abbrev calling : List ℕ → IrFunction → BenchOutcome ℕ → BenchRow
calling vs g o =
    ends_with (bench_function 0 [] [] (block 0 (gives 1 (const 7) ∷ gives 2 (const 4) ∷ does (Instruction.WriteLocal 0 1) ∷ gives 3 (calls 1 vs) ∷ []) (result 3) ∷ []) ∷ g ∷ [])
    (lending [] (5 ∷ []) []) o (5 ∷ [])

-- the called function, with parameters 5 and 6
abbrev called : List InstrNode → Terminator → IrFunction
called is t = bench_function 1 (five ∷ six ∷ []) [] (block 0 is t ∷ [])

abbrev subtracts : IrFunction
subtracts = called (gives 7 (Instruction.Binary BinOp.Sub IrType.U64 5 6) ∷ []) (result 7)

abbrev pub call_rows : List BenchRow
call_rows =
    calling (1 ∷ 2 ∷ []) subtracts (BenchOutcome.returned (some 3)) ∷  -- takes_returned_word
    calling (2 ∷ 1 ∷ []) subtracts (BenchOutcome.returned (some 18446744073709551613)) ∷  -- arguments_in_order
    calling (1 ∷ []) subtracts BenchOutcome.unset ∷  -- missing_argument_unset
    calling (1 ∷ []) (called [] (result 5)) (BenchOutcome.returned (some 7)) ∷  -- other_argument_set
    calling (1 ∷ 2 ∷ 2 ∷ []) subtracts (BenchOutcome.returned (some 3)) ∷  -- extra_argument_dropped
    calling (1 ∷ 2 ∷ 9 ∷ []) subtracts BenchOutcome.unset ∷  -- dropped_argument_is_operand
    calling (9 ∷ 1 ∷ []) (called [] (result 6)) BenchOutcome.unset ∷  -- first_argument_unset
    calling [] (called [] nothing) BenchOutcome.unset ∷  -- result_unset_without_word
    calling [] (called [] (result 1)) BenchOutcome.unset ∷  -- callers_value_not_seen
    calling [] (called (gives 7 (Instruction.ReadLocal 0 IrType.U64) ∷ []) (result 7)) BenchOutcome.unset ∷  -- callers_local_not_seen
    calling [] (called [] Terminator.Unreachable) BenchOutcome.unreachable ∷ []  -- ends_inside

-- the called function has a value 1 and a local 0 too; the caller's own are there after it, and no result id takes a word
abbrev own_words : List IrFunction
own_words =
    bench_function 0 [] [] (block 0 (gives 1 (const 7) ∷ does (Instruction.WriteLocal 0 1) ∷ does (calls 1 []) ∷ gives 2 (Instruction.ReadLocal 0 IrType.U64) ∷ gives 3 (Instruction.Binary BinOp.Add IrType.U64 1 2) ∷ []) (result 3) ∷ [])
    ∷ bench_function 1 [] [] (block 0 (gives 1 (const 9) ∷ does (Instruction.WriteLocal 0 1) ∷ []) (result 1) ∷ []) ∷ []

-- 0 calls 1 calls 2; each writes the next state word and takes an outside result
abbrev nested : List IrFunction
nested =
    bench_function 0 (five ∷ []) [] (block 0 (gives 1 (calls 1 (5 ∷ [])) ∷ writes 0 1 ∷ gives 2 (loads 1) ∷ []) (result 2) ∷ [])
    ∷ bench_function 1 (six ∷ []) [] (block 0 (gives 1 (loads 6) ∷ gives 2 (calls 2 (1 ∷ 6 ∷ [])) ∷ writes 1 2 ∷ []) (result 2) ∷ [])
    ∷ bench_function 2 (five ∷ six ∷ []) [] (block 0 (gives 1 (Instruction.Poseidon 5 6) ∷ gives 2 (Instruction.Binary BinOp.Sub IrType.U64 1 5) ∷ writes 2 2 ∷ []) (result 2) ∷ []) ∷ []

-- in the second turn function 1 returns nothing: value 1, which was set, becomes unset (no sheet that the verifier accepts shows it)
abbrev becomes_unset : List IrFunction
becomes_unset =
    bench_function 0 [] [] (block 0 (gives 1 (calls 1 []) ∷ writes 0 1 ∷ []) (Terminator.Jump 0) ∷ [])
    ∷ bench_function 1 [] [] (block 0 (gives 1 (reads 0) ∷ []) (Terminator.Branch 1 1 2) ∷ block 1 [] nothing ∷ block 2 (gives 2 (const 7) ∷ []) (result 2) ∷ []) ∷ []

-- the ids are 5, 0, 5: the second function calls 5, which is the first
abbrev ids_apart : List IrFunction
ids_apart =
    bench_function 5 [] [] (numbered 1 ∷ []) ∷ bench_function 0 [] [] (block 0 (gives 1 (calls 5 []) ∷ []) (result 1) ∷ []) ∷ bench_function 5 [] [] (numbered 2 ∷ []) ∷ []

abbrev at_position : ℕ → BenchOutcome ℕ → BenchRow
at_position k o = record { functions = ids_apart; position = k; loan = lending [] [] []; tried = record { answer = ok o; state = [] } }

abbrev pub program_rows : List BenchRow
program_rows =
    ends_with own_words (lending [] (5 ∷ []) []) (BenchOutcome.returned (some 14)) (5 ∷ []) ∷  -- own_words_after_call
    ends_with nested (lending (1 ∷ []) (0 ∷ 0 ∷ 0 ∷ []) (40 ∷ 45 ∷ 60 ∷ [])) (BenchOutcome.returned (some 60)) (5 ∷ 5 ∷ 5 ∷ []) ∷  -- calls_in_calls
    ends_with becomes_unset (lending [] (0 ∷ []) []) BenchOutcome.unset (7 ∷ []) ∷  -- from_set_to_unset
    at_position 0 (BenchOutcome.returned (some 1)) ∷  -- first_position
    at_position 1 (BenchOutcome.returned (some 1)) ∷  -- first_function_with_id
    at_position 2 (BenchOutcome.returned (some 2)) ∷  -- position_is_no_id
    ends_with (alone [] (does (calls 9 []) ∷ []) nothing) (lending [] (5 ∷ []) []) BenchOutcome.unset (5 ∷ []) ∷ []  -- missing_function

-- ---- MEMORY: 9 bytes for each parameter, result id and local, over all open functions; state words are 5 at first
abbrev pub enough : List IrFunction → ℕ → List ℕ → BenchRow
enough fs n args = ends_with fs (with_memory n args) (BenchOutcome.returned none) (5 ∷ [])

abbrev pub short : List IrFunction → ℕ → List ℕ → BenchRow
short fs n args = refused fs (with_memory n args) 53 (5 ∷ [])

abbrev one_local : List IrFunction
one_local = bench_function 0 [] (IrType.U64 ∷ []) (block 0 [] nothing ∷ []) ∷ []

-- one result in each of two blocks, the second of which is not entered
abbrev two_blocks : List IrFunction
two_blocks = bench_function 0 [] [] (block 0 (gives 1 (const 7) ∷ does (const 7) ∷ []) nothing ∷ block 1 (gives 2 (const 7) ∷ []) nothing ∷ []) ∷ []

-- 9, 18 and 27 bytes: 0 writes 7 and calls 1, and that calls 2, twice
abbrev three_open : List IrFunction
three_open =
    bench_function 0 [] [] (block 0 (gives 1 (const 7) ∷ writes 0 1 ∷ does (calls 1 []) ∷ does (calls 1 []) ∷ []) nothing ∷ [])
    ∷ bench_function 1 (five ∷ []) (IrType.U64 ∷ []) (block 0 (does (calls 2 []) ∷ does (calls 2 []) ∷ []) nothing ∷ [])
    ∷ bench_function 2 (five ∷ six ∷ []) [] (block 0 (gives 1 (const 9) ∷ []) nothing ∷ []) ∷ []

-- each open function adds 1 to the state word and calls itself; the sixteenth with an unset argument, or with none
abbrev counting : List ℕ → List IrFunction
counting vs =
    bench_function 0 [] [] (block 0 (gives 1 (reads 0) ∷ gives 2 (const 1) ∷ gives 3 (Instruction.Binary BinOp.Add IrType.U64 1 2) ∷ writes 0 3 ∷ gives 4 (const 16) ∷ gives 5 (Instruction.Binary BinOp.Eq IrType.U64 3 4) ∷ []) (Terminator.Branch 5 1 2)
    ∷ block 1 (does (calls 0 vs) ∷ []) nothing ∷ block 2 (does (calls 0 []) ∷ []) nothing ∷ []) ∷ []

abbrev counted : List ℕ → (memory limit : ℕ) → Loan
counted state memory limit = record { args = []; state = state; outside = []; memory = memory; limit = limit }

abbrev pub memory_rows : List BenchRow
memory_rows =
    enough (alone (five ∷ []) [] nothing) 9 (1 ∷ []) ∷  -- one_parameter
    short (alone (five ∷ []) [] nothing) 8 (1 ∷ []) ∷  -- one_parameter_short
    enough one_local 9 [] ∷  -- one_local
    short one_local 8 [] ∷  -- one_local_short
    enough two_blocks 18 [] ∷  -- results_of_all_blocks
    short two_blocks 17 [] ∷  -- results_of_all_blocks_short
    refused two_blocks (counted (5 ∷ []) 17 0) 53 (5 ∷ []) ∷  -- short_even_with_limit_zero
    refused (bench_function 0 (five ∷ []) [] [] ∷ []) (with_memory 8 (1 ∷ [])) 53 (5 ∷ []) ∷  -- short_before_start_block
    ends_with three_open (with_memory 54 []) (BenchOutcome.returned none) (7 ∷ []) ∷  -- given_back_at_return
    refused three_open (with_memory 53 []) 53 (7 ∷ []) ∷  -- short_at_third_open
    refused three_open (with_memory 26 []) 53 (7 ∷ []) ∷  -- short_at_second_open
    ends_with (alone [] (gives 1 (const 7) ∷ does (calls 0 (9 ∷ [])) ∷ []) nothing) (with_memory 9 []) BenchOutcome.unset (5 ∷ []) ∷  -- operands_before_memory
    ends_with (counting []) (counted (0 ∷ []) 720 128) BenchOutcome.seventeenth (16 ∷ []) ∷  -- sixteen_open
    ends_with (counting []) (counted (0 ∷ []) 720 127) BenchOutcome.limit_reached (16 ∷ []) ∷  -- sixteenth_goes_on
    refused (counting []) (counted (0 ∷ []) 719 999) 53 (15 ∷ []) ∷  -- sixteenth_short
    ends_with (counting (9 ∷ [])) (counted (0 ∷ []) 720 999) BenchOutcome.unset (16 ∷ []) ∷ []  -- operands_before_seventeenth

-- ---- 52 "if the function position is absent or the argument count differs, given first"
abbrev refused_at : ℕ → Loan → BenchRow
refused_at k l = record { functions = alone (five ∷ six ∷ []) (gives 1 (const 9) ∷ writes 0 1 ∷ []) nothing; position = k; loan = l; tried = record { answer = err (refusal 52 []); state = 5 ∷ [] } }

abbrev pub refusal_rows : List BenchRow
refusal_rows =
    refused_at 1 (lending (1 ∷ 2 ∷ []) (5 ∷ []) []) ∷  -- position_absent
    refused_at 0 (lending (1 ∷ []) (5 ∷ []) []) ∷  -- argument_missing
    refused_at 0 (lending (1 ∷ 2 ∷ 3 ∷ []) (5 ∷ []) []) ∷  -- argument_too_many
    refused_at 1 (with_memory 0 (1 ∷ 2 ∷ [])) ∷  -- position_before_memory
    refused_at 0 (record { args = []; state = 5 ∷ []; outside = []; memory = 0; limit = 0 }) ∷ []  -- count_before_memory_and_limit

-- Runs of small functions, each with the whole state that it reaches (document 01, "Run (demand 3)"): each sentence there both ways, a run
-- that lacks beside one that does not. No compiled code cites Run, so these rows are what holds it to its words: whoever changes a clause of it
-- meets a row that no longer computes. `proofs/RunRows.antt` shows that they hold. Assumes nothing: these are definitions.
use Rattle.std.specs.Prelude.{ℕ, zero, suc, ◌*◌, ◌≡◌, List, [], ◌∷◌, ◌++◌, map}
use Rattle.std.proofs.Math.Option.{none, some}
use Rattle.definitions.specs.All.{All}
use Rattle.definitions.specs.Ast.{BinOp}
use Rattle.definitions.specs.Ir.{IrType, Instruction, Terminator, InstrNode, BasicBlock, IrFunction}
use Rattle.definitions.specs.Run.{then_way, else_way, Pick, State, at, ended, lacks, steps, run}

-- blocks and instructions, written short
abbrev pub block : ℕ → List InstrNode → Terminator → BasicBlock
block k is t = record { id = k; instrs = is; terminator = some t }

abbrev pub open_block : ℕ → List InstrNode → BasicBlock
open_block k is = record { id = k; instrs = is; terminator = none }

abbrev pub gives : ℕ → Instruction → InstrNode
gives v i = record { result = some v; instr = i }

abbrev pub does : Instruction → InstrNode
does i = record { result = none; instr = i }

abbrev pub seven : Instruction
seven = Instruction.Const IrType.U64 7

abbrev pub add : ℕ → ℕ → Instruction
add l r = Instruction.Binary BinOp.Add IrType.U64 l r

-- the state in block k, with instructions `is` and terminator t: what is left of it, the held values with their words, the locals written
abbrev pub in_block : ℕ → List InstrNode → Terminator → List InstrNode → List (ℕ × ℕ) → List ℕ → State
in_block k is t rest held written = at (record { block = block k is t; rest = rest; end = t; held = held; written = written })

-- A ROW: the blocks of a function, its parameters, the words for them, the picks, and the state that is reached. It is reached whatever the
-- function's id, name, return type and locals are: no local counts as written for being declared.
pub record StateRow : Type 0 where
  pub blocks : List BasicBlock
  pub params : List (ℕ × IrType)
  pub words : List ℕ
  pub picks : List Pick
  pub state : State

abbrev pub function_made : List BasicBlock → List (ℕ × IrType) → ℕ → ℕ → IrType → List IrType → IrFunction
function_made bs ps i n t ls = record { id = i; name = n; params = ps; ret_ty = t; blocks = bs; locals = ls }

-- what such functions come to, and that they all come to one state
abbrev pub OfAny : Type 0
OfAny = ℕ → ℕ → IrType → List IrType → State

abbrev pub of_any : List BasicBlock → List (ℕ × IrType) → (IrFunction → State) → OfAny
of_any bs ps f i n t ls = f (function_made bs ps i n t ls)

abbrev pub always : State → OfAny
always s i n t ls = s

abbrev pub Reaches : StateRow → Type 0
Reaches r = of_any r.blocks r.params (λ f. run f r.words r.picks) ≡ always r.state

-- the parameters of the rows
abbrev pub five : ℕ × IrType
five = (5, IrType.U64)

abbrev pub six : ℕ × IrType
six = (6, IrType.BoolT)

-- ---- IT STARTS by entering the function's first listed block, no local written
-- no block at all
abbrev no_block : StateRow
no_block = record { blocks = []; params = five ∷ []; words = 50 ∷ []; picks = []; state = lacks }

-- the first block has no terminator, a later one has
abbrev first_open : StateRow
first_open = record { blocks = open_block 0 [] ∷ block 1 [] Terminator.Unreachable ∷ []; params = []; words = []; picks = []; state = lacks }

-- the first listed block, whatever its id; a block of id 0 stands behind it
abbrev first_listed : StateRow
first_listed = record {
  blocks = block 4 (gives 7 seven ∷ []) (Terminator.Jump 0) ∷ block 0 [] Terminator.Unreachable ∷ [];
  params = [];
  words = [];
  picks = [];
  state = in_block 4 (gives 7 seven ∷ []) (Terminator.Jump 0) (gives 7 seven ∷ []) [] [];
}

-- the parameters are held, each with its word
abbrev parameters : StateRow
parameters = record {
  blocks = block 0 [] Terminator.Unreachable ∷ [];
  params = five ∷ six ∷ [];
  words = 50 ∷ 60 ∷ [];
  picks = [];
  state = in_block 0 [] Terminator.Unreachable [] ((5, 50) ∷ (6, 60) ∷ []) [];
}

-- a parameter for which there is no word is not held, and a word without a parameter is nothing
abbrev word_missing : StateRow
word_missing = record {
  blocks = block 0 [] Terminator.Unreachable ∷ [];
  params = five ∷ six ∷ [];
  words = 50 ∷ [];
  picks = [];
  state = in_block 0 [] Terminator.Unreachable [] ((5, 50) ∷ []) [];
}

abbrev word_too_many : StateRow
word_too_many = record {
  blocks = block 0 [] Terminator.Unreachable ∷ [];
  params = five ∷ [];
  words = 50 ∷ 60 ∷ [];
  picks = [];
  state = in_block 0 [] Terminator.Unreachable [] ((5, 50) ∷ []) [];
}

abbrev pub start_rows : List StateRow
start_rows = no_block ∷ first_open ∷ first_listed ∷ parameters ∷ word_missing ∷ word_too_many ∷ []

-- ---- ENTERING A BLOCK lacks if the function has no such block, or the block no terminator
abbrev pub jumps_to : ℕ → List BasicBlock → State → StateRow
jumps_to k bs s = record { blocks = block 0 [] (Terminator.Jump k) ∷ bs; params = five ∷ []; words = 50 ∷ []; picks = (70, then_way) ∷ []; state = s }

abbrev pub branches_to : ℕ → ℕ → Pick → List BasicBlock → State → StateRow
branches_to t e p bs s = record { blocks = block 0 [] (Terminator.Branch 5 t e) ∷ bs; params = five ∷ []; words = 50 ∷ []; picks = p ∷ []; state = s }

abbrev pub ends : ℕ → BasicBlock
ends k = block k [] Terminator.Unreachable

abbrev pub at_start : ℕ → State
at_start k = in_block k [] Terminator.Unreachable [] [] []

-- the pick's way decides, and neither its word nor that of the condition, which is 50 here and 0 in `then_of_zero`
abbrev pub enter_rows : List StateRow
enter_rows =
    jumps_to 7 (ends 1 ∷ ends 9 ∷ []) lacks ∷  -- jump_nowhere
    jumps_to 65535 (ends 1 ∷ ends 65534 ∷ []) lacks ∷  -- jump_to_absent
    record { blocks = block 1 [] (Terminator.Jump 0) ∷ ends 2 ∷ []; params = []; words = []; picks = (70, then_way) ∷ []; state = lacks } ∷  -- jump_to_zero
    jumps_to 1 (open_block 1 [] ∷ ends 2 ∷ []) lacks ∷  -- jump_to_open
    jumps_to 2 (ends 1 ∷ ends 2 ∷ []) (at_start 2) ∷  -- jump_there
    branches_to 7 2 (0, then_way) (ends 2 ∷ ends 9 ∷ []) lacks ∷  -- then_nowhere
    branches_to 7 2 (1, else_way) (ends 2 ∷ ends 9 ∷ []) (at_start 2) ∷  -- else_there
    branches_to 1 7 (0, then_way) (ends 1 ∷ ends 9 ∷ []) (at_start 1) ∷  -- then_there
    branches_to 1 7 (1, else_way) (ends 1 ∷ ends 9 ∷ []) lacks ∷  -- else_nowhere
    branches_to 1 2 (0, then_way) (open_block 1 [] ∷ ends 2 ∷ []) lacks ∷  -- then_to_open
    branches_to 2 1 (1, else_way) (open_block 1 [] ∷ ends 2 ∷ []) lacks ∷  -- else_to_open
    branches_to 1 2 (1, then_way) (ends 1 ∷ ends 2 ∷ []) (at_start 1) ∷  -- then_with_one
    branches_to 1 2 (0, else_way) (ends 1 ∷ ends 2 ∷ []) (at_start 2) ∷  -- else_with_zero
    record { blocks = block 0 [] (Terminator.Branch 5 1 2) ∷ ends 1 ∷ ends 2 ∷ []; params = five ∷ []; words = 0 ∷ []; picks = (0, then_way) ∷ []; state = at_start 1 } ∷ []  -- then_of_zero

-- ENTERING EMPTIES the held values; in the first listed block the parameters are then held. The locals written stay
abbrev leaves_block : StateRow
leaves_block = record {
  blocks = block 0 (gives 7 seven ∷ does (Instruction.WriteLocal 2 5) ∷ []) (Terminator.Jump 1) ∷ ends 1 ∷ [];
  params = five ∷ [];
  words = 50 ∷ [];
  picks = (70, then_way) ∷ (71, then_way) ∷ (72, then_way) ∷ [];
  state = in_block 1 [] Terminator.Unreachable [] [] (2 ∷ []);
}

abbrev leaves_by_branch : Pick → StateRow
leaves_by_branch p = record {
  blocks = block 0 (does (Instruction.WriteLocal 2 5) ∷ []) (Terminator.Branch 5 1 1) ∷ ends 1 ∷ [];
  params = five ∷ [];
  words = 50 ∷ [];
  picks = (70, then_way) ∷ p ∷ [];
  state = in_block 1 [] Terminator.Unreachable [] [] (2 ∷ []);
}

abbrev leaves_by_then : StateRow
leaves_by_then = leaves_by_branch (71, then_way)

abbrev leaves_by_else : StateRow
leaves_by_else = leaves_by_branch (71, else_way)

-- back in the first listed block, which is no block 0
abbrev comes_back : StateRow
comes_back = record {
  blocks = block 4 (gives 7 seven ∷ []) (Terminator.Jump 1) ∷ block 1 (gives 8 seven ∷ does (Instruction.WriteLocal 2 8) ∷ []) (Terminator.Jump 4) ∷ [];
  params = five ∷ six ∷ [];
  words = 50 ∷ 60 ∷ [];
  picks = (70, then_way) ∷ (71, then_way) ∷ (72, then_way) ∷ (73, then_way) ∷ (74, then_way) ∷ [];
  state = in_block 4 (gives 7 seven ∷ []) (Terminator.Jump 1) (gives 7 seven ∷ []) ((5, 50) ∷ (6, 60) ∷ []) (2 ∷ []);
}

-- block 0 is not the first listed one: no parameter is held there
abbrev block_zero_second : StateRow
block_zero_second = record { blocks = block 4 [] (Terminator.Jump 0) ∷ ends 0 ∷ []; params = five ∷ []; words = 50 ∷ []; picks = (70, then_way) ∷ []; state = at_start 0 }

-- the values of the earlier visit are gone, in another block and in the first
abbrev visited_again : StateRow
visited_again = record {
  blocks = block 0 [] (Terminator.Jump 1) ∷ block 1 (gives 7 seven ∷ []) (Terminator.Jump 1) ∷ [];
  params = five ∷ [];
  words = 50 ∷ [];
  picks = (70, then_way) ∷ (71, then_way) ∷ (72, then_way) ∷ [];
  state = in_block 1 (gives 7 seven ∷ []) (Terminator.Jump 1) (gives 7 seven ∷ []) [] [];
}

abbrev first_visited_again : StateRow
first_visited_again = record {
  blocks = block 0 (gives 7 seven ∷ []) (Terminator.Branch 7 0 0) ∷ [];
  params = five ∷ [];
  words = 50 ∷ [];
  picks = (70, then_way) ∷ (71, else_way) ∷ [];
  state = in_block 0 (gives 7 seven ∷ []) (Terminator.Branch 7 0 0) (gives 7 seven ∷ []) ((5, 50) ∷ []) [];
}

-- the first block with an id serves, and no later one
abbrev same_id_first : StateRow
same_id_first = record {
  blocks = block 0 [] (Terminator.Jump 1) ∷ block 1 (gives 7 seven ∷ []) (Terminator.Return none) ∷ ends 1 ∷ [];
  params = [];
  words = [];
  picks = (70, then_way) ∷ [];
  state = in_block 1 (gives 7 seven ∷ []) (Terminator.Return none) (gives 7 seven ∷ []) [] [];
}

abbrev same_id_open : StateRow
same_id_open = record { blocks = block 0 [] (Terminator.Jump 1) ∷ open_block 1 [] ∷ ends 1 ∷ []; params = []; words = []; picks = (70, then_way) ∷ []; state = lacks }

abbrev same_id_as_first : StateRow
same_id_as_first = record {
  blocks = block 0 [] (Terminator.Jump 0) ∷ ends 0 ∷ [];
  params = five ∷ [];
  words = 50 ∷ [];
  picks = (70, then_way) ∷ [];
  state = in_block 0 [] (Terminator.Jump 0) [] ((5, 50) ∷ []) [];
}

abbrev pub visit_rows : List StateRow
visit_rows = leaves_block ∷ leaves_by_then ∷ leaves_by_else ∷ comes_back ∷ block_zero_second ∷ visited_again ∷ first_visited_again ∷ same_id_first ∷ same_id_open ∷ same_id_as_first ∷ []

-- ---- ONE STEP FOR AN INSTRUCTION, operands looked at before all else: it lacks if a value that it reads is not held.
-- A function with one block: after so many picks as it has instructions, with the words 90, 91 and so on, with these parameters,
-- each with ten times_over its number as its word, the run lacks, or has passed them all and holds and has written this.
abbrev pub words_from : ℕ → List InstrNode → List Pick
words_from w [] = []
words_from w (n ∷ ns) = (w, then_way) ∷ words_from (suc w) ns

abbrev pub lone : List InstrNode → List ℕ → State → StateRow
lone is vs s = record {
  blocks = block 0 is Terminator.Unreachable ∷ [];
  params = map (λ (v : ℕ). (v, IrType.U64)) vs;
  words = map (λ (v : ℕ). 10 * v) vs;
  picks = words_from 90 is;
  state = s;
}

abbrev pub stuck : List InstrNode → List ℕ → StateRow
stuck is vs = lone is vs lacks

abbrev pub passes : List InstrNode → List ℕ → List (ℕ × ℕ) → List ℕ → StateRow
passes is vs held written = lone is vs (in_block 0 is Terminator.Unreachable [] held written)

-- each kind with its operands and nothing else held, and without each of them; no number in it that is not an operand is looked at
abbrev pub operand_rows : List StateRow
operand_rows =
    passes (gives 9 (Instruction.Const IrType.U64 1) ∷ []) [] ((9, 90) ∷ []) [] ∷  -- const
    passes (gives 9 (add 1 2) ∷ []) (1 ∷ 2 ∷ []) ((9, 90) ∷ (1, 10) ∷ (2, 20) ∷ []) [] ∷  -- binary_both
    stuck (gives 9 (add 1 2) ∷ []) (2 ∷ []) ∷  -- binary_first
    stuck (gives 9 (add 1 2) ∷ []) (1 ∷ []) ∷  -- binary_second
    passes (gives 9 (Instruction.Load IrType.U64 1 2) ∷ []) (1 ∷ []) ((9, 90) ∷ (1, 10) ∷ []) [] ∷  -- load_held
    stuck (gives 9 (Instruction.Load IrType.U64 1 2) ∷ []) (2 ∷ []) ∷  -- load_base
    passes (does (Instruction.Store 1 2 3) ∷ []) (1 ∷ 3 ∷ []) ((1, 10) ∷ (3, 30) ∷ []) [] ∷  -- store_held
    stuck (does (Instruction.Store 1 2 3) ∷ []) (2 ∷ 3 ∷ []) ∷  -- store_base
    stuck (does (Instruction.Store 1 2 3) ∷ []) (1 ∷ 2 ∷ []) ∷  -- store_value
    passes (gives 9 (Instruction.StateRead IrType.U64 1) ∷ []) [] ((9, 90) ∷ []) [] ∷  -- state_read
    passes (does (Instruction.StateWrite 1 2) ∷ []) (2 ∷ []) ((2, 20) ∷ []) [] ∷  -- state_write_held
    stuck (does (Instruction.StateWrite 1 2) ∷ []) (1 ∷ []) ∷  -- state_write_value
    passes (does (Instruction.WriteLocal 1 2) ∷ []) (2 ∷ []) ((2, 20) ∷ []) (1 ∷ []) ∷  -- writes_local
    stuck (does (Instruction.WriteLocal 1 2) ∷ []) (1 ∷ []) ∷  -- write_local_value
    passes (gives 9 (Instruction.Call 1 (2 ∷ 3 ∷ 4 ∷ []) IrType.U64) ∷ []) (2 ∷ 3 ∷ 4 ∷ []) ((9, 90) ∷ (2, 20) ∷ (3, 30) ∷ (4, 40) ∷ []) [] ∷  -- call_all
    passes (gives 9 (Instruction.Call 1 [] IrType.U64) ∷ []) [] ((9, 90) ∷ []) [] ∷  -- call_nothing
    stuck (gives 9 (Instruction.Call 1 (2 ∷ 3 ∷ 4 ∷ []) IrType.U64) ∷ []) (1 ∷ 3 ∷ 4 ∷ []) ∷  -- call_first
    stuck (gives 9 (Instruction.Call 1 (2 ∷ 3 ∷ 4 ∷ []) IrType.U64) ∷ []) (1 ∷ 2 ∷ 4 ∷ []) ∷  -- call_middle
    stuck (gives 9 (Instruction.Call 1 (2 ∷ 3 ∷ 4 ∷ []) IrType.U64) ∷ []) (1 ∷ 2 ∷ 3 ∷ []) ∷  -- call_last
    passes (does (Instruction.Assert 1) ∷ []) (1 ∷ []) ((1, 10) ∷ []) [] ∷  -- assert_held
    stuck (does (Instruction.Assert 1) ∷ []) (2 ∷ []) ∷  -- assert_condition
    passes (gives 9 (Instruction.Poseidon 1 2) ∷ []) (1 ∷ 2 ∷ []) ((9, 90) ∷ (1, 10) ∷ (2, 20) ∷ []) [] ∷  -- poseidon_both
    stuck (gives 9 (Instruction.Poseidon 1 2) ∷ []) (2 ∷ []) ∷  -- poseidon_first
    stuck (gives 9 (Instruction.Poseidon 1 2) ∷ []) (1 ∷ []) ∷  -- poseidon_second
    passes (does (Instruction.Emit 1 (2 ∷ 3 ∷ 4 ∷ [])) ∷ []) (2 ∷ 3 ∷ 4 ∷ []) ((2, 20) ∷ (3, 30) ∷ (4, 40) ∷ []) [] ∷  -- emit_all
    passes (does (Instruction.Emit 1 []) ∷ []) [] [] [] ∷  -- emit_nothing
    stuck (does (Instruction.Emit 1 (2 ∷ 3 ∷ 4 ∷ [])) ∷ []) (1 ∷ 3 ∷ 4 ∷ []) ∷  -- emit_first
    stuck (does (Instruction.Emit 1 (2 ∷ 3 ∷ 4 ∷ [])) ∷ []) (1 ∷ 2 ∷ 4 ∷ []) ∷  -- emit_middle
    stuck (does (Instruction.Emit 1 (2 ∷ 3 ∷ 4 ∷ [])) ∷ []) (1 ∷ 2 ∷ 3 ∷ []) ∷  -- emit_last
    passes (gives 9 (Instruction.ContextRead 1) ∷ []) [] ((9, 90) ∷ []) [] ∷ []  -- context_read

-- a local: read only once it is written, and it alone; a value of its number is another thing
abbrev pub local_rows : List StateRow
local_rows =
    stuck (gives 9 (Instruction.ReadLocal 1 IrType.U64) ∷ []) (1 ∷ []) ∷  -- not_written
    stuck (gives 9 (Instruction.ReadLocal 0 IrType.U64) ∷ []) (0 ∷ 1 ∷ []) ∷  -- of_parameter
    stuck (gives 9 (Instruction.ReadLocal 65535 IrType.U64) ∷ []) [] ∷  -- of_absent
    passes (does (Instruction.WriteLocal 1 2) ∷ gives 9 (Instruction.ReadLocal 1 IrType.U64) ∷ []) (2 ∷ []) ((9, 91) ∷ (2, 20) ∷ []) (1 ∷ []) ∷  -- written_before
    stuck (does (Instruction.WriteLocal 2 2) ∷ gives 9 (Instruction.ReadLocal 1 IrType.U64) ∷ []) (2 ∷ []) ∷  -- next_written
    stuck (does (Instruction.WriteLocal 0 2) ∷ gives 9 (Instruction.ReadLocal 1 IrType.U64) ∷ []) (2 ∷ []) ∷  -- last_written
    stuck (gives 9 (Instruction.ReadLocal 1 IrType.U64) ∷ does (Instruction.WriteLocal 1 2) ∷ []) (2 ∷ []) ∷  -- written_later
    passes (does (Instruction.WriteLocal 1 2) ∷ does (Instruction.WriteLocal 0 2) ∷ gives 9 (Instruction.ReadLocal 1 IrType.U64) ∷ []) (2 ∷ []) ((9, 92) ∷ (2, 20) ∷ []) (0 ∷ 1 ∷ []) ∷  -- written_first
    passes (does (Instruction.WriteLocal 1 2) ∷ does (Instruction.WriteLocal 0 2) ∷ gives 9 (Instruction.ReadLocal 0 IrType.U64) ∷ []) (2 ∷ []) ((9, 92) ∷ (2, 20) ∷ []) (0 ∷ 1 ∷ []) ∷  -- written_second
    passes (does (Instruction.WriteLocal 8 2) ∷ gives 9 (Instruction.ReadLocal 8 IrType.U64) ∷ []) (2 ∷ []) ((9, 91) ∷ (2, 20) ∷ []) (8 ∷ []) ∷ []  -- not_declared

-- an instruction's result, if any, is held with the pick's word, once its operands were looked at; an Assert passes
abbrev pub result_rows : List StateRow
result_rows =
    passes (gives 8 seven ∷ gives 9 seven ∷ []) [] ((9, 91) ∷ (8, 90) ∷ []) [] ∷  -- two_results
    passes (gives 8 seven ∷ gives 8 seven ∷ []) [] ((8, 91) ∷ (8, 90) ∷ []) [] ∷  -- result_again
    passes (gives 1 seven ∷ []) (1 ∷ []) ((1, 90) ∷ (1, 10) ∷ []) [] ∷  -- result_of_parameter
    passes (does seven ∷ []) (1 ∷ []) ((1, 10) ∷ []) [] ∷  -- no_result
    passes (gives 9 (Instruction.Assert 1) ∷ []) (1 ∷ []) ((9, 90) ∷ (1, 10) ∷ []) [] ∷  -- result_of_assert
    passes (gives 9 (Instruction.Call 1 [] IrType.Void) ∷ []) [] ((9, 90) ∷ []) [] ∷  -- result_of_void
    record { blocks = block 0 (gives 9 (Instruction.Assert 5) ∷ []) Terminator.Unreachable ∷ []; params = five ∷ []; words = 0 ∷ []; picks = (0, else_way) ∷ []; state = in_block 0 (gives 9 (Instruction.Assert 5) ∷ []) Terminator.Unreachable [] ((9, 0) ∷ (5, 0) ∷ []) [] } ∷  -- assert_of_zero
    passes (gives 8 seven ∷ gives 9 (add 8 8) ∷ []) [] ((9, 91) ∷ (8, 90) ∷ []) [] ∷  -- result_read
    passes (gives 8 seven ∷ gives 9 seven ∷ does (Instruction.Assert 8) ∷ []) [] ((9, 91) ∷ (8, 90) ∷ []) [] ∷  -- older_result_read
    stuck (gives 9 (add 9 1) ∷ []) (1 ∷ []) ∷  -- reads_own_result
    stuck (gives 9 (add 0 1) ∷ []) (1 ∷ []) ∷  -- reads_zero
    stuck (gives 9 (add 65535 1) ∷ []) (1 ∷ []) ∷  -- reads_absent
    stuck (does (Instruction.Assert 9) ∷ gives 9 seven ∷ []) [] ∷ []  -- read_before_made

-- ---- WHAT A RUN LACKS, over blocks
-- a value of a block that no run enters
abbrev never_produced : StateRow
never_produced = record { blocks = block 0 [] (Terminator.Return (some 7)) ∷ block 1 (gives 7 seven ∷ []) (Terminator.Return (some 7)) ∷ []; params = []; words = []; picks = (70, then_way) ∷ []; state = lacks }

-- a value of another block, and of the same
abbrev of_another_block : StateRow
of_another_block = record {
  blocks = block 0 (gives 7 seven ∷ []) (Terminator.Jump 1) ∷ block 1 [] (Terminator.Return (some 7)) ∷ [];
  params = [];
  words = [];
  picks = (70, then_way) ∷ (71, then_way) ∷ (72, then_way) ∷ [];
  state = lacks;
}

abbrev of_this_block : StateRow
of_this_block = record {
  blocks = block 0 [] (Terminator.Jump 1) ∷ block 1 (gives 7 seven ∷ []) (Terminator.Return (some 7)) ∷ [];
  params = [];
  words = [];
  picks = (70, then_way) ∷ (71, then_way) ∷ (72, then_way) ∷ [];
  state = ended;
}

-- a parameter outside the first block; in it, and after coming back to it
abbrev parameter_outside : StateRow
parameter_outside = record {
  blocks = block 0 [] (Terminator.Jump 1) ∷ block 1 (does (Instruction.Assert 5) ∷ []) (Terminator.Return none) ∷ [];
  params = five ∷ [];
  words = 50 ∷ [];
  picks = (70, then_way) ∷ (71, then_way) ∷ [];
  state = lacks;
}

abbrev parameter_inside : StateRow
parameter_inside = record {
  blocks = block 4 (does (Instruction.Assert 6) ∷ []) (Terminator.Jump 1) ∷ block 1 [] (Terminator.Jump 4) ∷ [];
  params = five ∷ six ∷ [];
  words = 50 ∷ 60 ∷ [];
  picks = (70, then_way) ∷ [];
  state = in_block 4 (does (Instruction.Assert 6) ∷ []) (Terminator.Jump 1) [] ((5, 50) ∷ (6, 60) ∷ []) [];
}

abbrev parameter_again : StateRow
parameter_again = record {
  blocks = block 4 (does (Instruction.Assert 6) ∷ []) (Terminator.Jump 1) ∷ block 1 [] (Terminator.Jump 4) ∷ [];
  params = five ∷ six ∷ [];
  words = 50 ∷ 60 ∷ [];
  picks = (70, then_way) ∷ (71, then_way) ∷ (72, then_way) ∷ (73, then_way) ∷ [];
  state = in_block 4 (does (Instruction.Assert 6) ∷ []) (Terminator.Jump 1) [] ((5, 50) ∷ (6, 60) ∷ []) [];
}

-- a local that was written before, in another block
abbrev local_of_another_block : StateRow
local_of_another_block = record {
  blocks = block 0 (does (Instruction.WriteLocal 2 5) ∷ []) (Terminator.Jump 1) ∷ block 1 (gives 7 (Instruction.ReadLocal 2 IrType.U64) ∷ []) (Terminator.Return (some 7)) ∷ [];
  params = five ∷ [];
  words = 50 ∷ [];
  picks = (70, then_way) ∷ (71, then_way) ∷ (72, then_way) ∷ [];
  state = in_block 1 (gives 7 (Instruction.ReadLocal 2 IrType.U64) ∷ []) (Terminator.Return (some 7)) [] ((7, 72) ∷ []) (2 ∷ []);
}

-- a lack after many picks: 200 times_over round, and then to a block that is not there
abbrev pub times_over : ℕ → List Pick → List Pick → List Pick
times_over zero ps rest = rest
times_over (suc n) ps rest = ps ++ times_over n ps rest

abbrev lacks_late : StateRow
lacks_late = record {
  blocks = block 0 (gives 7 seven ∷ []) (Terminator.Branch 7 0 1) ∷ [];
  params = [];
  words = [];
  picks = times_over 200 ((70, then_way) ∷ (71, then_way) ∷ []) ((72, then_way) ∷ (73, else_way) ∷ []);
  state = lacks;
}

abbrev lasts_long : StateRow
lasts_long = record {
  blocks = block 0 (gives 7 seven ∷ []) (Terminator.Branch 7 0 1) ∷ [];
  params = [];
  words = [];
  picks = times_over 200 ((70, then_way) ∷ (71, then_way) ∷ []) ((72, then_way) ∷ []);
  state = in_block 0 (gives 7 seven ∷ []) (Terminator.Branch 7 0 1) [] ((7, 72) ∷ []) [];
}

abbrev pub lack_rows : List StateRow
lack_rows = never_produced ∷ of_another_block ∷ of_this_block ∷ parameter_outside ∷ parameter_inside ∷ parameter_again ∷ local_of_another_block ∷ lacks_late ∷ lasts_long ∷ []

-- ---- TERMINATORS: one block, with the parameter 5, and block 1 beside it
abbrev pub terminated : Terminator → List Pick → State → StateRow
terminated t ps s = record { blocks = block 0 [] t ∷ ends 1 ∷ []; params = five ∷ []; words = 50 ∷ []; picks = ps; state = s }

-- the last four: after an end or a lack, picks change nothing
abbrev pub end_rows : List StateRow
end_rows =
    terminated (Terminator.Branch 1 1 1) ((70, then_way) ∷ []) lacks ∷  -- branch_then_not_held
    terminated (Terminator.Branch 1 1 1) ((70, else_way) ∷ []) lacks ∷  -- branch_else_not_held
    terminated (Terminator.Return (some 1)) ((70, then_way) ∷ []) lacks ∷  -- return_not_held
    terminated (Terminator.Return (some 5)) ((70, then_way) ∷ []) ended ∷  -- return_held
    terminated (Terminator.Return none) ((70, then_way) ∷ []) ended ∷  -- return_nothing
    terminated Terminator.Unreachable ((70, then_way) ∷ []) ended ∷  -- unreachable
    terminated (Terminator.Return none) ((70, then_way) ∷ (71, else_way) ∷ (72, then_way) ∷ []) ended ∷  -- after_return
    terminated Terminator.Unreachable ((70, then_way) ∷ (71, else_way) ∷ (72, then_way) ∷ []) ended ∷  -- after_unreachable
    terminated (Terminator.Return (some 1)) ((70, then_way) ∷ (71, else_way) ∷ (72, then_way) ∷ []) lacks ∷  -- after_lack
    terminated (Terminator.Jump 7) ((70, then_way) ∷ (71, else_way) ∷ (72, then_way) ∷ []) lacks ∷ []  -- after_no_block

-- ---- STEPS from a given state. A value of an earlier visit to the same block: a run that lacks for it in the second visit has lacked in the
-- first, where it is not held either; so the second visit is begun in the middle, with the value held.
pub record StepsRow : Type 0 where
  pub blocks : List BasicBlock
  pub params : List (ℕ × IrType)
  pub words : List ℕ
  pub from : State
  pub picks : List Pick
  pub state : State

abbrev pub StepsTo : StepsRow → Type 0
StepsTo r = of_any r.blocks r.params (λ f. steps f r.words r.picks r.from) ≡ always r.state

abbrev reads_and_makes7 : List InstrNode
reads_and_makes7 = does (Instruction.Assert 7) ∷ gives 7 seven ∷ []

-- block 1 reads 7 first and makes it then; it goes to itself or to block 0, which holds the parameter
abbrev from_block1 : List InstrNode → List Pick → State → StepsRow
from_block1 rest picks s = record {
  blocks = block 0 [] Terminator.Unreachable ∷ block 1 reads_and_makes7 (Terminator.Branch 7 1 0) ∷ [];
  params = five ∷ [];
  words = 50 ∷ [];
  from = in_block 1 reads_and_makes7 (Terminator.Branch 7 1 0) rest ((7, 70) ∷ []) (2 ∷ []);
  picks = picks;
  state = s;
}

abbrev stays : State → List Pick → StepsRow
stays s picks = record { blocks = ends 0 ∷ []; params = []; words = []; from = s; picks = picks; state = s }

abbrev pub steps_rows : List StepsRow
steps_rows =
    from_block1 [] ((71, then_way) ∷ (72, then_way) ∷ []) lacks ∷  -- of_earlier_visit
    from_block1 [] ((71, then_way) ∷ []) (in_block 1 reads_and_makes7 (Terminator.Branch 7 1 0) reads_and_makes7 [] (2 ∷ [])) ∷  -- enters_again
    from_block1 (does (Instruction.Assert 7) ∷ []) ((71, then_way) ∷ []) (in_block 1 reads_and_makes7 (Terminator.Branch 7 1 0) [] ((7, 70) ∷ []) (2 ∷ [])) ∷  -- of_this_visit
    from_block1 [] ((71, else_way) ∷ []) (in_block 0 [] Terminator.Unreachable [] ((5, 50) ∷ []) (2 ∷ [])) ∷  -- enters_first
    stays (in_block 1 [] Terminator.Unreachable [] [] []) [] ∷  -- no_pick
    stays ended ((71, then_way) ∷ (72, else_way) ∷ []) ∷  -- from_end
    stays lacks ((71, then_way) ∷ (72, else_way) ∷ []) ∷ []  -- from_lack

-- all rows, as one list, by what they show
abbrev pub state_rows : List (List StateRow)
state_rows = start_rows ∷ enter_rows ∷ visit_rows ∷ operand_rows ∷ local_rows ∷ result_rows ∷ lack_rows ∷ end_rows ∷ []

abbrev pub RowsReach : List StateRow → Type 0
RowsReach rs = All Reaches rs

abbrev pub StateRowsHold : Type 0
StateRowsHold = All RowsReach state_rows

abbrev pub StepsRowsHold : Type 0
StepsRowsHold = All StepsTo steps_rows

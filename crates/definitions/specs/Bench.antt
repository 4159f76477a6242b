-- THE BENCH (document 02, order 2, "Trying a contract on invented counts"): "run one function of an accepted program sheet". "Each step agrees with a simple
-- machine written down first": this is the machine. Words are numbers below 2^64. Assumes nothing: these are definitions.
use Rattle.std.specs.Prelude.{ℕ, zero, suc, ◌+◌, ◌-◌, ◌*◌, ◌/◌, ◌%◌, List, [], ◌∷◌, Bool, true, false, not, eqb, ltb, leb, length, set}
use Rattle.std.proofs.Math.Option.{Option, none, some}
use Rattle.std.proofs.Math.ListN.{get_elem?}
use Rattle.definitions.specs.Result.{Result, err, ok, ◌>>=◌, ◌>>◌, ok_or_else, check}
use Rattle.definitions.specs.Ast.{BinOp}
use Rattle.definitions.specs.Ir.{IrType, Instruction, binary_type, Terminator, InstrNode, BasicBlock, IrFunction, IrProgram, find}
use Rattle.definitions.specs.ProgramSheet.{read_program, first_of}
use Rattle.definitions.specs.Answers.{Refusal, refusal, padded, verify_sheet}

-- The machine is written once for any kind of words: `number` is what it computes with, `make` is a word that an instruction makes or fetches, or an argument
-- of the run, with the type that document 01's row or the parameter gives it. Where neither is asked, a word is only moved. The bench has plain words: numbers.
pub record Words (W : Type 0) : Type 0 where
  pub number : W → ℕ
  pub make : IrType → ℕ → W

abbrev pub plain_words : Words ℕ
plain_words = record { number = λ n. n; make = λ t n. n }

-- "An outcome names its cause:"
pub data BenchOutcome (W : Type 0) : Type 0 where
  returned : (word : Option W) → BenchOutcome W  -- "returned, with any word,"
  zero_divisor : BenchOutcome W  -- "zero divisor,"
  list_used_up : BenchOutcome W  -- "list used up,"
  slot_absent : BenchOutcome W  -- "slot absent,"
  seventeenth : BenchOutcome W  -- "a seventeenth open function,"
  store : BenchOutcome W  -- "a Store,"
  unreachable : BenchOutcome W  -- "an Unreachable,"
  no_start_block : BenchOutcome W  -- "no block to start in,"
  unset : BenchOutcome W  -- "something unset,"
  limit_reached : BenchOutcome W  -- "or limit reached after exactly that many steps."

-- a run stops with an outcome, or for refusal 53
pub data Stop (W : Type 0) : Type 0 where
  outcome : BenchOutcome W → Stop W
  too_little_memory : Stop W

-- ---- WORDS
-- "On the bench sums, differences and products wrap modulo 2^64,"
abbrev pub wrap : ℕ → ℕ
wrap n = n % 18446744073709551616

-- "comparisons give 1 or 0," and compare the words as numbers
abbrev pub flag : Bool → ℕ
flag true = 1
flag false = 0

-- "quotients drop the remainder,"
unfoldable pub binary_word : {W : Type 0} → BinOp → ℕ → ℕ → Result (Stop W) ℕ
binary_word BinOp.Add a b = ok (wrap (a + b))
binary_word BinOp.Sub a b = ok (wrap (a + (18446744073709551616 - b)))
binary_word BinOp.Mul a b = ok (wrap (a * b))
binary_word BinOp.Div a b = elim (eqb b 0) [ true ↦ err (outcome zero_divisor) | false ↦ ok (a / b) ]
binary_word BinOp.Eq a b = ok (flag (eqb a b))
binary_word BinOp.Neq a b = ok (flag (not (eqb a b)))
binary_word BinOp.Lt a b = ok (flag (ltb a b))
binary_word BinOp.Gt a b = ok (flag (ltb b a))
binary_word BinOp.Lte a b = ok (flag (leb a b))
binary_word BinOp.Gte a b = ok (flag (leb b a))

-- ---- WHAT IS KEPT
-- ids with their words; the newest entry of an id counts, and `none` is an id that became unset
abbrev pub Notes : Type 0 → Type 0
Notes W = List (ℕ × Option W)

abbrev pub word_at : {W : Type 0} → ℕ → Notes W → Option W
word_at k [] = none
word_at k (n ∷ ns) = elim (eqb n.0 k) [ true ↦ n.1 | false ↦ word_at k ns ]

-- A function under way. "Words last, across blocks too, until their function ends": its values and locals are kept with it. The block has its entries from
-- the next one on; there is none where the function has no block to start in.
pub record Open (W : Type 0) : Type 0 where
  pub function : IrFunction
  pub block : Option BasicBlock
  pub values : Notes W
  pub locals : Notes W

-- a function that waits for a Call, and the Call's result id
pub record Waiting (W : Type 0) : Type 0 where
  pub result : Option ℕ
  pub caller : Open W

-- the function that is run now, those that wait (the nearest first), the state words, the outside results that are left
pub record Machine (W : Type 0) : Type 0 where
  pub top : Open W
  pub callers : List (Waiting W)
  pub state : List ℕ
  pub outside : List ℕ

-- what is lent and stays: the program, "three context words", how many bytes of "working memory"
pub record Lent : Type 0 where
  pub program : IrProgram
  pub sender : ℕ
  pub nonce : ℕ
  pub block_number : ℕ
  pub memory : ℕ

-- ---- WHAT A STEP CHANGES
abbrev pub with_top : {W : Type 0} → Open W → Machine W → Machine W
with_top f m = record { top = f; callers = m.callers; state = m.state; outside = m.outside }

abbrev pub into_block : {W : Type 0} → BasicBlock → Open W → Open W
into_block b f = record { function = f.function; block = some b; values = f.values; locals = f.locals }

-- a result id, "where there is one, takes the .. word, or becomes unset without one"
abbrev pub note_result : {W : Type 0} → Option ℕ → Option W → Open W → Open W
note_result none w f = f
note_result (some v) w f = record { function = f.function; block = f.block; values = (v, w) ∷ f.values; locals = f.locals }

abbrev pub note_local : {W : Type 0} → ℕ → W → Open W → Open W
note_local l w f = record { function = f.function; block = f.block; values = f.values; locals = (l, some w) ∷ f.locals }

abbrev pub give_result : {W : Type 0} → Option ℕ → W → Machine W → Machine W
give_result r w m = with_top (note_result r (some w) m.top) m

-- ---- WHAT A STEP ASKS FOR
-- "something unset"
abbrev pub value_word : {W : Type 0} → Machine W → ℕ → Result (Stop W) W
value_word m v = ok_or_else (word_at v m.top.values) (outcome unset)

unfoldable pub value_words : {W : Type 0} → Machine W → List ℕ → Result (Stop W) (List W)
value_words m [] = ok []
value_words m (v ∷ vs) = do
  w ← value_word m v
  ws ← value_words m vs
  ok (w ∷ ws)

abbrev pub local_word : {W : Type 0} → Machine W → ℕ → Result (Stop W) W
local_word m l = ok_or_else (word_at l m.top.locals) (outcome unset)

-- "slot absent": a slot is a position among the state words; from 2^31 on its four bytes stand for a negative number
unfoldable pub state_word : {W : Type 0} → Machine W → ℕ → Result (Stop W) ℕ
state_word m slot = do
  check (ltb slot 2147483648) (outcome slot_absent)
  ok_or_else (get_elem? m.state slot) (outcome slot_absent)

-- "a list of outside results for Poseidon and Load": the next one, which is then used up
unfoldable pub take_outside : {W : Type 0} → Machine W → Result (Stop W) (ℕ × Machine W)
take_outside m = elim m.outside [
  | [] ↦ err (outcome list_used_up)
  | w ∷ ws ↦ ok (w, record { top = m.top; callers = m.callers; state = m.state; outside = ws })
]

-- "three context words", in the order in which Ir numbers them: 0 Sender, 1 Nonce, 2 BlockHeight
abbrev pub context_word : ℕ → Lent → ℕ
context_word zero lent = lent.sender
context_word (suc zero) lent = lent.nonce
context_word (suc (suc k)) lent = lent.block_number

-- ---- ENTERING A FUNCTION
-- "A Call enters the first function with its id"
abbrev pub function_with : ℕ → List IrFunction → Option IrFunction
function_with k [] = none
function_with k (f ∷ fs) = elim (eqb f.id k) [ true ↦ some f | false ↦ function_with k fs ]

-- "Missing arguments stay unset and extra ones are dropped."
abbrev pub note_arguments : {W : Type 0} → List (ℕ × IrType) → List W → Notes W
note_arguments [] ws = []
note_arguments (p ∷ ps) [] = []
note_arguments (p ∷ ps) (w ∷ ws) = (p.0, some w) ∷ note_arguments ps ws

-- it starts in its first listed block, no local written
abbrev pub opened : {W : Type 0} → IrFunction → List W → Open W
opened f ws = record { function = f; block = first_of f.blocks; values = note_arguments f.params ws; locals = [] }

-- "9 bytes for each parameter, result id and local of every open function"
abbrev pub result_ids : List InstrNode → ℕ
result_ids [] = 0
result_ids (n ∷ ns) = elim n.result [ none ↦ result_ids ns | some v ↦ suc (result_ids ns) ]

abbrev pub result_ids_in : List BasicBlock → ℕ
result_ids_in [] = 0
result_ids_in (b ∷ bs) = result_ids b.instrs + result_ids_in bs

abbrev pub bytes_for : IrFunction → ℕ
bytes_for f = 9 * (length f.params + result_ids_in f.blocks + length f.locals)

abbrev pub bytes_waiting : {W : Type 0} → List (Waiting W) → ℕ
bytes_waiting [] = 0
bytes_waiting (c ∷ cs) = bytes_for c.caller.function + bytes_waiting cs

-- 53 if that "would need more than the working memory"
abbrev pub fits_memory : Lent → ℕ → Bool
fits_memory lent n = leb n lent.memory

-- one more may be open beside the function that is run and those that wait: 16 in all
abbrev pub may_open : {W : Type 0} → List (Waiting W) → Bool
may_open cs = ltb (suc (length cs)) 16

-- "a seventeenth open function"; "53 if entering a function, not a seventeenth, would need more than the working memory"
unfoldable pub enter_function : {W : Type 0} → Lent → Machine W → Option ℕ → IrFunction → List W → Result (Stop W) (Machine W)
enter_function lent m r g ws = do
  check (may_open m.callers) (outcome seventeenth)
  check (fits_memory lent (bytes_for g + (bytes_for m.top.function + bytes_waiting m.callers))) too_little_memory
  ok (record { top = opened g ws; callers = record { result = r; caller = m.top } ∷ m.callers; state = m.state; outside = m.outside })

-- ---- ENDING A FUNCTION
-- "The Call's result id, where there is one, takes the returned word, or becomes unset without one."
unfoldable pub give_back : {W : Type 0} → Machine W → Option W → List (Waiting W) → Result (Stop W) (Machine W)
give_back m w [] = err (outcome (returned w))
give_back m w (c ∷ cs) = ok (record { top = note_result c.result w c.caller; callers = cs; state = m.state; outside = m.outside })

-- "and a jump the first block with its id". (A missing block is refused by 43 before: it would count as unset.)
unfoldable pub go_to : {W : Type 0} → Machine W → ℕ → Result (Stop W) (Machine W)
go_to m k = do
  b ← ok_or_else (find k m.top.function.blocks) (outcome unset)
  ok (with_top (into_block b m.top) m)

-- ---- ONE STEP. "what is not said here goes as in document 01's run, a step's operands first"
module _ {W : Type 0} (words : Words W) where
  -- An instruction, with its result id; the block has been moved on behind it. As in document 01 "an Assert passes", whatever its word.
  -- (A missing function is refused by 49 before: it would count as unset.)
  unfoldable pub step_instr : Lent → Machine W → Option ℕ → Instruction → Result (Stop W) (Machine W)
  step_instr lent m r (Instruction.Const t v) = ok (give_result r (words.make t v) m)
  step_instr lent m r (Instruction.Binary op t lhs rhs) = do
    a ← value_word m lhs
    b ← value_word m rhs
    n ← binary_word op (words.number a) (words.number b)
    ok (give_result r (words.make (binary_type op t) n) m)
  step_instr lent m r (Instruction.Load t base offset) = do
    value_word m base
    (n, m) ← take_outside m
    ok (give_result r (words.make t n) m)
  step_instr lent m r (Instruction.Store base offset value) = do
    value_word m base
    value_word m value
    err (outcome store)
  step_instr lent m r (Instruction.StateRead t slot) = do
    n ← state_word m slot
    ok (give_result r (words.make t n) m)
  step_instr lent m r (Instruction.StateWrite slot value) = do
    a ← value_word m value
    state_word m slot
    ok (record { top = m.top; callers = m.callers; state = set m.state slot (words.number a); outside = m.outside })
  step_instr lent m r (Instruction.ReadLocal local t) = do
    a ← local_word m local
    ok (give_result r a m)
  step_instr lent m r (Instruction.WriteLocal local value) = do
    a ← value_word m value
    ok (with_top (note_local local a m.top) m)
  step_instr lent m r (Instruction.Call function args t) = do
    ws ← value_words m args
    g ← ok_or_else (function_with function lent.program.functions) (outcome unset)
    enter_function lent m r g ws
  step_instr lent m r (Instruction.Assert condition) = do
    value_word m condition
    ok m
  step_instr lent m r (Instruction.Poseidon lhs rhs) = do
    value_word m lhs
    value_word m rhs
    (n, m) ← take_outside m
    ok (give_result r (words.make IrType.U64 n) m)
  step_instr lent m r (Instruction.Emit event args) = do
    value_words m args
    ok m
  step_instr lent m r (Instruction.ContextRead kind) = ok (give_result r (words.make IrType.U64 (context_word kind lent)) m)

  -- "and a Branch takes the then block unless the word is 0"
  unfoldable pub step_terminator : Machine W → Terminator → Result (Stop W) (Machine W)
  step_terminator m (Terminator.Jump k) = go_to m k
  step_terminator m (Terminator.Branch condition then_block else_block) = do
    a ← value_word m condition
    go_to m (elim (eqb (words.number a) 0) [ true ↦ else_block | false ↦ then_block ])
  step_terminator m (Terminator.Return none) = give_back m none m.callers
  step_terminator m (Terminator.Return (some v)) = do
    a ← value_word m v
    give_back m (some a) m.callers
  step_terminator m Terminator.Unreachable = err (outcome unreachable)

  -- the next entry of the block. (A missing terminator is refused by 44 before: it would count as unset.)
  unfoldable pub step_next : Lent → Machine W → BasicBlock → List InstrNode → Result (Stop W) (Machine W)
  step_next lent m b [] = do
    t ← ok_or_else b.terminator (outcome unset)
    step_terminator m t
  step_next lent m b (n ∷ ns) =
      step_instr lent (with_top (into_block (record { id = b.id; instrs = ns; terminator = b.terminator }) m.top) m) n.result n.instr

  -- ".. then whether a start block exists"
  unfoldable pub step_block : Lent → Machine W → Option BasicBlock → Result (Stop W) (Machine W)
  step_block lent m none = err (outcome no_start_block)
  step_block lent m (some b) = step_next lent m b b.instrs

-- ---- A RUN
-- under way, or stopped with the state words that are left: those that the steps before wrote
pub data BenchState (W : Type 0) : Type 0 where
  running : Machine W → BenchState W
  stopped : (stop : Stop W) (state : List ℕ) → BenchState W

abbrev pub after_step : {W : Type 0} → Machine W → Result (Stop W) (Machine W) → BenchState W
after_step m (ok next) = running next
after_step m (err x) = stopped x m.state

module _ {W : Type 0} (words : Words W) (lent : Lent) where
  unfoldable pub bench_step : BenchState W → BenchState W
  bench_step (running m) = after_step m (step_block words lent m m.top.block)
  bench_step (stopped x state) = stopped x state

  -- "Before each step the limit is looked at"
  unfoldable pub bench_run : (limit : ℕ) → BenchState W → BenchState W
  bench_run zero s = s
  bench_run (suc limit) s = bench_run limit (bench_step s)

  -- the run's arguments have their types from the parameters
  abbrev pub argument_words : List (ℕ × IrType) → List ℕ → List W
  argument_words [] ns = []
  argument_words (p ∷ ps) [] = []
  argument_words (p ∷ ps) (n ∷ ns) = words.make p.1 n ∷ argument_words ps ns

  -- the first function is entered before the first look at the limit
  unfoldable pub bench_start : IrFunction → (args state outside : List ℕ) → BenchState W
  bench_start f args state outside = elim (fits_memory lent (bytes_for f)) [
    | false ↦ stopped too_little_memory state
    | true ↦ running (record { top = opened f (argument_words f.params args); callers = []; state = state; outside = outside })
  ]

-- "limit reached after exactly that many steps"
abbrev pub stop_after : {W : Type 0} → BenchState W → Stop W
stop_after (running m) = outcome limit_reached
stop_after (stopped x state) = x

abbrev pub state_after : {W : Type 0} → BenchState W → List ℕ
state_after (running m) = m.state
state_after (stopped x state) = state

-- ---- THE OPERATION
-- the outcome or the refusal, and what the lent state words then hold
pub record Tried : Type 0 where
  pub answer : Result Refusal (BenchOutcome ℕ)
  pub state : List ℕ

-- "53 if entering a function, not a seventeenth, would need more than the working memory .."
abbrev pub answer_with : Stop ℕ → Result Refusal (BenchOutcome ℕ)
answer_with (outcome o) = ok o
answer_with too_little_memory = err (refusal 53 [])

-- ".. state words then hold what the steps before it wrote, and under any other refusal they keep their contents."
abbrev pub tried_with : (state : List ℕ) → Result Refusal (BenchState ℕ) → Tried
tried_with state (err r) = record { answer = err r; state = state }
tried_with state (ok s) = record { answer = answer_with (stop_after s); state = state_after s }

-- "52 if the function position is absent or the argument count differs, given first"
unfoldable pub bench_program : Lent → (position : ℕ) (args state outside : List ℕ) (limit : ℕ) → Result Refusal (BenchState ℕ)
bench_program lent position args state outside limit = do
  f ← ok_or_else (get_elem? lent.program.functions position) (refusal 52 [])
  check (eqb (length args) (length f.params)) (refusal 52 [])
  ok (bench_run plain_words lent limit (bench_start plain_words lent f args state outside))

abbrev pub lent_with : IrProgram → (sender nonce block_number memory : ℕ) → Lent
lent_with p sender nonce block_number memory = record { program = p; sender = sender; nonce = nonce; block_number = block_number; memory = memory }

-- "Lend argument words, state words, three context words, a list of outside results for Poseidon and Load, working memory and a step limit."
-- "The verifier's own refusals come before the bench's."
unfoldable pub bench_sheet : List ℕ → (position : ℕ) (args state : List ℕ) (sender nonce block_number : ℕ) (outside : List ℕ) (memory limit : ℕ) → Tried
bench_sheet s position args state sender nonce block_number outside memory limit =
    tried_with state (verify_sheet s >> bench_program (lent_with (read_program s) sender nonce block_number memory) position args state outside limit)

-- "Working memory ends as zeros.", under every answer
abbrev pub memory_after : (memory : ℕ) → List ℕ
memory_after memory = padded memory []

-- ---- THE NUMBERS THAT ARE HANDED OUT. The document fixes 52 and 53; an outcome's number is ours, and 0 stands for no outcome.
abbrev pub outcome_number : {W : Type 0} → BenchOutcome W → ℕ
outcome_number (returned (some w)) = 1
outcome_number (returned none) = 2
outcome_number zero_divisor = 3
outcome_number list_used_up = 4
outcome_number slot_absent = 5
outcome_number seventeenth = 6
outcome_number store = 7
outcome_number unreachable = 8
outcome_number no_start_block = 9
outcome_number unset = 10
outcome_number limit_reached = 11

-- the returned word, and 0 where there is none
abbrev pub outcome_word : BenchOutcome ℕ → ℕ
outcome_word (returned (some w)) = w
outcome_word (returned none) = 0
outcome_word zero_divisor = 0
outcome_word list_used_up = 0
outcome_word slot_absent = 0
outcome_word seventeenth = 0
outcome_word store = 0
outcome_word unreachable = 0
outcome_word no_start_block = 0
outcome_word unset = 0
outcome_word limit_reached = 0

-- a refusal's own number, then its details; or 0, the outcome's number and its word
abbrev pub answer_numbers : Result Refusal (BenchOutcome ℕ) → List ℕ
answer_numbers (err r) = r.number ∷ r.details
answer_numbers (ok o) = 0 ∷ outcome_number o ∷ outcome_word o ∷ []

abbrev pub bench_numbers : Tried → List ℕ
bench_numbers t = answer_numbers t.answer

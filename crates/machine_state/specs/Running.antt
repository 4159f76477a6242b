-- The compiled bench and the machine of the definitions' Bench: what it means that the code's numbers, memory and words stand for a machine. Notes keep a
-- history that memory does not, so this is a relation and no function: it fixes the outcome, the state words and every word that can still be read.
-- Untrusted helpers of contracts: no public promise cites them. Assumes nothing: these are definitions.
use Rattle.std.specs.Prelude.{ℕ, suc, ◌+◌, ◌*◌, ◌≤◌, ◌<◌, ◌≡◌, true, List, [], ◌∷◌, length, get_or, Option, None, Some, Result, Ok, Err}
use Rattle.std.proofs.Math.Option as maths
use Rattle.definitions.specs.Result as defs
use Rattle.definitions.specs.Records.{opt_from}
use Rattle.definitions.specs.Ir.{Instruction, BasicBlock, Terminator}
use Rattle.definitions.specs.Bench.{Stop, outcome, too_little_memory, returned, zero_divisor, list_used_up, slot_absent, seventeenth, store, unreachable, no_start_block, unset, Open, Waiting, Machine, Lent, bytes_for, plain_words, step_instr, step_terminator}
use Rattle.program_nodes.specs.Nodes.{instrs_in, terminator_in}
use Rattle.program_nodes.specs.declared.block.Records.{Records}
use Rattle.machine_slots.specs.Slots.{block_results, Among}
use Rattle.machine_state.specs.Owned.{instrs_write_below}
use Rattle.machine_state.specs.Frames.{frame_function, frame_ids, word_of, Fits, InCells}
use Rattle.machine_state.specs.declared.frame.Frame.{Frame}
use Rattle.machine_state.specs.declared.under_way.UnderWay.{UnderWay}
use Rattle.machine_state.specs.declared.halt.Halt.{Halt}
use Rattle.machine_state.specs.declared.halt.Halt.TheVariants as halts

-- the sheet of the function in a frame
abbrev pub frame_sheet : Frame → List ℕ
frame_sheet t = t.ids.function.program.sheet.now

-- what is left of a block of the function in the frame t
pub record BlockLeft (t : Frame) (r : Records) (b : BasicBlock) : Type 0 where
  pub instrs : b.instrs ≡ instrs_in r
  pub terminator : b.terminator ≡ terminator_in r
  pub sheet : r.sheet.now ≡ frame_sheet t
  pub among : (v : ℕ) → Among v (block_results (instrs_in r)) → Among v (frame_ids t)
  pub own : instrs_write_below (length (frame_function t).locals) (instrs_in r) ≡ true

-- .. or that it has no block to start in
abbrev pub BlockIs : Frame → Option Records → maths.Option BasicBlock → Type 0
BlockIs t None maths.none = Unit {0}
BlockIs t None (maths.some b) = ⊥
BlockIs t (Some r) maths.none = ⊥
BlockIs t (Some r) (maths.some b) = BlockLeft t r b

-- a function under way, its words in memory
pub record StandsFor (memory : List ℕ) (t : Frame) (block : Option Records) (f : Open ℕ) : Type 0 where
  pub fits : Fits (length memory) t
  pub function_is : f.function ≡ frame_function t
  pub held : InCells memory t f.values f.locals
  pub block_is : BlockIs t block f.block

-- A FUNCTION THAT WAITS is so many numbers of `frames`; what they leave out is read from the sheet again
abbrev pub waiting_width : ℕ
waiting_width = 8

-- where what is left of its block starts and ends; zeros if it has none
abbrev pub place_in : Option Records → ℕ
place_in None = 0
place_in (Some r) = r.at

abbrev pub end_in : Option Records → ℕ
end_in None = 0
end_in (Some r) = r.end

-- its record's place, its block, the numbers of its frame, its Call's result id
abbrev pub waiting_numbers : Frame → Option Records → ℕ → List ℕ
waiting_numbers t block id = t.ids.function.at ∷ place_in block ∷ end_in block ∷ t.base ∷ t.ids.count ∷ t.ids.above ∷ t.locals ∷ id ∷ []

-- they stand at p; `id` is the result id as its two bytes have it, and its frame of memory ends at `base`, where the next one starts
pub record Waits (sheet memory frames : List ℕ) (p base : ℕ) (w : Waiting ℕ) : Type 0 where
  pub frame : Frame
  pub same_sheet : frame_sheet frame ≡ sheet
  pub block : Option Records
  pub id : ℕ
  pub numbers : (i : ℕ) → i < waiting_width → get_or frames (p + i) 0 ≡ get_or (waiting_numbers frame block id) i 0
  pub caller : StandsFor memory frame block w.caller
  pub below : frame.base + bytes_for (frame_function frame) ≡ base
  pub result_is : w.result ≡ opt_from id
  pub small : id < 65536
  pub among : (v : ℕ) → w.result ≡ maths.some v → Among v (frame_ids frame)

-- those that wait, the nearest first, functions of one sheet; their frames of memory stand one behind the other, up to `base`
pub data Callers (sheet memory frames : List ℕ) : ℕ → ℕ → List (Waiting ℕ) → Type 0 where
  nobody : Callers sheet memory frames 0 0 []
  waits : {d base : ℕ} {w : Waiting ℕ} {ws : List (Waiting ℕ)} → (W : Waits sheet memory frames (waiting_width * d) base w) → Callers sheet memory frames d W.frame.base ws → Callers sheet memory frames (suc d) base (w ∷ ws)

-- at most so many wait: with the function under way, 16 are open
abbrev pub most_waiting : ℕ
most_waiting = 15

-- THE MACHINE and what the code has of it; `outside` are the outside results that are left
pub record Running (memory frames state outside : List ℕ) (t : UnderWay) (m : Machine ℕ) : Type 0 where
  pub top : StandsFor memory t.frame t.block m.top
  pub callers : Callers (frame_sheet t.frame) memory frames t.depth t.frame.base m.callers
  pub state_is : m.state ≡ state
  pub outside_is : m.outside ≡ outside
  pub shallow : t.depth ≤ most_waiting

-- the code's causes as the machine's
abbrev pub halt_of : Halt → Stop ℕ
halt_of (halts.Returned w) = outcome (returned (word_of w))
halt_of halts.ZeroDivisor = outcome zero_divisor
halt_of halts.ListUsedUp = outcome list_used_up
halt_of halts.SlotAbsent = outcome slot_absent
halt_of halts.Seventeenth = outcome seventeenth
halt_of halts.Store = outcome store
halt_of halts.Unreachable = outcome unreachable
halt_of halts.NoStartBlock = outcome no_start_block
halt_of halts.Unset = outcome unset
halt_of halts.TooLittleMemory = too_little_memory

-- a step's answer: it went, or why the run stops
abbrev pub Stepped : Type 0
Stepped = Result (Unit {0}) Halt

-- what the code's step gives is what the machine's gives
abbrev pub Gone : (memory frames state outside : List ℕ) → UnderWay → Stepped → defs.Result (Stop ℕ) (Machine ℕ) → Type 0
Gone memory frames state outside t (Ok x) (defs.ok m) = Running memory frames state outside t m
Gone memory frames state outside t (Ok x) (defs.err e) = ⊥
Gone memory frames state outside t (Err h) (defs.ok m) = ⊥
Gone memory frames state outside t (Err h) (defs.err e) = halt_of h ≡ e

-- A CHANGE OF PLACE, for every machine that the code stands for: memory stays; where the run stops, the place stays too
pub record Goes (t after : UnderWay) (r : Stepped) (next : Machine ℕ → defs.Result (Stop ℕ) (Machine ℕ)) : Type 0 where
  pub run : (memory frames state outside : List ℕ) (m : Machine ℕ) → Running memory frames state outside t m → Gone memory frames state outside after r (next m)
  pub kept : (h : Halt) → r ≡ Err h → after ≡ t

-- a terminator, over this memory
pub record Ends (memory : List ℕ) (t after : UnderWay) (i : Terminator) (r : Stepped) : Type 0 where
  pub run : (frames state outside : List ℕ) (m : Machine ℕ) → Running memory frames state outside t m → Gone memory frames state outside after r (step_terminator plain_words m i)
  pub kept : (h : Halt) → r ≡ Err h → after ≡ t

-- the function under way, by its parts
abbrev pub at : Frame → Option Records → ℕ → UnderWay
at t block depth = record { frame = t; block = block; depth = depth }

-- AN INSTRUCTION, behind which the block has been moved: it leaves the place. The code's answer is the machine's, whatever waits and whatever is lent. There are
-- `state` and `outside` before it, `words` and `rest` behind it; where the run stops, all is as before
pub record Changes (t : Frame) (before after state words outside rest : List ℕ) (o : maths.Option ℕ) (i : Instruction) (r : Stepped) : Type 0 where
  pub run : (lent : Lent) (frames : List ℕ) (block : Option Records) (depth : ℕ) (m : Machine ℕ) → Running before frames state outside (at t block depth) m
      → Gone after frames words rest (at t block depth) r (step_instr plain_words lent m o i)
  pub kept : (h : Halt) → r ≡ Err h → (after ≡ before) × (words ≡ state) × (rest ≡ outside)

-- one that changes no more than memory
abbrev pub Does : Frame → (before after : List ℕ) → maths.Option ℕ → Instruction → Stepped → Type 0
Does t before after o i r = (state outside : List ℕ) → Changes t before after state state outside outside o i r

-- one that changes state words too
abbrev pub DoesState : Frame → (before after state words : List ℕ) → maths.Option ℕ → Instruction → Stepped → Type 0
DoesState t before after state words o i r = (outside : List ℕ) → Changes t before after state words outside outside o i r

-- one that uses outside results
abbrev pub DoesOutside : Frame → (before after outside rest : List ℕ) → maths.Option ℕ → Instruction → Stepped → Type 0
DoesOutside t before after outside rest o i r = (state : List ℕ) → Changes t before after state state outside rest o i r

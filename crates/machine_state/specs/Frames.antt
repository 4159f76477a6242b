-- A function's frame of working memory, as the code's numbers have it. Untrusted helpers of contracts: no public promise cites them.
-- Assumes nothing: these are definitions.
use Rattle.std.specs.Prelude.{ℕ, ◌+◌, ◌*◌, ◌≤◌, ◌≡◌, List, length}
use Rattle.std.specs.Prelude as std
use Rattle.std.proofs.Math.Option.{Option, none, some}
use Rattle.definitions.specs.Ir.{IrFunction}
use Rattle.definitions.specs.Bench.{Notes, word_at, bytes_for}
use Rattle.ir.specs.Answers.{option_of}
use Rattle.program_nodes.specs.Nodes.{ir_of}
use Rattle.machine_memory.specs.Cells.{cell_width, cell, stored, emptied}
use Rattle.machine_slots.specs.Slots.{value_ids, Among, slot_for, one_of, slot_in}
use Rattle.machine_state.specs.declared.frame.Frame.{Frame}

-- the function of a frame, and its value ids
abbrev pub frame_function : Frame → IrFunction
frame_function t = ir_of t.ids.function

abbrev pub frame_ids : Frame → List ℕ
frame_ids t = value_ids (frame_function t)

-- the code's word, or the place of a cell, where there is one
abbrev pub word_of : std.Option ℕ → Option ℕ
word_of = option_of (λ w. w)

-- THE CELLS: one for each of its value ids, then one for each local. They lie within so many bytes of memory
abbrev pub Fits : ℕ → Frame → Type 0
Fits room t = t.base + bytes_for (frame_function t) ≤ room

-- the cell at a place ends no later than they do
abbrev pub CellWithin : Frame → ℕ → Type 0
CellWithin t p = p + cell_width ≤ t.base + bytes_for (frame_function t)

-- the place of the cell of one of its values, of the first local's, and of one of its locals
abbrev pub value_cell : Frame → ℕ → ℕ
value_cell t v = t.base + cell_width * slot_for (frame_ids t) v

abbrev pub locals_base : Frame → ℕ
locals_base t = t.base + cell_width * length (frame_ids t)

abbrev pub local_cell : Frame → ℕ → ℕ
local_cell t l = locals_base t + cell_width * l

-- the place of the cell of a slot, if there is one, the slots' cells starting at `base`; and what a cell holds, if there is one
unfoldable pub slot_place : ℕ → Option ℕ → Option ℕ
slot_place base none = none
slot_place base (some i) = some (base + cell_width * i)

unfoldable pub held_at : List ℕ → Option ℕ → Option ℕ
held_at m none = none
held_at m (some p) = cell m p

-- the place of the cell of a value, of a local, if it has one, and its word, as the memory has it
abbrev pub value_place : Frame → ℕ → Option ℕ
value_place t v = slot_place t.base (slot_in (frame_ids t) v)

abbrev pub local_place : Frame → ℕ → Option ℕ
local_place t l = slot_place (locals_base t) (one_of (length (frame_function t).locals) l)

abbrev pub value_held : List ℕ → Frame → ℕ → Option ℕ
value_held m t v = held_at m (value_place t v)

abbrev pub local_held : List ℕ → Frame → ℕ → Option ℕ
local_held m t l = held_at m (local_place t l)

-- the cells hold the words of a function, of every id whatever
pub record InCells (m : List ℕ) (t : Frame) (values locals : Notes ℕ) : Type 0 where
  pub value : (v : ℕ) → word_at v values ≡ value_held m t v
  pub local : (l : ℕ) → word_at l locals ≡ local_held m t l

-- the cells lie within memory, and a value, where there is one, is one of the ids
pub record Given (room : ℕ) (t : Frame) (o : Option ℕ) : Type 0 where
  pub fits : Fits room t
  pub among : (v : ℕ) → o ≡ some v → Among v (frame_ids t)

-- the memory after a value, where there is one, took a word; after it became unset
unfoldable pub given : List ℕ → Frame → Option ℕ → ℕ → List ℕ
given m t none w = m
given m t (some v) w = stored m (value_cell t v) w

unfoldable pub forgotten : List ℕ → Frame → Option ℕ → List ℕ
forgotten m t none = m
forgotten m t (some v) = emptied m (value_cell t v)

-- The parts of a function's record, and what is left in the output when it is laid down. Untrusted: helper definitions.
use Rattle.std.specs.Prelude.{ℕ, ◌+◌, ◌*◌, ◌≤◌, ◌<◌, ◌≡◌, List, ◌++◌, length, Option, None}
use Rattle.definitions.specs.Ast.{Function}
use Rattle.definitions.specs.Fields.{bytes}
use Rattle.definitions.specs.Ir.{IrType}
use Rattle.lower_walk.specs.Stmts.{LogCtx}
use Rattle.lower_walk.specs.Layout.{blocks_bytes, head_bytes, function_bytes}
use Rattle.lower_state.specs.State.{BlockWithin}
use Rattle.lower_layout.specs.Laid.{Laid}

-- the records of each block of a function stand in the log, which holds all
abbrev pub BlocksWithin : LogCtx → Type 0
BlocksWithin c = (k : ℕ) → k < c.next_block → BlockWithin c k

-- the blocks; the start, and how long it is
abbrev pub blocks_part : LogCtx → List ℕ
blocks_part c = blocks_bytes c.log.bytes c.starts c.stops 0 c.next_block

abbrev pub head_of : (size i : ℕ) → Function → List IrType → List ℕ
head_of size i f locals = bytes 4 size ++ (bytes 2 51 ++ head_bytes i f locals)

abbrev pub head_size : Function → (locals : ℕ) → ℕ
head_size f locals = 18 + 6 * length f.params + 4 * locals

-- a function's record is laid down, if its log did not run over
abbrev pub LaidOrLost : (i : ℕ) → Function → LogCtx → (before : List ℕ) (to : ℕ) (after : List ℕ) (r : Option ℕ) → Type 0
LaidOrLost i f c before to after r =
    (c.log.at ≤ 32768 → Laid (function_bytes i f c) before to after r) × (32768 < c.log.at → (length after ≡ length before) × (r ≡ None))

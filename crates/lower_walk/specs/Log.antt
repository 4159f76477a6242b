-- The log that lowering appends records to, in the order of the walk. It has a fixed room: once a record does not fit, all is lost,
-- and the walk goes on for its refusals. Untrusted: helper definitions, shown equal to the definitions' lowering in proofs/.
use Rattle.std.specs.Prelude.{ℕ, suc, ◌+◌, ◌%◌, List, [], ◌++◌, leb, length, take}
use Rattle.std.proofs.Math.Option.{Option, none, some}
use Rattle.definitions.specs.Ir.{IrType, Instruction, result_type, Terminator}
use Rattle.definitions.specs.Lower.{result_id}
use Rattle.definitions.specs.Records.{pick, write_tree}
use Rattle.definitions.specs.ProgramSheet.{instr_tree, term_tree}

abbrev pub room : ℕ
room = 32768

-- the next value, the place after the last record (more than the room once all is lost), and the records
pub record Log : Type 0 where
  pub value : ℕ
  pub at : ℕ
  pub bytes : List ℕ

-- bytes behind the last record
unfoldable pub append : List ℕ → Log → Log
append x c =
    pick (leb (c.at + length x) room) (record { value = c.value; at = c.at + length x; bytes = c.bytes ++ x })
    (record { value = c.value; at = suc room; bytes = [] })

-- the next value after an instruction; it is 16 bits wide, and lowering never makes so many that it matters
abbrev pub next_value : Option IrType → ℕ → ℕ
next_value none v = v
next_value (some t) v = suc v % 65536

abbrev pub counted : ℕ → Log → Log
counted v c = record { value = v; at = c.at; bytes = c.bytes }

-- `push_instr`
unfoldable pub log_instr : Instruction → Log → Log
log_instr i c = counted (next_value (result_type i) c.value) (append (write_tree (instr_tree (record { result = result_id (result_type i) c.value; instr = i }))) c)

-- `set_terminator`
unfoldable pub log_term : Terminator → Log → Log
log_term t c = append (write_tree (term_tree t)) c

-- one place stands for all that are over the room
abbrev pub capped : ℕ → ℕ
capped at = pick (leb at room) at (suc room)

-- a log in an array: what stands before `at`
abbrev pub log_of : List ℕ → (value at : ℕ) → Log
log_of l value at = record { value = value; at = capped at; bytes = pick (leb at room) (take at l) [] }

-- What the nodes keep of the check, as equations, which a value can carry. Assumes nothing: these are definitions.
use Rattle.std.specs.Prelude.{ℕ, ◌+◌, ◌≤◌, ◌<◌, ◌≡◌, List, length}
use Rattle.definitions.specs.Fields.{le}
use Rattle.definitions.specs.Grammar.{Class, Pattern, done, one, perhaps, many}
use Rattle.definitions.specs.Records.{check_records, Good}
use Rattle.program_nodes.specs.Offsets.{function_name_at, records_at}
use Rattle.sheet.specs.Passed.{record_kind, stop_of}
use Rattle.program_nodes.specs.Positions.{first_block}

-- records that follow a pattern stand from a place to an end
abbrev pub Stand : Pattern → List ℕ → (at end : ℕ) → Type 0
Stand p s at end = (check_records s at end p ≡ Good) × (end ≤ length s)

-- functions, then names, from a place to the end of the sheet; a function, by what is kept of it
abbrev pub FunctionsStand : List ℕ → (at : ℕ) → Type 0
FunctionsStand s at = check_records s at (length s) (many Class.ir_function (many Class.function_name done)) ≡ Good

abbrev pub FunctionStands : List ℕ → (at first stop name : ℕ) → Type 0
FunctionStands s at first stop name =
    FunctionsStand s at × (at < length s) × (record_kind s at ≡ 51) × (first ≡ first_block s at) × (stop ≡ stop_of s at) × (name ≡ le 2 s (at + function_name_at))

-- blocks; the records of a block; a block, by these
abbrev pub BlocksStand : List ℕ → (at end : ℕ) → Type 0
BlocksStand = Stand (many Class.basic_block done)

abbrev pub InBlockStand : List ℕ → (at end : ℕ) → Type 0
InBlockStand = Stand (many Class.instruction (perhaps Class.terminator done))

abbrev pub BlockStands : List ℕ → (at stop : ℕ) → Type 0
BlockStands s at stop = InBlockStand s (at + records_at) stop × (at + records_at ≤ stop) × (stop ≡ stop_of s at)

-- an instruction and a terminator
abbrev pub InstrStands : List ℕ → (at stop : ℕ) → Type 0
InstrStands = Stand (one Class.instruction done)

abbrev pub TermStands : List ℕ → (at stop : ℕ) → Type 0
TermStands = Stand (one Class.terminator done)

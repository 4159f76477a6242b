-- The code's types as the definitions' types, and as numbers. Assumes nothing: these are definitions.
use Rattle.std.specs.Prelude.{ℕ, ◌+◌, ◌*◌, ◌<◌, ◌≡◌}
use Rattle.definitions.specs.Fields.{bytes}
use Rattle.definitions.specs.Records.{write_type}
use Rattle.definitions.specs.Ir as defs
use Rattle.ir.specs.declared.IrType.{IrType}
use Rattle.ir.specs.declared.IrType.TheVariants.{U64, Bool, Field, Struct, Void}

abbrev pub as_type : IrType → defs.IrType
as_type U64 = defs.IrType.U64
as_type Bool = defs.IrType.BoolT
as_type Field = defs.IrType.FieldT
as_type (Struct n) = defs.IrType.Struct n.0
as_type Void = defs.IrType.Void

-- a type as the number of its four bytes: its tag, then its name
abbrev pub type_code : defs.IrType → ℕ
type_code t = defs.tag_of t + 65536 * defs.name_of t

-- r is the number of a type, and its bytes are those that the definitions write
abbrev pub Coded : IrType → ℕ → Type 0
Coded t r =
    (r ≡ type_code (as_type t)) × (bytes 4 r ≡ write_type (as_type t)) × (defs.tag_of (as_type t) < 65536) × (defs.name_of (as_type t) < 65536)

-- Signatures (the part of `sema.rs` that lowering leans on). Assumes nothing: these are definitions.
use Rattle.std.specs.Prelude.{ℕ, [], ◌∷◌}
use Rattle.std.proofs.Math.Option.{Option, none, some}
use Rattle.definitions.specs.Names.{u64, bool, field, by_name, last_named}
use Rattle.definitions.specs.Ast.{Function, Contract}
use Rattle.definitions.specs.Ir.{IrType}

-- `Type::from_str`: any other name is taken for a struct's, also `void` and the empty one
abbrev pub from_str : ℕ → IrType
from_str n = by_name n ((u64, IrType.U64) ∷ (bool, IrType.BoolT) ∷ (field, IrType.FieldT) ∷ []) (IrType.Struct n)

-- the return type that `analyze` registers for a function
abbrev pub return_type : Option ℕ → IrType
return_type none = IrType.Void
return_type (some n) = from_str n

-- the last function of a name: its position, which is its id, and the function (`functions.insert`, `function_ids.insert`)
abbrev pub function_named : Contract → ℕ → Option (ℕ × Function)
function_named K n = last_named (λ (f : Function). f.name) 0 K.functions n

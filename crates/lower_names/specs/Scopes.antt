-- The names that are held, as the code keeps them: newest last. Assumes nothing: these are definitions.
use Rattle.std.specs.Prelude.{ℕ, ◌-◌, ◌≡◌, ◌≤◌, List, map, reverse, length, take, drop, replicate}
use Rattle.definitions.specs.Ir.{IrType}
use Rattle.ir.specs.Types.{as_type}
use Rattle.ir.specs.declared.IrType as code
use Rattle.ir.specs.declared.IrType.TheVariants as type
use Rattle.ir.specs.declared.LocalId.{LocalId}
use Rattle.lower_walk.specs.Held.{HeldName, Held}
use Rattle.lower_names.specs.HeldNames.{HeldNames, held_name}
use Rattle.lower_names.specs.declared.held.HeldName as held
use Rattle.lower_names.specs.declared.held.Scopes.TheInside.{Inside}

abbrev pub held_of : held.HeldName → HeldName
held_of e = held_name e.scope e.name.0 e.local.0 (as_type e.ty)

-- newest first
abbrev pub held_in : List held.HeldName → Held
held_in l = map held_of (reverse l)

abbrev pub held_names_in : Inside → HeldNames
held_names_in s = record { held = held_in (take s.count s.names); scope = s.scope }

abbrev pub blank_name : held.HeldName
blank_name = record { name = record { 0 = 0 }; scope = 0; local = record { 0 = 0 }; ty = type.U64 }

abbrev pub blank_names : ℕ → List held.HeldName
blank_names n = replicate n blank_name

-- no name is left behind those that are held
pub record NamesFit (s : Inside) : Type 0 where
  pub count : s.count ≤ 256
  pub room : length s.names ≡ 256
  pub behind : drop s.count s.names ≡ blank_names (256 - s.count)

-- a name's local and type
abbrev pub local_of : LocalId × code.IrType → ℕ × IrType
local_of p = (p.0.0, as_type p.1)

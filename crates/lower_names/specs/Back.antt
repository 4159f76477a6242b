-- What a clause sees gives the array back, since it is blank behind the names that are held. Assumes nothing.
use Rattle.std.specs.Prelude.{◌-◌, ◌≡◌, List, [], ◌∷◌, ◌++◌, map, reverse, length, take, refl}
use Rattle.std.proofs.Common.{arith}
use Rattle.std.proofs.lemmas.List.{length-map, length-reverse, length-take-le, reverse-reverse, take-append-drop}
use Rattle.definitions.specs.Ir as defs
use Rattle.ir.specs.Types.{as_type}
use Rattle.ir.specs.declared.IrType as code
use Rattle.ir.specs.declared.IrType.TheVariants as type
use Rattle.lower_walk.specs.Held.{HeldName, Held}
use Rattle.lower_names.specs.HeldNames.{HeldNames}
use Rattle.lower_names.specs.Scopes.{held_of, held_in, held_names_in, NamesFit, blank_names}
use Rattle.lower_names.specs.declared.held.HeldName as held
use Rattle.lower_names.specs.declared.held.Scopes.TheInside.{Inside}

abbrev pub type_back : defs.IrType → code.IrType
type_back defs.IrType.U64 = type.U64
type_back defs.IrType.BoolT = type.Bool
type_back defs.IrType.FieldT = type.Field
type_back (defs.IrType.Struct n) = type.Struct (record { 0 = n })
type_back defs.IrType.Void = type.Void

abbrev pub name_back : HeldName → held.HeldName
name_back h = record { name = record { 0 = h.name }; scope = h.scope; local = record { 0 = h.local }; ty = type_back h.type }

abbrev pub list_back : Held → List held.HeldName
list_back es = reverse (map name_back es)

abbrev pub names_back : HeldNames → Inside
names_back h = record { names = list_back h.held ++ blank_names (256 - length h.held); count = length h.held; scope = h.scope }

type_again : (t : code.IrType) → type_back (as_type t) ≡ t
type_again type.U64 = refl
type_again type.Bool = refl
type_again type.Field = refl
type_again (type.Struct n) = refl
type_again type.Void = refl

names_again : (l : List held.HeldName) → map name_back (map held_of l) ≡ l
names_again [] = refl
names_again (e ∷ es) = rw (type_again e.ty, names_again es) refl

list_again : (l : List held.HeldName) → list_back (held_in l) ≡ l
list_again l = rw (names_again (reverse l), reverse-reverse l) refl

pub held_length : (l : List held.HeldName) → length (held_in l) ≡ length l
held_length l = rw (length-map, length-reverse) refl

-- as many stand in the array's front as are counted
pub taken_length : (s : Inside) → NamesFit s → length (take s.count s.names) ≡ s.count
taken_length s fit = length-take-le s.count s.names (omega (arith, fit.count, fit.room))

pub back_again : (s : Inside) → NamesFit s → names_back (held_names_in s) ≡ s
back_again s fit =
    let l = take s.count s.names in
    rw (list_again l, held_length l, taken_length s fit, ← fit.behind, take-append-drop s.count s.names) refl

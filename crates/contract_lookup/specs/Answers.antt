-- The answers of looking a name up in the words of the definitions. Assumes nothing: these are definitions.
use Rattle.std.specs.Prelude.{ℕ, zero, suc, ◌+◌, ◌/◌, ◌≡◌, List, [], ◌∷◌, Option as Maybe, None, Some}
use Rattle.std.proofs.Math.Option.{Option, none, some}
use Rattle.definitions.specs.Analyze as analyze
use Rattle.definitions.specs.Ast.{StorageField, Param, Function, Contract}
use Rattle.definitions.specs.Ir as defs
use Rattle.definitions.specs.Lower.{storage_named}
use Rattle.definitions.specs.Names.{last_named}
use Rattle.definitions.specs.Records.{Tree, node, num_at, gather}
use Rattle.definitions.specs.Sema as sema
use Rattle.ir.specs.Types.{as_type}
use Rattle.sheet.specs.Passed.{children_of}
use Rattle.contract_nodes.specs.Ready.{tree_at, top_class, RecordStands, top_depth}
use Rattle.contract_lookup.specs.declared.symbols.Found.{Found}
use Rattle.contract_lookup.specs.declared.symbols.NamedFunction.{NamedFunction}

-- what was found, without its position
abbrev pub second : {A : Type 0} → Option (ℕ × A) → Option A
second none = none
second (some p) = some p.1

-- the i-th of a list
abbrev pub nth : {A : Type 0} → List A → ℕ → Option A
nth [] i = none
nth (x ∷ xs) zero = some x
nth (x ∷ xs) (suc i) = nth xs i

-- a record of the contract: its position among those of its kind, and the record
abbrev pub found_in : List ℕ → Maybe Found → Option (ℕ × Tree)
found_in s (Some f) = some (f.position, tree_at s f.at)
found_in s None = none

-- a record of the kind k that was found stands at its place
abbrev pub StandsAt : List ℕ → ℕ → Maybe Found → Type 0
StandsAt s k (Some f) = RecordStands (top_class k) s f.at top_depth
StandsAt s k None = Unit {0}

-- A STORAGE FIELD: its bytes, and its slot by its place
abbrev pub storage_bytes : ℕ
storage_bytes = 10

abbrev pub slot_at : (place : ℕ) → ℕ
slot_at p = p / storage_bytes

-- the field at a place
abbrev pub stored_at : Maybe ℕ → Maybe Found
stored_at (Some p) = Some (record { position = slot_at p; at = p })
stored_at None = None

-- the name of a storage field, a struct or a function
abbrev pub tree_name : Tree → ℕ
tree_name (node at k v ts) = num_at 0 v

-- the records of a kind in the contract, and the last of them that has a name
abbrev pub records_of : List ℕ → (kind : ℕ) → List Tree
records_of s kind = gather kind kind (λ (t : Tree). t) (children_of s 0)

abbrev pub last_of : List ℕ → (kind name : ℕ) → Option (ℕ × Tree)
last_of s kind name = last_named tree_name 0 (records_of s kind) name

-- behind a storage field; where the fields start, if there is none
abbrev pub behind_of : Maybe ℕ → ℕ
behind_of (Some p) = p + storage_bytes
behind_of None = 8

-- b is behind the last storage field that has the name
abbrev pub BehindLast : List ℕ → (name b : ℕ) → Type 0
BehindLast s name b = (p : Maybe ℕ) × (b ≡ behind_of p) × (found_in s (stored_at p) ≡ last_of s 2 name)

abbrev position_in : Option (ℕ × StorageField) → Option ℕ
position_in none = none
position_in (some p) = some p.0

-- the slot of a storage field
unfoldable pub slot_named : Contract → ℕ → Option ℕ
slot_named K n = position_in (storage_named K n)

-- the type of the last field of a name
abbrev pub type_in : Option (ℕ × Param) → Option defs.IrType
type_in none = none
type_in (some f) = some (sema.from_str f.1.ty)

unfoldable pub field_type_named : List Param → ℕ → Option defs.IrType
field_type_named fs n = type_in (analyze.field_type fs n)

-- a function's id and the type of a call of it
abbrev pub id_in : Option (ℕ × Function) → Option (ℕ × defs.IrType)
id_in none = none
id_in (some p) = some (p.0, sema.return_type p.1.return_type)

unfoldable pub id_named : Contract → ℕ → Option (ℕ × defs.IrType)
id_named K n = id_in (sema.function_named K n)

abbrev pub id_and_type : NamedFunction → ℕ × defs.IrType
id_and_type x = (x.function.0, as_type x.ret)

-- The definitions of a function's values in their order, each with its place. Assumes nothing: these are definitions.
use Rattle.std.specs.Prelude.{ℕ, ◌+◌, Bool, List, [], ◌∷◌, ◌++◌, leb, eqb}
use Rattle.std.proofs.Math.Option.{Option, none, some}
use Rattle.definitions.specs.Ir.{IrType, Instruction, result_type}
use Rattle.definitions.specs.Records.{pick, Tree, node, Trees, tnil, tcons}
use Rattle.definitions.specs.ProgramSheet.{instr_node_of}

-- a value's definition: the place of its parameter or of its instruction's record
pub record Definition : Type 0 where
  pub place : ℕ
  pub value : ℕ
  pub type : Option IrType

abbrev pub param_definition : ℕ → ℕ × IrType → Definition
param_definition p d = record { place = p; value = d.0; type = some d.1 }

abbrev pub param_definitions : ℕ → List (ℕ × IrType) → List Definition
param_definitions p [] = []
param_definitions p (d ∷ ds) = param_definition p d ∷ param_definitions (p + 6) ds

-- an instruction defines its result, if it has one
abbrev pub instr_definition : (q v : ℕ) → Instruction → Definition
instr_definition q v i = record { place = q; value = v; type = result_type i }

abbrev pub result_definition : ℕ → Option ℕ → Instruction → List Definition
result_definition q none i = []
result_definition q (some v) i = instr_definition q v i ∷ []

abbrev pub tree_definitions : Tree → List Definition
tree_definitions (node q k vs ts) = pick (leb k 81) (result_definition q (instr_node_of (node q k vs ts)).result (instr_node_of (node q k vs ts)).instr) []

-- those of a block's records, and of blocks
unfoldable pub block_definitions : Trees → List Definition
block_definitions tnil = []
block_definitions (tcons t ts) = tree_definitions t ++ block_definitions ts

unfoldable pub blocks_definitions : Trees → List Definition
blocks_definitions tnil = []
blocks_definitions (tcons (node b k vs ks) ts) = block_definitions ks ++ blocks_definitions ts

-- the first definition of a value, and its type
unfoldable pub first_definition : ℕ → List Definition → Option Definition
first_definition v [] = none
first_definition v (d ∷ ds) = pick (eqb d.value v) (some d) (first_definition v ds)

abbrev pub type_of_definition : Option Definition → Option IrType
type_of_definition none = none
type_of_definition (some d) = d.type

abbrev pub first_type : ℕ → List Definition → Option IrType
first_type v ds = type_of_definition (first_definition v ds)

-- its place, 0 if there is none, and whether that is p
abbrev pub definition_place : Option Definition → ℕ
definition_place none = 0
definition_place (some d) = d.place

abbrev pub is_at : Option Definition → ℕ → Bool
is_at o p = eqb (definition_place o) p

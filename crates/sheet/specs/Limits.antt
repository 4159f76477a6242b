-- The two halves of `over` of refusal 4 that do not look at the depth, and the counts of the code. Assumes nothing: these are definitions.
use Rattle.std.specs.Prelude.{ℕ, ◌+◌, ◌≡◌, ◌⊎◌, Bool, false, List, leb, eqb, length}
use Rattle.definitions.specs.ContractSheet as sheets
use Rattle.definitions.specs.Records.{pick, FieldValue, items_at}
use Rattle.sheet.specs.declared.limits.Counts as code

-- a record of kind k after a storage fields, b structs and c functions
unfoldable pub too_many : ℕ → ℕ → ℕ → ℕ → Bool
too_many k a b c = pick (eqb k 2) (leb 256 a) (pick (eqb k 3) (leb 64 b) (pick (eqb k 4) (leb 64 c) false))

-- a record of kind k with fields v and m children
unfoldable pub too_wide : ℕ → List FieldValue → ℕ → Bool
too_wide k v m =
    pick (eqb k 3) (leb 65 (length (items_at 1 v))) (pick (eqb k 4) (leb 17 (length (items_at 3 v))) (pick (eqb k 19) (leb 17 m) (pick (eqb k 37) (leb 17 m) false)))

-- a record of kind k is an Emit or a Call
abbrev pub HasArguments : ℕ → Type 0
HasArguments k = (k ≡ 19) ⊎ (k ≡ 37)

-- what the code counted, all of it together, and with a record of kind k
abbrev pub counts_of : code.Counts → sheets.Counts
counts_of n = record { storage = n.storage; structs = n.structs; functions = n.functions }

abbrev pub total : sheets.Counts → ℕ
total n = n.storage + n.structs + n.functions

abbrev pub and_kind : ℕ → sheets.Counts → sheets.Counts
and_kind k n = record { storage = n.storage + pick (eqb k 2) 1 0; structs = n.structs + pick (eqb k 3) 1 0; functions = n.functions + pick (eqb k 4) 1 0 }

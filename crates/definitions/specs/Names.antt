-- Names (document 01, "Names and types") and the two ways in which rows are found by name. Assumes nothing: these are definitions.
use Rattle.std.specs.Prelude.{ℕ, suc, Bool, true, false, List, [], ◌∷◌, eqb}
use Rattle.std.proofs.Math.Option.{Option, none, some}

-- The ten reserved names. Equal numbers stand for equal strings.
abbrev pub empty : ℕ
empty = 0  -- ""

abbrev pub u64 : ℕ
u64 = 1  -- "u64"

abbrev pub bool : ℕ
bool = 2  -- "bool"

abbrev pub field : ℕ
field = 3  -- "field"

abbrev pub void : ℕ
void = 4  -- "void"

abbrev pub poseidon : ℕ
poseidon = 5  -- "poseidon"

abbrev pub verify_merkle_proof : ℕ
verify_merkle_proof = 6  -- "verify_merkle_proof"

abbrev pub msg_sender : ℕ
msg_sender = 7  -- "msg::sender"

abbrev pub msg_nonce : ℕ
msg_nonce = 8  -- "msg::nonce"

abbrev pub block_number : ℕ
block_number = 9  -- "block::number"

-- `match` on a name: the row of n, or else d
abbrev pub by_name : {A : Type 0} → ℕ → List (ℕ × A) → A → A
by_name n [] d = d
by_name n (r ∷ rs) d = elim (eqb n r.0) [ true ↦ r.1 | false ↦ by_name n rs d ]

-- what a later row gave, or else this row if its name fits
abbrev pub or_this : {A : Type 0} → Option A → Bool → A → Option A
or_this (some k) t a = some k
or_this none true a = some a
or_this none false a = none

-- `get` of a `HashMap` into which the rows were inserted in order: the last row of a name serves. Given with its position.
abbrev pub last_named : {A : Type 0} → (A → ℕ) → ℕ → List A → ℕ → Option (ℕ × A)
last_named name i [] n = none
last_named name i (r ∷ rs) n = or_this (last_named name (suc i) rs n) (eqb (name r) n) (i, r)

-- `position`: that of the first row of a name
abbrev pub first_named : {A : Type 0} → (A → ℕ) → ℕ → List A → ℕ → Option ℕ
first_named name i [] n = none
first_named name i (r ∷ rs) n = elim (eqb (name r) n) [ true ↦ some i | false ↦ first_named name (suc i) rs n ]

-- The places of the contract's structs or of its functions, as the code keeps them, and the last of a name. Untrusted: helper definitions.
use Rattle.std.specs.Prelude.{ℕ, ◌+◌, ◌≤◌, ◌<◌, ◌≡◌, List, map, length, get_or, Option, None, Some}
use Rattle.std.proofs.Math.Option.{none, some}
use Rattle.definitions.specs.Fields.{le}
use Rattle.definitions.specs.Records.{Tree, node}
use Rattle.contract_nodes.specs.Ready.{tree_at, top_class, RecordStands, top_depth}
use Rattle.contract_lookup.specs.Answers.{tree_name, records_of, last_of}

-- a record of the kind stands at p, and its name at p + 6
abbrev pub Named : (s : List ℕ) (kind p : ℕ) → Type 0
Named s kind p = RecordStands (top_class kind) s p top_depth × (p + 8 ≤ length s) × (tree_name (tree_at s p) ≡ le 2 s (p + 6))

-- the records at the places
abbrev pub placed : (s places : List ℕ) → List Tree
placed s places = map (tree_at s) places

-- where a record was read
abbrev pub place_of : Tree → ℕ
place_of (node at k v ts) = at

-- the places are those of all records of the kind, in order
abbrev pub Listed : (s : List ℕ) (kind : ℕ) (places : List ℕ) → Type 0
Listed s kind places = (length places ≤ 64) × (places ≡ map place_of (records_of s kind)) × ((i : ℕ) → i < length places → Named s kind (get_or places i 0))

-- p is the place of the last record of the kind that has the name, if one has
abbrev pub LastAt : (s : List ℕ) (kind name : ℕ) → Option ℕ → Type 0
LastAt s kind name None = last_of s kind name ≡ none
LastAt s kind name (Some p) = (i : ℕ) × (last_of s kind name ≡ some (i, tree_at s p)) × RecordStands (top_class kind) s p top_depth

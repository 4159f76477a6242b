-- The bytes of a record that the log gets, and that it got them. Untrusted: helper definitions, shown equal to `write_tree` of the
-- record's tree.
use Rattle.std.specs.Prelude.{ℕ, ◌+◌, ◌*◌, ◌≤◌, ◌≡◌, List, ◌++◌, map, length, Option, None, Some, IfSome}
use Rattle.std.proofs.Math.Option as maths
use Rattle.std.proofs.lemmas.List.Edits.{sets}
use Rattle.definitions.specs.Fields.{bytes}
use Rattle.definitions.specs.Fine.{fields_start}
use Rattle.definitions.specs.Grammar.{origin_width}
use Rattle.definitions.specs.Records.{small, write_items}
use Rattle.ir.specs.declared.ValueId.{ValueId}
use Rattle.ir.specs.Answers.{option_of}
use Rattle.lower_walk.specs.Log.{room, append, log_of}
use Rattle.lower_state.specs.declared.part.Part.{Part}

-- how many bytes, and of what number
abbrev pub part_in : Part → ℕ × ℕ
part_in p = (p.width, p.number)

abbrev pub no_part : ℕ × ℕ
no_part = (0, 0)

-- what a record's fields start with: an id, or what stands for none
abbrev pub id_or : maths.Option ℕ → ℕ
id_or maths.none = 65535
id_or (maths.some n) = n

abbrev pub first_number : Option ValueId → ℕ
first_number v = id_or (option_of (λ v. v.0) v)

-- ids in two bytes each
abbrev pub id_bytes : List ℕ → List ℕ
id_bytes ids = write_items (map small ids)

-- the numbers of ids
abbrev pub ids_of : List ValueId → List ℕ
ids_of ids = map (λ (v : ValueId). v.0) ids

-- size, kind, the two bytes that the fields start with, three parts, and ids
unfoldable pub record_bytes : (kind first : ℕ) (a b c : ℕ × ℕ) (ids : List ℕ) → List ℕ
record_bytes kind first a b c ids =
    bytes 4 (fields_start + 2 + a.0 + b.0 + c.0 + 2 * length ids) ++ bytes 2 kind ++ bytes origin_width 0 ++ bytes 2 first ++ bytes a.0 a.1 ++ bytes b.0 b.1 ++ bytes c.0 c.1 ++ id_bytes ids

-- the log's end as a number: more than the room once all is lost
abbrev pub log_end : Option ℕ → ℕ
log_end None = 32769
log_end (Some n) = n

-- x was written at `to`, and r is the place after it
pub record Put (x before : List ℕ) (to : ℕ) (after : List ℕ) (r : ℕ) : Type 0 where
  pub is : after ≡ sets before to x
  pub past : r ≡ to + length x

-- from l, with the log's end at `at`, to m, with its end at r, the bytes x were appended
pub record Added (l : List ℕ) (at : ℕ) (x m : List ℕ) (r : Option ℕ) : Type 0 where
  pub is : (value : ℕ) → log_of m value (log_end r) ≡ append x (log_of l value at)
  pub fits : IfSome r (λ n. n ≤ room)

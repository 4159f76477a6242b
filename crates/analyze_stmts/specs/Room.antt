-- There is room for the names of a sheet: a name takes 16 bytes of it and more, and a function has at most 16 parameters. Assumes nothing: these are
-- definitions.
use Rattle.std.specs.Prelude.{ℕ, ◌+◌, ◌*◌, ◌≤◌, ◌≡◌, List, ◌++◌, length}
use Rattle.definitions.specs.Analyze.{Env}
use Rattle.analyze_env.specs.Names.{Names}

-- there are bindings for all names of a sheet
abbrev pub RoomForAll : List ℕ → Names → Type 0
RoomForAll s env = length s + 256 ≤ 16 * env.room

-- so many names can be known where `at` bytes are passed
abbrev pub FewAt : ℕ → Names → Type 0
FewAt at env = 16 * length env.names ≤ at + 256

abbrev pub Room : List ℕ → Names → (at : ℕ) → Type 0
Room s env at = RoomForAll s env × FewAt at env

-- where `at` bytes are passed, names have become known, and those that were known are known as they were
pub record GrownTo (old new : Names) (at : ℕ) : Type 0 where
  pub more : Env
  pub is : new.names ≡ more ++ old.names
  pub few : FewAt at new
  pub room : new.room ≡ old.room

-- What a contract sees of the names that are known. Assumes nothing: these are definitions.
use Rattle.std.specs.Prelude.{ℕ, ◌-◌, length, drop}
use Rattle.definitions.specs.Analyze as analyze

-- the names with their types, newest first, and for how many there is room
pub record Names : Type 0 where
  pub names : analyze.Env
  pub room : ℕ

-- one name more
abbrev pub named : ℕ → analyze.Ty → Names → Names
named n t e = record { names = analyze.insert n t e.names; room = e.room }

-- the oldest `mark` names
abbrev pub truncated : ℕ → Names → Names
truncated mark e = record { names = drop (length e.names - mark) e.names; room = e.room }

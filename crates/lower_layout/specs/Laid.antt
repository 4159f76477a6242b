-- What laying a part of the program sheet down leaves in the output. Untrusted: helper definitions.
use Rattle.std.specs.Prelude.{ℕ, ◌+◌, ◌≤◌, ◌<◌, ◌≡◌, List, leb, length, Option, None, Some}
use Rattle.std.proofs.lemmas.List.Edits.{sets}
use Rattle.definitions.specs.Records.{pick}

-- how much of an output of n bytes may be written
abbrev pub room_of : ℕ → ℕ
room_of n = pick (leb n 32768) n 32768

-- the place behind so many bytes from `to` on, if they may be written to an output of n bytes
abbrev pub behind : (n to size : ℕ) → Option ℕ
behind n to size = pick (leb (to + size) (room_of n)) (Some (to + size)) None

-- x was written at `to`, and r is the place after it; None, if it does not fit
pub record Laid (x before : List ℕ) (to : ℕ) (after : List ℕ) (r : Option ℕ) : Type 0 where
  pub same_length : length after ≡ length before
  pub fits : to + length x ≤ room_of (length before) → (after ≡ sets before to x) × (r ≡ Some (to + length x))
  pub over : room_of (length before) < to + length x → r ≡ None

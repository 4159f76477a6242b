-- A line at the start of a text. Assumes nothing: these are definitions.
use Rattle.std.specs.Prelude.{ℕ, ◌≤◌, ◌≡◌, List, length, take}
use Rattle.definitions.specs.Answers.{padded}

-- the first r bytes are the line, and there are 128 of them at most
pub record Begins (line before after : List ℕ) (r : ℕ) : Type 0 where
  pub front : take r after ≡ line
  pub same_length : length after ≡ length before
  pub short : r ≤ 128

-- `&text[..r]` is in bounds and has r bytes. The second part follows from the first, and spares a caller an answer, as in `IsPrefixLen` of the kit's io.
abbrev pub Prefix : ℕ → List ℕ → Type 0
Prefix r text = (r ≤ length text) × (r ≡ length (take r text))

-- a text of n bytes is the line with zeros behind it, and r is how many bytes the line has
pub record Lined (n : ℕ) (line text : List ℕ) (r : ℕ) : Type 0 where
  pub is : text ≡ padded n line
  pub size : r ≡ length line
  pub prefix : Prefix r text
  pub same_length : length text ≡ n

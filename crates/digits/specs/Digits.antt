-- Digits that were put into a list. Assumes nothing: this is a definition.
use Rattle.std.specs.Prelude.{ℕ, ◌+◌, ◌≤◌, ◌≡◌, List, ◌++◌, length, take, drop}
use Rattle.definitions.specs.Lines.{digits_within}

-- the last `most` digits of v stand from `at` to r, and nothing else changed
pub record DigitsPut (most v : ℕ) (before : List ℕ) (at : ℕ) (after : List ℕ) (r : ℕ) : Type 0 where
  pub front : take r after ≡ take at before ++ digits_within most v
  pub behind : drop r after ≡ drop r before
  pub same_length : length after ≡ length before
  pub low : at ≤ r
  pub high : r ≤ at + most

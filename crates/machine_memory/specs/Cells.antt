-- Cells of working memory: a word, and whether it is set. Untrusted helpers of contracts: no public promise cites them.
-- Assumes nothing: these are definitions.
use Rattle.std.specs.Prelude.{ℕ, ◌+◌, List, eqb, get_or, set, replicate}
use Rattle.std.proofs.Math.Option.{Option, none, some}
use Rattle.std.proofs.lemmas.List.Edits.{sets}
use Rattle.definitions.specs.Fields.{le, bytes}
use Rattle.definitions.specs.Records.{pick}

-- the bytes of a word, behind which the mark stands, and of a cell
abbrev pub word_width : ℕ
word_width = 8

abbrev pub cell_width : ℕ
cell_width = word_width + 1

-- what the cell at a place holds
unfoldable pub cell : List ℕ → ℕ → Option ℕ
cell m p = pick (eqb (get_or m (p + word_width) 0) 0) none (some (le word_width m p))

-- the memory with a word stored in the cell at a place; with that cell unset; with n zeros from a place on
unfoldable pub stored : List ℕ → ℕ → ℕ → List ℕ
stored m p w = set (sets m p (bytes word_width w)) (p + word_width) 1

unfoldable pub emptied : List ℕ → ℕ → List ℕ
emptied m p = set m (p + word_width) 0

unfoldable pub cleared : List ℕ → ℕ → ℕ → List ℕ
cleared m p n = sets m p (replicate n 0)

-- Lines of some answers of lowering, computed. Assumes nothing.
use mathlib.Core.Path.{◌≡◌, refl}
use mathlib.Core.List.{[], ◌∷◌}
use Rattle.definitions.specs.Result.{err}
use Rattle.definitions.specs.Answers.{refusal}
use Rattle.definitions.specs.Lines.{digits_within, spaced, line_of, hexed, lowered_line}
use Rattle.definitions.specs.Rows.{P1}

-- P1: `OK 06 00 00 00 32 00` and a line feed
six_bytes : lowered_line P1.lowered ≡ 79 ∷ 75 ∷ 32 ∷ 48 ∷ 54 ∷ 32 ∷ 48 ∷ 48 ∷ 32 ∷ 48 ∷ 48 ∷ 32 ∷ 48 ∷ 48 ∷ 32 ∷ 51 ∷ 50 ∷ 32 ∷ 48 ∷ 48 ∷ 10 ∷ []
unfolding hexed
six_bytes = refl

-- `10 20` and a line feed
refused : lowered_line (err (refusal 10 (20 ∷ []))) ≡ 49 ∷ 48 ∷ 32 ∷ 50 ∷ 48 ∷ 10 ∷ []
unfolding digits_within spaced line_of
refused = refl

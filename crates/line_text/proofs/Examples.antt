-- Lines of some numbers, computed. Assumes nothing.
use mathlib.Core.Path.{◌≡◌, refl}
use mathlib.Core.List.{[], ◌∷◌}
use Rattle.definitions.specs.Lines.{digits_within, decimal, spaced, line_of, hexed}

-- `0`, `65535`, `18446744073709551615`
zero_there : decimal 0 ≡ 48 ∷ []
unfolding digits_within
zero_there = refl

five_digits : decimal 65535 ≡ 54 ∷ 53 ∷ 53 ∷ 51 ∷ 53 ∷ []
unfolding digits_within
five_digits = refl

twenty_digits : decimal 18446744073709551615 ≡ 49 ∷ 56 ∷ 52 ∷ 52 ∷ 54 ∷ 55 ∷ 52 ∷ 52 ∷ 48 ∷ 55 ∷ 51 ∷ 55 ∷ 48 ∷ 57 ∷ 53 ∷ 53 ∷ 49 ∷ 54 ∷ 49 ∷ 53 ∷ []
unfolding digits_within
twenty_digits = refl

-- `40 17` and a line feed
two_numbers : line_of (40 ∷ 17 ∷ []) ≡ 52 ∷ 48 ∷ 32 ∷ 49 ∷ 55 ∷ 10 ∷ []
unfolding digits_within spaced line_of
two_numbers = refl

-- ` FF A0`
letters : hexed (255 ∷ 160 ∷ []) ≡ 32 ∷ 70 ∷ 70 ∷ 32 ∷ 65 ∷ 48 ∷ []
unfolding hexed
letters = refl

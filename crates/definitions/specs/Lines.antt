-- An answer as one line of text, in ASCII: `OK`, and behind it the bytes of a sheet that was written, or the numbers in decimal, separated by
-- single spaces.
-- Assumes nothing: these are definitions.
use Rattle.std.specs.Prelude.{ℕ, zero, suc, ◌+◌, ◌/◌, ◌%◌, cond, List, [], ◌∷◌, ◌++◌, ltb}
use Rattle.definitions.specs.Result.{err, ok}
use Rattle.definitions.specs.Answers.{Answer}

-- the code of a digit: `0` is 48
abbrev pub digit : ℕ → ℕ
digit d = 48 + d

-- the decimal digits of n, the most significant first: all of them, with no zero in front (0 is one digit), if n has k digits at most;
-- of a longer number the last k, which may begin with zeros
unfoldable pub digits_within : (k : ℕ) → ℕ → List ℕ
digits_within zero n = []
digits_within (suc k) n = cond (ltb n 10) (digit n ∷ []) (digits_within k (n / 10) ++ (digit (n % 10) ∷ []))

-- a number of 64 bits has 20 digits at most
abbrev pub decimal : ℕ → List ℕ
decimal n = digits_within 20 n

-- each number behind a space (32), and a line feed (10) at the end
unfoldable pub spaced : List ℕ → List ℕ
spaced [] = 10 ∷ []
spaced (n ∷ ns) = 32 ∷ (decimal n ++ spaced ns)

-- acceptance, which has no numbers, is `OK` (79, 75)
unfoldable pub line_of : List ℕ → List ℕ
line_of [] = 79 ∷ 75 ∷ 10 ∷ []
line_of (n ∷ ns) = decimal n ++ spaced ns

-- the code of a hexadecimal digit: `0` is 48, `A` is 65
abbrev pub hex_digit : ℕ → ℕ
hex_digit d = cond (ltb d 10) (48 + d) (55 + d)

-- each byte as a space (32) and two digits
unfoldable pub hexed : List ℕ → List ℕ
hexed [] = []
hexed (b ∷ bs) = 32 ∷ hex_digit (b / 16) ∷ hex_digit (b % 16) ∷ hexed bs

-- what lowering prints: `OK` (79, 75), the sheet's bytes and a line feed (10), or the refusal's numbers
abbrev pub lowered_line : Answer → List ℕ
lowered_line (ok sheet) = 79 ∷ 75 ∷ (hexed sheet ++ (10 ∷ []))
lowered_line (err r) = line_of (r.number ∷ r.details)

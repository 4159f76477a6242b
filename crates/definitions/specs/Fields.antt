-- Numbers in bytes, little-endian, of any width (document 01, "Names and types"). Assumes nothing: these are definitions.
use Rattle.std.specs.Prelude.{ℕ, zero, suc, ◌+◌, ◌*◌, ◌/◌, ◌%◌, ◌<◌, List, [], ◌∷◌, get_or}

-- the number in the n bytes of s from `at` on
unfoldable pub le : ℕ → List ℕ → ℕ → ℕ
le zero s at = 0
le (suc n) s at = get_or s at 0 + 256 * le n s (at + 1)

-- the n bytes of v
unfoldable pub bytes : ℕ → ℕ → List ℕ
bytes zero v = []
bytes (suc n) v = (v % 256) ∷ bytes n (v / 256)

-- a list of bytes
pub record Bytes (s : List ℕ) : Type 0 where
  pub each : (i : ℕ) → get_or s i 0 < 256

-- A property of every member of a list. Assumes nothing: these are definitions.
use Rattle.std.specs.Prelude.{List, [], ◌∷◌}

pub data All {A : Type 0} (P : A → Type 0) : List A → Type 0 where
  anil : All P []
  acons : {a : A} {l : List A} → P a → All P l → All P (a ∷ l)

-- A property of every member of a list from a proof for each, as plain arguments in the list's order. Assumes nothing.
use mathlib.Core.List.{List, [], ◌∷◌}
use Rattle.definitions.specs.All.{All, anil, acons}

-- `P a₁ → P a₂ → .. → G`
abbrev pub Each : {A : Type 0} → (A → Type 0) → List A → Type 0 → Type 0
Each P [] G = G
Each P (a ∷ l) G = P a → Each P l G

each : {A : Type 0} (P : A → Type 0) (l : List A) (G : Type 0) → (All P l → G) → Each P l G
each P [] G k = k anil
each P (a ∷ l) G k = λ p. each P l G (λ q. k (acons p q))

pub all_of : {A : Type 0} (P : A → Type 0) (l : List A) → Each P l (All P l)
all_of P l = each P l (All P l) (λ h. h)

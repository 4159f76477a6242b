-- Numbers with zeros behind them are known from the numbers alone. It stands in specs/, since the model of `Numbers` cites it and code cites no proof. Assumes nothing.
use Rattle.std.specs.Prelude.{ℕ, zero, suc, ◌≤◌, ◌≡◌, List, [], ◌∷◌, length, take}
use Rattle.std.proofs.Common.{refl, ap, arith, length-take}
use Rattle.definitions.specs.Answers.{padded}

length-padded : (n : ℕ) (l : List ℕ) → length (padded n l) ≡ n
length-padded zero l = refl
length-padded (suc n) [] = ap suc (length-padded n [])
length-padded (suc n) (x ∷ l) = ap suc (length-padded n l)

pub restored_length : (count : ℕ) (list : List ℕ) → (count ≤ 6) × (list ≡ padded 6 (take count list)) → length (take count list) ≡ count
restored_length count list h =
    let long : length list ≡ length (padded 6 (take count list)) = ap length h.1 in
    omega (arith, long, length-padded 6 (take count list), length-take count list)

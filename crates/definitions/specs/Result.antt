-- Rust's `Result`, and what `?`, `ok_or_else` and `map_err` do with it. Assumes nothing: these are definitions.
use Rattle.std.specs.Prelude.{Bool, true, false}
use Rattle.std.proofs.Math.Option.{Option, none, some}

pub data Result (E A : Type 0) : Type 0 where
  err : E → Result E A
  ok : A → Result E A

infixl 20 ◌>>=◌ ◌>>◌
-- `?`: the rest of a `do` block is not reached after an error
abbrev pub ◌>>=◌ : {E A B : Type 0} → Result E A → (A → Result E B) → Result E B
err x >>= k = err x
ok a >>= k = k a

abbrev pub ◌>>◌ : {E A B : Type 0} → Result E A → Result E B → Result E B
err x >> r = err x
ok a >> r = r

-- `ok_or_else`
abbrev pub ok_or_else : {E A : Type 0} → Option A → E → Result E A
ok_or_else none x = err x
ok_or_else (some a) x = ok a

-- `map_err`
abbrev pub map_err : {E F A : Type 0} → (E → F) → Result E A → Result F A
map_err f (err x) = err (f x)
map_err f (ok a) = ok a

-- `()`
abbrev pub Done : Type 0
Done = Unit {0}

-- go on if a test holds
abbrev pub check : {E : Type 0} → Bool → E → Result E Done
check true x = ok tt
check false x = err x

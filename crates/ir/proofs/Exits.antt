-- The way out of a `?`: what it hands on is the error that its callee gave. Assumes nothing.
use mathlib.Core.Path.{◌≡◌, ap}
use Rattle.std.specs.Prelude.{Result, Ok, Err, IsErrAnd}

pub exit : {T E : Type 0} {x : E} {r : Result T E} → IsErrAnd r (λ y. y ≡ x) → r ≡ Err x
exit {r = Ok t} h = absurd h
exit {r = Err y} h = ap Err h

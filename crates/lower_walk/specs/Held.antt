-- The names that are held, newest first: one list for all scopes, each name with the number of its scope. A function's own scope is 0, and
-- an arm or a body is one more than what it stands in. Untrusted: see Log.
use Rattle.std.specs.Prelude.{ℕ, List, map}
use Rattle.definitions.specs.Ir.{IrType}
use Rattle.definitions.specs.Lower.{Scope}

pub record HeldName : Type 0 where
  pub scope : ℕ
  pub name : ℕ
  pub local : ℕ
  pub type : IrType

abbrev pub Held : Type 0
Held = List HeldName

-- as the definitions' scopes have them
abbrev pub names : Held → Scope
names es = map (λ (e : HeldName). (e.name, e.local, e.type)) es

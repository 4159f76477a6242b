-- What a contract sees of the names that are held. Assumes nothing: these are definitions.
use Rattle.std.specs.Prelude.{ℕ, suc, ◌-◌, ◌∷◌, length, drop}
use Rattle.definitions.specs.Ir.{IrType}
use Rattle.lower_walk.specs.Held.{HeldName, Held}

-- the names of all open scopes, newest first, and the number of the innermost scope
pub record HeldNames : Type 0 where
  pub held : Held
  pub scope : ℕ

abbrev pub held_name : (scope name local : ℕ) → IrType → HeldName
held_name scope name local t = record { scope = scope; name = name; local = local; type = t }

-- one name more
abbrev pub with_name : (name local : ℕ) → IrType → HeldNames → HeldNames
with_name name local t h = record { held = held_name h.scope name local t ∷ h.held; scope = h.scope }

-- a scope inside, and the scope around it again, with the oldest `mark` names
abbrev pub inside : HeldNames → HeldNames
inside h = record { held = h.held; scope = suc h.scope }

abbrev pub outside : (mark : ℕ) → HeldNames → HeldNames
outside mark h = record { held = drop (length h.held - mark) h.held; scope = h.scope - 1 }

-- The names that are held: those that a scope adds, and those that are held again behind it. Assumes nothing.
use mathlib.Core.Path.{◌≡◌, ap, sym, ◌∙◌}
use mathlib.Core.List.{[], ◌∷◌, ◌++◌, append_assoc}
use Prim.Native.Nat.{ℕ}
use native.Mathlib.Omega.{arith}
use lib.ListN.{length}
use Rattle.std.proofs.lemmas.Grind.{common_steps}
use Rattle.definitions.specs.Ir.{IrType}
use Rattle.lower_walk.specs.Held.{Held}
use Rattle.lower_names.specs.HeldNames.{HeldNames, held_name, with_name, inside, outside}
use Rattle.lower_stmts.specs.Bodies.{Extends}

pub extends_on : {a b d : HeldNames} → Extends a b → Extends b d → Extends a d
extends_on f g = record {
  added = g.added ++ f.added;
  held = g.held ∙ (ap (λ (h : Held). g.added ++ h) f.held ∙ sym (append_assoc g.added f.added _));
  scope = g.scope ∙ f.scope;
}

-- one name is added
pub one_more : {h h' : HeldNames} {name local : ℕ} {t : IrType} → h' ≡ with_name name local t h → Extends h h'
one_more {h} {name = name} {local} {t} q = record {
  added = held_name h.scope name local t ∷ [];
  held = ap (λ (h : HeldNames). h.held) q;
  scope = ap (λ (h : HeldNames). h.scope) q;
}

-- behind a scope the names of before are held
pub same_behind : {h₀ h₁ h₂ h₃ : HeldNames} {mark : ℕ} → h₁ ≡ inside h₀ → Extends h₁ h₂ → mark ≡ length h₀.held → h₃ ≡ outside mark h₂ → h₃ ≡ h₀
same_behind i f m o = grind (arith, common_steps)

-- The names that become known, and the room for them. Assumes nothing.
use mathlib.Core.Path.{◌≡◌, ap, sym, ◌∙◌}
use mathlib.Core.List.{List, [], ◌∷◌, ◌++◌, append_assoc}
use Prim.Native.Nat.{ℕ, ◌+◌, ◌-◌, ◌≤◌}
use native.Mathlib.Omega.{arith}
use lib.ListN.{length, length-append}
use Rattle.std.proofs.Math.Seq.{drop-append-add}
use Rattle.definitions.specs.Analyze.{Ty}
use Rattle.definitions.specs.Grammar.{Class}
use Rattle.definitions.specs.Records.{check_records}
use Rattle.definitions.proofs.Sheets.Passed.{fine}
use Rattle.definitions.proofs.Sheets.Steps as steps
use Rattle.contract_nodes.specs.Ready.{StandAll}
use Rattle.analyze_env.specs.Names.{Names, named, truncated}
use Rattle.analyze_stmts.specs.Room.{FewAt, GrownTo}

-- ONE, of a record of 16 bytes and more
pub one_more : {env new : Names} {n : ℕ} {t : Ty} (at : ℕ) {y : ℕ} → new ≡ named n t env → FewAt at env → at + 16 ≤ y → GrownTo env new y
one_more {env} {new} {n} {t} at q f h = record {
  more = (n, t) ∷ [];
  is = ap (λ (e : Names). e.names) q;
  few = omega (arith, f, h, ap (λ (e : Names). length e.names) q);
  room = ap (λ (e : Names). e.room) q;
}

-- ONE AFTER THE OTHER
pub then_more : {a b d : Names} {x y : ℕ} → GrownTo a b x → GrownTo b d y → GrownTo a d y
then_more f g = record {
  more = g.more ++ f.more;
  is = rw (g.is, f.is) (sym (append_assoc g.more f.more _));
  few = g.few;
  room = g.room ∙ f.room;
}

pub up_to : {a b : Names} {x y : ℕ} → GrownTo a b x → x ≤ y → GrownTo a b y
up_to f h = record { more = f.more; is = f.is; few = omega (arith, f.few, h); room = f.room }

-- THE FIRST ONES AGAIN, behind a For
module _ {env e₁ e₂ : Names} {n : ℕ} {t : Ty} {x : ℕ} (q : e₁ ≡ named n t env) (g : GrownTo e₁ e₂ x) where
  opened : e₂.names ≡ g.more ++ ((n, t) ∷ env.names)
  opened = g.is ∙ ap (λ (e : Names). g.more ++ e.names) q

  module _ {e₃ : Names} {mark : ℕ} (m : mark ≡ length env.names) (c : e₃ ≡ truncated mark e₂) where
    pub names_back : e₃.names ≡ env.names
    names_back =
        let behind : length e₂.names - mark ≡ length g.more + 1 = omega (arith, m, ap length opened, length-append g.more ((n, t) ∷ env.names)) in
        ap (λ (e : Names). e.names) c ∙ rw (behind, opened) (drop-append-add g.more ((n, t) ∷ env.names) 1)

    pub back : (at : ℕ) {y : ℕ} → FewAt at env → at ≤ y → GrownTo env e₃ y
    back at f h = record {
      more = [];
      is = names_back;
      few = omega (arith, ap length names_back, f, h);
      room = ap (λ (e : Names). e.room) c ∙ (g.room ∙ ap (λ (e : Names). e.room) q);
    }

-- statements stand in order
pub in_order : (c : Class) (s : List ℕ) (at end d : ℕ) → StandAll c s at end d → at ≤ end
unfolding check_records
in_order c s at end d p = steps.low (fine _ _ _ _ _ p.0)

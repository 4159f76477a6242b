-- `machine_outside::steps::state_word`: negative, past the end, or there. Assumes nothing.
use mathlib.Core.Path.{◌≡◌, refl, ap, sym}
use mathlib.Core.List.{List, [], ◌∷◌}
use mathlib.Core.Option as maths
use Prim.Native.Nat.{ℕ, zero, suc, ◌≤◌, ◌<◌}
use native.Mathlib.Omega.{arith}
use borrow.Author.Tests.{lt-ltb, le-ltb, ltb-true, ltb-false}
use lib.ListN.{length, get_or, get_elem?}
use Rattle.definitions.specs.Result as defs
use Rattle.definitions.specs.Bench.{state_word}
use Rattle.machine_state.proofs.Asking.{halts_by}
use Rattle.machine_outside.proofs.steps.state_word.Goals as goal

elem_in : (l : List ℕ) (i d : ℕ) → i < length l → get_elem? l i ≡ maths.some (get_or l i d)
elem_in [] i d h = absurd (omega arith)
elem_in (a ∷ l) zero d h = refl
elem_in (a ∷ l) (suc i) d h = elem_in l i d (omega arith)

elem_out : (l : List ℕ) (i : ℕ) → length l ≤ i → get_elem? l i ≡ maths.none
elem_out [] i h = refl
elem_out (a ∷ l) zero h = absurd (omega arith)
elem_out (a ∷ l) (suc i) h = elem_out l i (omega arith)

pub returns-then-slot-ge-NEGATIVE-clause-is : goal.returns-then-slot-ge-NEGATIVE-clause-is
unfolding state_word
returns-then-slot-ge-NEGATIVE-clause-is c = record { is = λ m e. rw (le-ltb c.args.slot 2147483648 c.if-slot-ge-NEGATIVE.true) refl }

pub returns-in_err-word-clause-is : goal.returns-in_err-word-clause-is
unfolding state_word
returns-in_err-word-clause-is c =
    let past = rw c.in_err-word.ensures.ok_part at c.get.ensures.lookup in
    record {
      is = λ m e.
          rw (halts_by _ c.in_err-word.ensures.value c.from_residual.ensures.1, lt-ltb c.args.slot 2147483648 (omega (arith, c.if-slot-ge-NEGATIVE.false)), e, elem_out c.args.state.now c.args.slot (ltb-false _ _ (sym past.0))) refl;
    }

pub returns-clause-is : goal.returns-clause-is
unfolding state_word
returns-clause-is c =
    let there = rw c.in_ok-word.ensures.ok_part at c.get.ensures.lookup in
    record {
      is = λ m e. rw (lt-ltb c.args.slot 2147483648 (omega (arith, c.if-slot-ge-NEGATIVE.false)), e, elem_in c.args.state.now c.args.slot c.in_ok-word.word.now (ltb-true _ _ (sym there.0))) (ap defs.ok there.1);
    }

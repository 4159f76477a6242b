-- A list of operands, asked for one by one. Assumes nothing.
use mathlib.Core.Path.{◌≡◌, refl}
use mathlib.Core.List.{List, [], ◌∷◌}
use mathlib.Core.Option as maths
use Prim.Native.Nat.{ℕ}
use Rattle.std.specs.Prelude.{Option, None, Some, Ok, Err}
use Rattle.definitions.specs.Result as defs
use Rattle.definitions.specs.Result.{◌>>=◌, ◌>>◌}
use Rattle.definitions.specs.Ir.{Instruction}
use Rattle.definitions.specs.Bench.{Stop, Machine, value_words, step_instr}
use Rattle.machine_state.specs.Frames.{word_of, value_held}
use Rattle.machine_state.specs.Running.{Running, Stepped, Gone, Does, at}
use Rattle.machine_state.specs.declared.frame.Frame.{Frame}
use Rattle.machine_state.specs.declared.under_way.UnderWay.{UnderWay}
use Rattle.machine_state.specs.declared.halt.Halt.TheVariants as halts
use Rattle.machine_state.proofs.Running.{value_is}
use Rattle.machine_steps.specs.Steps.{AreThere, AllAsked}

one_more : (b : Stepped) (w : ℕ) (x : defs.Result (Stop ℕ) (List ℕ)) → AreThere b x → AreThere b (x >>= λ (ws : List ℕ). defs.ok (w ∷ ws))
one_more (Ok u) w (defs.ok ws) h = tt
one_more (Ok u) w (defs.err x) h = h
one_more (Err e) w (defs.ok ws) h = h
one_more (Err e) w (defs.err x) h = h

-- what is left of them says what the whole says
pub record AskLeft (t : Frame) (memory whole rest : List ℕ) : Type 0 where
  pub goes : (b : Stepped) → AllAsked t memory rest b → AllAsked t memory whole b

pub all_to_ask : {t : Frame} {memory whole : List ℕ} → AskLeft t memory whole whole
all_to_ask = record { goes = λ b x. x }

module _ {t : Frame} {memory whole old : List ℕ} (A : AskLeft t memory whole old) where
  module _ {v : ℕ} {rest : List ℕ} {x : Option ℕ} (s : old ≡ v ∷ rest) (e : word_of x ≡ value_held memory t v) where
    pub asked_on : {w : ℕ} → x ≡ Some w → AskLeft t memory whole rest
    unfolding value_words
    asked_on {w} z = record {
      goes = λ b N.
          A.goes b (record {
            run = λ frames state outside block depth m R. rw (s, value_is R v e z) (one_more b w (value_words m rest) (N.run frames state outside block depth m R));
          });
    }

    pub asked_lacks : {b : Stepped} → x ≡ None → b ≡ Err halts.Unset → AllAsked t memory whole b
    unfolding value_words
    asked_lacks {b} z h = A.goes b (record { run = λ frames state outside block depth m R. rw (s, h, value_is R v e z) refl })

  pub asked_all : old ≡ [] → AllAsked t memory whole (Ok tt)
  unfolding value_words
  asked_all s = A.goes (Ok tt) (record { run = λ frames state outside block depth m R. rw s tt })

-- EMIT
passes : (memory frames state outside : List ℕ) (t : UnderWay) (m : Machine ℕ) (r : Stepped) (x : defs.Result (Stop ℕ) (List ℕ)) → Running memory frames state outside t m → AreThere r x
    → Gone memory frames state outside t r (x >> defs.ok m)
passes memory frames state outside t m (Ok u) (defs.ok ws) R h = R
passes memory frames state outside t m (Ok u) (defs.err x) R h = absurd h
passes memory frames state outside t m (Err e) (defs.ok ws) R h = absurd h
passes memory frames state outside t m (Err e) (defs.err x) R h = h

pub emits : {t : Frame} {memory vs : List ℕ} {r : Stepped} → AllAsked t memory vs r → (o : maths.Option ℕ) (event : ℕ) → Does t memory memory o (Instruction.Emit event vs) r
unfolding step_instr
emits {t} {memory} {vs} {r} A o event state outside = record {
  run = λ lent frames block depth m R. passes memory frames state outside (at t block depth) m r (value_words m vs) R (A.run frames state outside block depth m R);
  kept = λ h e. (refl, refl, refl);
}

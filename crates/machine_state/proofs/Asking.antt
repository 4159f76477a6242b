-- What a step asks for, what its result takes, and how it ends. Assumes nothing. Each `?` of a step has an answer, `stops (halts_by ..)` with what was read by then: that, and the
-- instruction, differ.
use mathlib.Core.Path.{◌≡◌, refl}
use mathlib.Core.List.{List}
use mathlib.Core.Option as maths
use Prim.Native.Nat.{ℕ, ◌^◌, ◌<◌}
use Rattle.std.specs.Prelude.{Option, None, Some, Result, Ok, Err, IsErrAnd}
use Rattle.std.specs.Option.{ok_or}
use Rattle.definitions.specs.Result as defs
use Rattle.definitions.specs.Ir.{Instruction}
use Rattle.definitions.specs.Bench.{Stop, Machine, Lent, plain_words, give_result, step_instr}
use Rattle.ir.proofs.Exits.{exit}
use Rattle.program_nodes.specs.declared.block.Records.{Records}
use Rattle.machine_state.specs.Frames.{Given, given}
use Rattle.machine_state.specs.Running.{Running, halt_of, Stepped, Gone, at, Changes}
use Rattle.machine_state.specs.declared.frame.Frame.{Frame}
use Rattle.machine_state.specs.declared.under_way.UnderWay.{UnderWay}
use Rattle.machine_state.specs.declared.halt.Halt.{Halt}
use Rattle.machine_state.proofs.Running.{gave}

-- `.ok_or(halt)?` hands that halt back
pub halts_by : {A B : Type 0} {h e : Halt} {x : Result B Halt} (o : Option A) → ◌≡◌ {A = Result A Halt} (Err e) (ok_or o h) → IsErrAnd x (λ (y : Halt). y ≡ e) → x ≡ Err h
halts_by None v f = cc (exit f)
halts_by (Some a) v f = cc

-- AN INSTRUCTION goes on, or the run stops
module _ {t : Frame} {before state outside : List ℕ} {o : maths.Option ℕ} {i : Instruction} where
  pub goes_on : {after words rest : List ℕ}
      → ((lent : Lent) (frames : List ℕ) (block : Option Records) (depth : ℕ) (m : Machine ℕ) → Running before frames state outside (at t block depth) m
      → Gone after frames words rest (at t block depth) (Ok tt) (step_instr plain_words lent m o i))
      → Changes t before after state words outside rest o i (Ok tt)
  goes_on run = record { run = run; kept = λ h e. cc }

  pub stops : {r : Stepped} {h : Halt} → r ≡ Err h
      → ((lent : Lent) (frames : List ℕ) (block : Option Records) (depth : ℕ) (m : Machine ℕ) → Running before frames state outside (at t block depth) m
      → step_instr plain_words lent m o i ≡ defs.err (halt_of h))
      → Changes t before before state state outside outside o i r
  stops e f = record { run = λ lent frames block depth m R. rw (e, f lent frames block depth m R) refl; kept = λ h z. (refl, refl, refl) }

-- the code's machine behind a step, by the machine that the step gives
pub steps_to : {memory frames state outside : List ℕ} {t : UnderWay} {m : Machine ℕ} {x : defs.Result (Stop ℕ) (Machine ℕ)} → x ≡ defs.ok m → Running memory frames state outside t m
    → Gone memory frames state outside t (Ok tt) x
steps_to e R = rw e R

-- the result takes a word
pub result : {before after frames state outside : List ℕ} {t : UnderWay} {m : Machine ℕ} {room w : ℕ} {o : maths.Option ℕ} → Running before frames state outside t m → Given room t.frame o → w < 2 ^ 64
    → after ≡ given before t.frame o w → Running after frames state outside t (give_result o w m)
result {w = w} {o = o} R G h g = rw g (gave R o w h G.among)

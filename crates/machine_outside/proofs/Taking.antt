-- An instruction that takes an outside result. Assumes nothing.
use mathlib.Core.Path.{◌≡◌, refl}
use mathlib.Core.List.{List}
use mathlib.Core.Option as maths
use Prim.Native.Nat.{ℕ}
use Rattle.std.specs.Prelude.{Option}
use Rattle.definitions.specs.Ir.{Instruction}
use Rattle.definitions.specs.Bench.{Machine, Lent, plain_words, step_instr}
use Rattle.program_nodes.specs.declared.block.Records.{Records}
use Rattle.machine_state.specs.Running.{Running, Stepped, at, Changes}
use Rattle.machine_state.specs.declared.frame.Frame.{Frame}
use Rattle.machine_outside.specs.Outside.{taken_into, Takes}

-- behind its operands
pub taken : {t : Frame} {before after state outside rest : List ℕ} {o : maths.Option ℕ} {i : Instruction} {r : Stepped} → Takes t before after outside rest o r
    → ((lent : Lent) (frames : List ℕ) (block : Option Records) (depth : ℕ) (m : Machine ℕ) → Running before frames state outside (at t block depth) m → step_instr plain_words lent m o i ≡ taken_into o m)
    → Changes t before after state state outside rest o i r
taken {state = state} T f = record {
  run = λ lent frames block depth m R. rw (f lent frames block depth m R) (T.run frames state block depth m R);
  kept = λ h z. let k = T.kept h z in (k.0, refl, k.1);
}

-- What a step without a call promises, beyond crates/machine_state. Untrusted helpers of contracts: no public promise cites them.
-- Assumes nothing: these are definitions.
use Rattle.std.specs.Prelude.{ℕ, ◌≡◌, List, Option, Ok, Err}
use Rattle.definitions.specs.Result as defs
use Rattle.definitions.specs.Bench.{Stop, Machine, value_words}
use Rattle.program_nodes.specs.declared.block.Records.{Records}
use Rattle.machine_state.specs.Running.{Running, halt_of, Stepped, at}
use Rattle.machine_state.specs.declared.frame.Frame.{Frame}
use Rattle.machine_state.specs.declared.halt.Halt.{Halt}

-- a step that always goes on, or always ends the run
abbrev pub went : Stepped
went = Ok tt

abbrev pub halted : Halt → Stepped
halted h = Err h

-- the words of a list of values: all of them are there, or the run stops
abbrev pub AreThere : Stepped → defs.Result (Stop ℕ) (List ℕ) → Type 0
AreThere (Ok x) (defs.ok ws) = Unit {0}
AreThere (Ok x) (defs.err e) = ⊥
AreThere (Err h) (defs.ok ws) = ⊥
AreThere (Err h) (defs.err e) = halt_of h ≡ e

-- .. of every machine that the code stands for
pub record AllAsked (t : Frame) (memory vs : List ℕ) (r : Stepped) : Type 0 where
  pub run : (frames state outside : List ℕ) (block : Option Records) (depth : ℕ) (m : Machine ℕ) → Running memory frames state outside (at t block depth) m → AreThere r (value_words m vs)

-- What a step on what is lent promises, beyond crates/machine_state. Untrusted helpers of contracts: no public promise cites them.
-- Assumes nothing: these are definitions.
use Rattle.std.specs.Prelude.{ℕ, ◌≡◌, List, [], ◌∷◌, drop, Option, None, Some, Result, Ok, Err}
use Rattle.std.proofs.Math.Option as maths
use Rattle.definitions.specs.Result as defs
use Rattle.definitions.specs.Result.{◌>>=◌}
use Rattle.definitions.specs.Ir.{Instruction}
use Rattle.definitions.specs.Bench.{Stop, Machine, Lent, give_result, take_outside, state_word, plain_words, step_instr}
use Rattle.format.specs.declared.program.ContextKind.{ContextKind}
use Rattle.format.specs.declared.program.ContextKind.TheVariants as kind
use Rattle.ir.specs.Answers.{result_of}
use Rattle.program_nodes.specs.declared.block.Records.{Records}
use Rattle.machine_state.specs.Running.{Running, halt_of, Stepped, Gone, at, DoesOutside}
use Rattle.machine_state.specs.declared.frame.Frame.{Frame}
use Rattle.machine_state.specs.declared.halt.Halt.{Halt}
use Rattle.machine_outside.specs.declared.lent.Outside.{Outside}
use Rattle.machine_outside.specs.declared.lent.Context.{Context}

-- OUTSIDE RESULTS that are left; the first of them is taken, or there is none and they stay
abbrev pub left : Outside → List ℕ
left o = drop o.used o.words.now

abbrev pub TakesWord : (old new : Outside) → Option ℕ → Type 0
TakesWord old new None = (left old ≡ []) × (new ≡ old)
TakesWord old new (Some w) = (left old ≡ w ∷ left new) × (new.words.now ≡ old.words.now)

-- the next outside result, for a result id
unfoldable pub taken_into : maths.Option ℕ → Machine ℕ → defs.Result (Stop ℕ) (Machine ℕ)
taken_into o m = do
  (n, m) ← take_outside m
  defs.ok (give_result o n m)

pub record Takes (t : Frame) (before after outside rest : List ℕ) (o : maths.Option ℕ) (r : Stepped) : Type 0 where
  pub run : (frames state : List ℕ) (block : Option Records) (depth : ℕ) (m : Machine ℕ) → Running before frames state outside (at t block depth) m
      → Gone after frames state rest (at t block depth) r (taken_into o m)
  pub kept : (h : Halt) → r ≡ Err h → (after ≡ before) × (rest ≡ outside)

-- what is left of them is of the same list, and where the run stops nothing of it is used
pub record Uses (old new : Outside) (r : Stepped) : Type 0 where
  pub words : new.words.now ≡ old.words.now
  pub kept : (h : Halt) → r ≡ Err h → new ≡ old

-- an instruction that takes one of them
abbrev pub DoesTaking : Frame → (before after : List ℕ) → (old new : Outside) → maths.Option ℕ → Instruction → Stepped → Type 0
DoesTaking t before after old new o i r = DoesOutside t before after (left old) (left new) o i r

-- STATE WORDS: the answer is the machine's
pub record ReadsState (state : List ℕ) (slot : ℕ) (r : Result ℕ Halt) : Type 0 where
  pub is : (m : Machine ℕ) → m.state ≡ state → result_of halt_of (λ w. w) r ≡ state_word m slot

-- CONTEXT WORDS, as the code has them
abbrev pub context_of : ContextKind → Context → ℕ
context_of kind.MsgSender c = c.sender
context_of kind.MsgNonce c = c.nonce
context_of kind.BlockNumber c = c.block_number

-- these are the context words that are lent
pub record LendsContext (c : Context) (lent : Lent) : Type 0 where
  pub sender_is : lent.sender ≡ c.sender
  pub nonce_is : lent.nonce ≡ c.nonce
  pub block_number_is : lent.block_number ≡ c.block_number

-- the ContextRead of a kind
pub record DoesContext (t : Frame) (before after : List ℕ) (c : Context) (o : maths.Option ℕ) (k : ℕ) : Type 0 where
  pub run : (lent : Lent) → LendsContext c lent → (frames state outside : List ℕ) (block : Option Records) (depth : ℕ) (m : Machine ℕ) → Running before frames state outside (at t block depth) m
      → Gone after frames state outside (at t block depth) (Ok tt) (step_instr plain_words lent m o (Instruction.ContextRead k))

-- What an instruction or a terminator does to the state. Assumes nothing: these are definitions.
use Rattle.std.specs.Prelude.{ℕ, ◌≡◌}
use Rattle.definitions.specs.Ir.{Instruction, Terminator}
use Rattle.ir.specs.declared.ValueId.{ValueId}
use Rattle.lower_walk.specs.Log.{log_term}
use Rattle.lower_walk.specs.Stmts.{LogCtx, with_log, push_c}

-- `push_instr` of an instruction that gives a value, which is the next one
pub record Pushes (i : Instruction) (before after : LogCtx) (v : ValueId) : Type 0 where
  pub is : after ≡ push_c i before
  pub id : v.0 ≡ before.log.value

-- of one that gives none
abbrev pub Appends : Instruction → (before after : LogCtx) → Type 0
Appends i before after = after ≡ push_c i before

-- a terminator's record
abbrev pub AppendsTerm : Terminator → (before after : LogCtx) → Type 0
AppendsTerm t before after = after ≡ with_log (log_term t before.log) before

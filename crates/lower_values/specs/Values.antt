-- The code's answers in the words of the walk. Assumes nothing: these are definitions.
use Rattle.std.specs.Prelude.{◌≡◌, Result, OnErr}
use Rattle.std.proofs.Math.Option.{Option, some}
use Rattle.definitions.specs.Lower.{Value}
use Rattle.format.specs.Contexts.{context_number}
use Rattle.ir.specs.Types.{as_type}
use Rattle.ir.specs.declared.IrType as code
use Rattle.ir.specs.declared.ValueId.{ValueId}
use Rattle.lower_walk.specs.Log.{Log}
use Rattle.lower_walk.specs.Stmts.{LogCtx, with_log}
use Rattle.lower_walk.specs.Exprs.{Walked, Called, context, poseidon_call, user_call}
use Rattle.lower_state.specs.declared.refusals.LoweringError.{LoweringError}
use Rattle.lower_values.specs.declared.calls.Called as calls
use Rattle.lower_values.specs.declared.calls.Called.TheVariants as called

abbrev pub value_in : ValueId × code.IrType → Value
value_in v = (v.0.0, as_type v.1)

abbrev pub some_value : ValueId × code.IrType → Option Value
some_value v = some (value_in v)

-- a log, and the value that was given
abbrev pub gives_value : Log → ValueId × code.IrType → Walked
gives_value l v = (l, some_value v)

-- the log alone has changed
abbrev pub LogAlone : LogCtx → LogCtx → Type 0
LogAlone c d = d ≡ with_log d.log c

-- a refusal leaves all but the log as it was
abbrev pub LogAloneIfErr : {A : Type 0} → Result A LoweringError → (before after : LogCtx) → Type 0
LogAloneIfErr r before after = OnErr r (LogAlone before after)

-- what a name stands for in a call
abbrev pub called_of : calls.Called → Called
called_of (called.Context k) = context (context_number k)
called_of called.Poseidon = poseidon_call
called_of (called.User f t) = user_call f.0 (as_type t)

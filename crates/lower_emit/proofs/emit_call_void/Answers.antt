-- `lower_emit::emit_call_void`: the bytes are those of Call, of type Void. Assumes nothing.
use mathlib.Core.Path.{refl, ◌∙◌}
use Rattle.definitions.specs.Ir.{IrType, Instruction}
use Rattle.lower_emit.proofs.Written.{appends}
use Rattle.lower_emit.proofs.emit_call_void.Goals as goal

pub returns : goal.returns
returns c =
    let a = c.args in
    (rw (c.id-function.ensures, c.as_slice.ensures.is) at c.append_list.ensures) ∙ appends (Instruction.Call a.function.0 a.args.now IrType.Void) a.ctx.now refl

-- `lower_emit::emit_state_write`: the bytes are those of StateWrite. Assumes nothing.
use mathlib.Core.Path.{refl, ◌∙◌}
use Rattle.definitions.specs.Ir.{Instruction}
use Rattle.lower_emit.proofs.Written.{appends}
use Rattle.lower_emit.proofs.emit_state_write.Goals as goal

pub returns : goal.returns
returns c =
    let a = c.args in
    (rw (c.four.ensures, c.id.ensures) at c.append.ensures) ∙ appends (Instruction.StateWrite a.slot a.value.0) a.ctx.now refl

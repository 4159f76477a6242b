-- `lower_emit::emit_write_local`: the bytes are those of WriteLocal. Assumes nothing.
use mathlib.Core.Path.{refl, ◌∙◌}
use Rattle.definitions.specs.Ir.{Instruction}
use Rattle.lower_emit.proofs.Written.{appends}
use Rattle.lower_emit.proofs.emit_write_local.Goals as goal

pub returns : goal.returns
returns c =
    let a = c.args in
    (rw (c.id.ensures, c.id-2.ensures) at c.append.ensures) ∙ appends (Instruction.WriteLocal a.local.0 a.value.0) a.ctx.now refl

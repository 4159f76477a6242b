-- `lower_emit::emit_assert`: the bytes are those of Assert. Assumes nothing.
use mathlib.Core.Path.{refl, ◌∙◌}
use Rattle.definitions.specs.Ir.{Instruction}
use Rattle.lower_emit.proofs.Written.{appends}
use Rattle.lower_emit.proofs.emit_assert.Goals as goal

pub returns : goal.returns
returns c =
    let a = c.args in
    (rw (c.id.ensures) at c.append.ensures) ∙ appends (Instruction.Assert a.condition.0) a.ctx.now refl

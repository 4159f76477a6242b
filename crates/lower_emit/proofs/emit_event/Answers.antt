-- `lower_emit::emit_event`: the bytes are those of Emit. Assumes nothing.
use mathlib.Core.Path.{refl, ◌∙◌}
use Rattle.definitions.specs.Ir.{Instruction}
use Rattle.lower_emit.proofs.Written.{appends}
use Rattle.lower_emit.proofs.emit_event.Goals as goal

pub returns : goal.returns
returns c =
    let a = c.args in
    (rw (c.id.ensures, c.as_slice.ensures.is) at c.append_list.ensures) ∙ appends (Instruction.Emit a.event.0 a.args.now) a.ctx.now refl

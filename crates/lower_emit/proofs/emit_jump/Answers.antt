-- `lower_emit::emit_jump`: the bytes are those of Jump. Assumes nothing.
use mathlib.Core.Path.{◌∙◌}
use Rattle.definitions.specs.Ir.{Terminator}
use Rattle.lower_emit.proofs.Written.{closes}
use Rattle.lower_emit.proofs.emit_jump.Goals as goal

pub returns : goal.returns
returns c =
    let a = c.args in c.append_terminator.ensures ∙ closes (Terminator.Jump a.target.0) a.ctx.now

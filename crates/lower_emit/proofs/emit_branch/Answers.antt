-- `lower_emit::emit_branch`: the bytes are those of Branch. Assumes nothing.
use mathlib.Core.Path.{◌∙◌}
use Rattle.definitions.specs.Ir.{Terminator}
use Rattle.lower_emit.proofs.Written.{closes}
use Rattle.lower_emit.proofs.emit_branch.Goals as goal

pub returns : goal.returns
returns c =
    let a = c.args in (rw (c.id-yes.ensures, c.id-no.ensures) at c.append_terminator.ensures) ∙ closes (Terminator.Branch a.condition.0 a.then_block.0 a.else_block.0) a.ctx.now

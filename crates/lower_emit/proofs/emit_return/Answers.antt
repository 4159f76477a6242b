-- `lower_emit::emit_return`: the bytes are those of Return. Assumes nothing.
use mathlib.Core.Path.{◌∙◌}
use Rattle.definitions.specs.Ir.{Terminator}
use Rattle.ir.specs.Answers.{option_of}
use Rattle.lower_emit.proofs.Written.{closes}
use Rattle.lower_emit.proofs.emit_return.Goals as goal

pub returns : goal.returns
returns c =
    let a = c.args in (rw (c.id_or_absent.ensures) at c.append_terminator.ensures) ∙ closes (Terminator.Return (option_of (λ v. v.0) a.value)) a.ctx.now

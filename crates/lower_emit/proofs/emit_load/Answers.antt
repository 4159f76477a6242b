-- `lower_emit::emit_load`: the bytes are those of Load. Assumes nothing.
use mathlib.Core.Path.{refl}
use Rattle.definitions.specs.Ir.{IrType, Instruction}
use Rattle.lower_emit.proofs.Written.{pushes}
use Rattle.lower_emit.proofs.emit_load.Goals as goal

pub returns : goal.returns
returns c =
    let a = c.args in
    let p = c.push_instr.ensures in
    pushes (Instruction.Load IrType.U64 a.base.0 a.offset) refl p.number (rw (c.id.ensures, c.eight.ensures) at p.is)

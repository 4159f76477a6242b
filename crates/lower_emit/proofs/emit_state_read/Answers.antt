-- `lower_emit::emit_state_read`: the bytes are those of StateRead. Assumes nothing.
use mathlib.Core.Path.{refl}
use Rattle.definitions.specs.Ir.{IrType, Instruction}
use Rattle.lower_emit.proofs.Written.{pushes}
use Rattle.lower_emit.proofs.emit_state_read.Goals as goal

pub returns : goal.returns
returns c =
    let a = c.args in
    let p = c.push_instr.ensures in
    pushes (Instruction.StateRead IrType.U64 a.slot) refl p.number (rw (c.four.ensures) at p.is)

-- `lower_emit::emit_const`: the bytes are those of Const. Assumes nothing.
use mathlib.Core.Path.{refl}
use Rattle.definitions.specs.Ir.{IrType, Instruction}
use Rattle.lower_emit.proofs.Written.{pushes}
use Rattle.lower_emit.proofs.emit_const.Goals as goal

pub returns : goal.returns
returns c =
    let a = c.args in
    let p = c.push_instr.ensures in
    pushes (Instruction.Const IrType.U64 a.value) refl p.number (rw (c.eight.ensures) at p.is)

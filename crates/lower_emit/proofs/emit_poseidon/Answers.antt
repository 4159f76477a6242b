-- `lower_emit::emit_poseidon`: the bytes are those of Poseidon. Assumes nothing.
use mathlib.Core.Path.{refl}
use Rattle.definitions.specs.Ir.{Instruction}
use Rattle.lower_emit.proofs.Written.{pushes}
use Rattle.lower_emit.proofs.emit_poseidon.Goals as goal

pub returns : goal.returns
returns c =
    let a = c.args in
    let p = c.push_instr.ensures in
    pushes (Instruction.Poseidon a.lhs.0 a.rhs.0) refl p.number (rw (c.id.ensures, c.id-2.ensures) at p.is)

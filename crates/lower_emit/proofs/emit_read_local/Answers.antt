-- `lower_emit::emit_read_local`: the bytes are those of ReadLocal. Assumes nothing.
use mathlib.Core.Path.{refl}
use Rattle.definitions.specs.Ir.{Instruction}
use Rattle.ir.specs.Types.{as_type}
use Rattle.lower_emit.proofs.Written.{pushes}
use Rattle.lower_emit.proofs.emit_read_local.Goals as goal

pub returns : goal.returns
returns c =
    let a = c.args in
    let p = c.push_instr.ensures in
    pushes (Instruction.ReadLocal a.local.0 (as_type a.ty)) refl p.number (rw (c.id.ensures, c.type_part.ensures) at p.is)

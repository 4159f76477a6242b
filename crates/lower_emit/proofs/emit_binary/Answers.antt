-- `lower_emit::emit_binary`: the bytes are those of Binary, of any operator. Assumes nothing.
use mathlib.Core.Path.{refl}
use Rattle.definitions.specs.Ir.{Instruction}
use Rattle.definitions.specs.ContractSheet.{op_of}
use Rattle.format.specs.Operators.{operator_number}
use Rattle.ir.specs.Types.{as_type}
use Rattle.lower_emit.proofs.Written.{pushes}
use Rattle.lower_emit.proofs.emit_binary.Goals as goal

pub returns : goal.returns
returns c =
    let a = c.args in
    let p = c.push_instr.ensures in
    pushes (Instruction.Binary (op_of (operator_number a.op)) (as_type a.ty) a.lhs.0 a.rhs.0) refl p.number (rw (c.binary_kind.ensures, c.type_part.ensures, c.id-left.ensures, c.id-right.ensures) at p.is)

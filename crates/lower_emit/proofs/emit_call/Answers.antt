-- `lower_emit::emit_call`: the bytes are those of Call. Assumes nothing.
use Rattle.definitions.specs.Ir.{Instruction}
use Rattle.ir.specs.Types.{as_type}
use Rattle.lower_emit.proofs.Written.{pushes, not_void}
use Rattle.lower_emit.proofs.emit_call.Goals as goal

pub returns : goal.returns
returns c =
    let a = c.args in
    let id = c.next_value-id.ensures in
    let given = not_void (as_type a.ty) c.requires in
    pushes (Instruction.Call a.function.0 a.args.now (as_type a.ty)) given id.number
    (rw given (rw (c.id-function.ensures, c.type_part.ensures, c.as_slice.ensures.is, id.counted) at c.append_list.ensures))

-- `lower_emit::emit_context_read`: the bytes are those of ContextRead. Assumes nothing.
use mathlib.Core.Path.{◌≡◌, refl}
use Rattle.std.proofs.Common.{rules, tests}
use Rattle.definitions.specs.Ir.{Instruction}
use Rattle.format.specs.Contexts.{context_number}
use Rattle.lower_state.specs.Bytes.{part_in}
use Rattle.lower_emit.proofs.Written.{pushes}
use Rattle.lower_emit.proofs.emit_context_read.Goals as goal

pub returns : goal.returns
returns c =
    let a = c.args in
    let p = c.push_instr.ensures in
    let id : part_in c.id.result ≡ (2, context_number a.context) = search (rules, tests) in
    pushes (Instruction.ContextRead (context_number a.context)) refl p.number (rw (id) at p.is)

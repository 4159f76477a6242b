-- `program_nodes::instr::Instr::kind`: the number is that of a kind. Assumes nothing.
use native.Mathlib.Omega.{arith}
use Rattle.format.specs.Kinds.{instr_number}
use Rattle.sheet.proofs.Standing.{kept, kind_ok, kind_is}
use Rattle.program_nodes.proofs.InstrRows.{instr_kind}
use Rattle.program_nodes.proofs.Walk.{kind_alone}
use Rattle.program_nodes.proofs.Facts.{instr_to, instr_result_fits}
use Rattle.program_nodes.proofs.instr.Instr.kind.Goals as goal

pub id-requires : goal.id-requires
id-requires c = omega (arith, instr_result_fits c.args.self)

pub unwrap-requires : goal.unwrap-requires
unwrap-requires c = kind_ok instr_number _ (rw c.id.ensures at c.try_from.ensures) (kind_alone instr_number instr_kind (kept c.args.self.here.0))

pub returns-clause-room : goal.returns-clause-room
returns-clause-room c = rw (kind_is instr_number c.try_from.ensures c.unwrap.ensures, c.id.ensures) (instr_to c.args.self).room

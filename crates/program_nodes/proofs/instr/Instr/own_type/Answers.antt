-- `program_nodes::instr::Instr::own_type`: at the offset of its kind. Assumes nothing.
use mathlib.Core.Path.{◌≡◌}
use native.Mathlib.Omega.{arith}
use Rattle.format.specs.Kinds.{instr_number}
use Rattle.program_nodes.specs.Positions.{type_offset}
use Rattle.program_nodes.proofs.KindNumbers.{type_first, type_second}
use Rattle.program_nodes.proofs.Facts.{own_type_fits}
use Rattle.program_nodes.proofs.instr.Instr.own_type.Goals as goal
use Rattle.program_nodes.proofs.instr.Instr.own_type.Goals.{in-ReadLocal, in_default, Joined-kind}

offset : (c : Joined-kind) → type_offset (instr_number c.args.kind) ≡ c.match-kind.offset
offset c =
    elim c.match-kind.branch [
      | in-ReadLocal w ↦ rw w.offset-is (type_second c.args.kind w.in-ReadLocal.is)
      | in_default w ↦ rw w.offset-is (type_first c.args.kind c.requires.1 w.in_default.not-ReadLocal w.in_default.not-Call)
    ]

pub ty-requires : goal.ty-requires
ty-requires c = omega (arith, own_type_fits c.args.self c.requires.0 c.requires.1, offset c)

pub returns : goal.returns
returns c = rw (offset (goal.at.returns c).Joined-kind) c.ty.ensures

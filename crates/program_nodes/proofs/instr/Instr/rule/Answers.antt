-- `program_nodes::instr::Instr::rule`: the row of its kind. Assumes nothing.
use mathlib.Core.Path.{refl}
use Rattle.program_nodes.proofs.Facts.{has_own_type, type_by_rule}
use Rattle.program_nodes.proofs.instr.Instr.rule.Goals as goal

pub returns : goal.returns
returns c = record { own = has_own_type c.args.self c.requires c.kind_row.ensures.rule; gives = type_by_rule c.args.self c.requires c.kind_row.ensures.rule refl }

-- `machine_slots::ValueIds::index_of`: the search's position of v, or the count where it passed all. Assumes nothing.
use mathlib.Core.Path.{ap, sym, ◌∙◌}
use Rattle.program_nodes.specs.Nodes.{ir_of}
use Rattle.machine_slots.specs.Slots.{value_ids}
use Rattle.machine_slots.proofs.Searching.{place_in, index_told}
use Rattle.machine_slots.proofs.ValueIds.index_of.Goals as goal

pub returns-in-Err : goal.returns-in-Err
returns-in-Err c = ap place_in (sym c.in-Err.is ∙ c.search.ensures) ∙ index_told c.args.v.0 (value_ids (ir_of c.args.self.function))

pub returns-in-Ok : goal.returns-in-Ok
returns-in-Ok c = ap place_in (sym c.in-Ok.is ∙ c.search.ensures) ∙ index_told c.args.v.0 (value_ids (ir_of c.args.self.function))

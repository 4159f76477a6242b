-- `program_nodes::program::Function::local_count`: there are as many as the count says. Assumes nothing.
use lib.ListN.{length-map}
use Rattle.definitions.proofs.Sheets.Reads.{items_count}
use Rattle.program_nodes.specs.Positions.{types_here}
use Rattle.program_nodes.proofs.program.Function.local_count.Goals as goal

pub returns : goal.returns
unfolding types_here
returns c = rw (length-map, items_count, ← c.locals_at.ensures) c.read.ensures.0

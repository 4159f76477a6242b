-- `program_lookup::has_block`: whether one is found. Assumes nothing.
use mathlib.Core.Path.{◌∙◌}
use Rattle.program_nodes.specs.Nodes.{ir_of, block_in}
use Rattle.program_lookup.proofs.Searches.{has_block_lem}
use Rattle.program_lookup.proofs.has_block.Goals as goal

pub returns : goal.returns
returns c = c.is_some.ensures ∙ has_block_lem block_in c.find_block.result c.args.b.0 (ir_of c.args.f).blocks c.find_block.ensures.is

-- `program_lookup::find_in_block`: what is left of the block is searched. Assumes nothing.
use mathlib.Core.Path.{◌≡◌}
use Rattle.program_nodes.specs.Definitions.{first_definition}
use Rattle.program_nodes.specs.Nodes.{block_definitions_in, block_definitions_of}
use Rattle.program_lookup.proofs.find_in_block.Given as goal

abbrev pub invariant-loop-record : goal.invariant-loop-record
invariant-loop-record l = first_definition l.v.0 (block_definitions_in l.record-iterator) ≡ first_definition l.v.0 (block_definitions_of l.block)

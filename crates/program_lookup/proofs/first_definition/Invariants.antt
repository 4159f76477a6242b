-- `program_lookup::first_definition`: the parameters are not it, and what is left of the blocks is searched. Assumes nothing.
use mathlib.Core.Path.{◌≡◌}
use Rattle.program_nodes.specs.Definitions.{first_definition}
use Rattle.program_nodes.specs.Nodes.{blocks_definitions_in, definitions_of}
use Rattle.program_lookup.proofs.first_definition.Given as goal

abbrev pub invariant-loop-block : goal.invariant-loop-block
invariant-loop-block l = first_definition l.v.0 (blocks_definitions_in l.block-iterator) ≡ first_definition l.v.0 (definitions_of l.f)

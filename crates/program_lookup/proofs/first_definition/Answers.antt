-- `program_lookup::first_definition`: among the parameters, or in the first block, or in the rest. Assumes nothing.
use mathlib.Core.Path.{ap, sym, ◌∙◌}
use Rattle.program_nodes.specs.Definitions.{first_definition}
use Rattle.program_nodes.specs.Nodes.{definitions_of}
use Rattle.program_lookup.proofs.Searches.{nothing, in_first, in_second}
use Rattle.program_lookup.proofs.first_definition.Goals as goal

pub returns-in-Some : goal.returns-in-Some
unfolding definitions_of
returns-in-Some c = in_first _ _ _ c.in-Some.ensures

pub loop-block-init : goal.loop-block-init
loop-block-init c = rw c.into_iter-block-iterator.ensures.into_iter_gives (sym (ap (first_definition _) c.blocks-block-items.ensures.definitions ∙ in_second _ _ _ c.in_default.ensures))

pub returns-in-Some-find_in_block : goal.returns-in-Some-find_in_block
returns-in-Some-find_in_block c = in_first _ _ _ c.in-Some-find_in_block.ensures ∙ (sym (ap (first_definition _) c.in-Some-block.ensures.steps.definitions) ∙ c.loop-block.invariant)

pub loop-block-preserved : goal.loop-block-preserved
loop-block-preserved c = sym (in_second _ _ _ c.in_default-find_in_block.ensures) ∙ (sym (ap (first_definition _) c.in-Some-block.ensures.steps.definitions) ∙ c.loop-block.invariant)

pub returns : goal.returns
returns c = nothing _ c.in-None.ensures.steps.1 ∙ c.loop-block.invariant

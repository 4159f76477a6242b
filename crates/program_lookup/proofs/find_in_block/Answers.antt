-- `program_lookup::find_in_block`: the first is it, or it is looked for in the rest. Assumes nothing.
use mathlib.Core.Path.{◌∙◌}
use Rattle.program_nodes.proofs.Takes.{an_instr, a_term}
use Rattle.program_lookup.proofs.Searches.{instr_hit, instr_miss, nothing, is_value, no_value}
use Rattle.program_lookup.proofs.find_in_block.Goals as goal

pub returns-then-gives : goal.returns-then-gives
returns-then-gives c = instr_hit _ _ _ _ _ (an_instr c.in-Some.ensures.steps c.in-Instr.is).definitions (is_value _ _ c.gives.ensures c.if-gives.true) ∙ c.loop-record.invariant

pub loop-record-preserved : goal.loop-record-preserved
loop-record-preserved c = instr_miss _ _ _ _ _ (an_instr c.in-Some.ensures.steps c.in-Instr.is).definitions (no_value _ _ c.gives.ensures c.if-gives.false) ∙ c.loop-record.invariant

pub returns-in-Term : goal.returns-in-Term
returns-in-Term c = nothing _ (a_term c.next.new.self c.in-Some.ensures.steps c.in-Term.is).definitions ∙ c.loop-record.invariant

pub returns : goal.returns
returns c = nothing _ c.in-None.ensures.steps.0.definitions ∙ c.loop-record.invariant

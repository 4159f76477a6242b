-- `program_lookup::find_param`: the first is it, or it is looked for in the rest. Assumes nothing.
use mathlib.Core.Path.{ap, sym, ◌∙◌}
use borrow.Author.Tests.{eqb-true, eqb-false}
use Rattle.program_nodes.specs.Definitions.{param_definitions}
use Rattle.program_lookup.proofs.Searches.{hit, miss, nothing}
use Rattle.program_lookup.proofs.find_param.Goals as goal

pub returns-then-eq : goal.returns-then-eq
returns-then-eq c = hit c.in-Some.ensures.steps.definitions (sym c.value.ensures ∙ eqb-true _ _ (sym c.if-eq.ensures)) ∙ c.loop-param.invariant

pub loop-param-preserved : goal.loop-param-preserved
loop-param-preserved c = miss c.in-Some.ensures.steps.definitions (λ z. eqb-false _ _ (sym c.if-eq.ensures) (c.value.ensures ∙ z)) ∙ c.loop-param.invariant

pub returns : goal.returns
returns c = nothing _ (ap (param_definitions _) c.in-None.ensures.steps.0) ∙ c.loop-param.invariant

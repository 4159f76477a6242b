-- `verify_define::define_params`: the first is new, or it is refused. Assumes nothing.
use mathlib.Core.Path.{sym, ◌∙◌}
use Rattle.definitions.specs.Verify.{define_params}
use Rattle.std.proofs.lemmas.Bool.{both_ways}
use Rattle.verify_define.proofs.Firsts.{start, param_twice, param_once, params_over}
use Rattle.verify_define.proofs.define_params.Goals as goal

pub loop-param-init : goal.loop-param-init
loop-param-init c = let E = c.params-param-items.ensures in rw c.into_iter-param-iterator.ensures.into_iter_gives (start define_params E.definitions E.is)

pub returns-then-not-is_first_definition : goal.returns-then-not-is_first_definition
returns-then-not-is_first_definition c =
    let F = c.in-Some.ensures.steps in
    rw c.value-value.ensures (param_twice c.in-Some.param.at _ F.definitions F.is c.loop-param.invariant (λ z. both_ways _ c.if-not-is_first_definition.true ((rw c.value-value.ensures at c.is_first_definition.ensures) ∙ z)))

pub loop-param-preserved : goal.loop-param-preserved
loop-param-preserved c =
    let F = c.in-Some.ensures.steps in
    param_once c.in-Some.param.at _ F.definitions F.is c.loop-param.invariant (sym (rw c.value-value.ensures at c.is_first_definition.ensures) ∙ c.if-not-is_first_definition.false)

pub returns : goal.returns
returns c = params_over c.in-None.ensures.steps.0 c.loop-param.invariant

-- `analyze_simple::analyze_args`: the arguments that are left give what all of them give. Assumes nothing.
use mathlib.Core.Path.{◌∙◌}
use Rattle.ir.proofs.Exits.{exit}
use Rattle.analyze_simple.proofs.Steps.{none_left, first_is, first_typed}
use Rattle.analyze_simple.proofs.analyze_args.Goals as goal

pub loop-arg-preserved : goal.loop-arg-preserved
loop-arg-preserved c = record {
  sheet = c.in-Some.ensures.steps.rest_sheet ∙ c.loop-arg.invariant.sheet;
  is = first_typed _ _ c.loop-arg.invariant.is c.in-Some.ensures.steps.is c.in_ok-analyze_expr.ensures;
}

pub returns-in_err-analyze_expr : goal.returns-in_err-analyze_expr
returns-in_err-analyze_expr c =
    rw (exit c.from_residual.ensures.1) (first_is _ _ c.loop-arg.invariant.is c.in-Some.ensures.steps.is c.in_err-analyze_expr.ensures)

pub returns : goal.returns
returns c = none_left _ _ c.loop-arg.invariant.is c.in-None.ensures.steps

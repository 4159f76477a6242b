-- `verify::verify_program`: the first function, or it is over. Assumes nothing.
use mathlib.Core.Path.{ap, ◌∙◌}
use mathlib.Core.List.{List}
use Rattle.definitions.specs.Ir.{IrFunction}
use Rattle.definitions.specs.Verify.{verify_functions}
use Rattle.program_nodes.specs.Nodes.{ids_of_all}
use Rattle.ir.proofs.Exits.{exit}
use Rattle.verify.proofs.Seconds.{function_failed, function_passed, functions_over}
use Rattle.verify.proofs.verify_program.Goals as goal

pub loop-function-init : goal.loop-function-init
loop-function-init c = let E = c.functions-function-items.ensures in rw c.into_iter-function-iterator.ensures.into_iter_gives ((E.same_sheet, ap (λ (fs : List IrFunction). verify_functions fs (ids_of_all c.args.program)) E.is))

pub returns-in_err-verify_function : goal.returns-in_err-verify_function
returns-in_err-verify_function c =
    let F = c.in-Some.ensures.steps in
    rw (exit c.from_residual.ensures.1)
    (function_failed c.in-Some.function c.args.program F.is (F.sheet ∙ c.loop-function.invariant.0) c.loop-function.invariant.1 c.in_err-verify_function.ensures)

pub loop-function-preserved : goal.loop-function-preserved
loop-function-preserved c =
    let F = c.in-Some.ensures.steps in
    (F.rest_sheet ∙ c.loop-function.invariant.0, function_passed c.in-Some.function c.args.program F.is (F.sheet ∙ c.loop-function.invariant.0) c.loop-function.invariant.1 c.in_ok-verify_function.ensures)

pub returns : goal.returns
returns c = functions_over _ c.in-None.ensures.steps.0 c.loop-function.invariant.1

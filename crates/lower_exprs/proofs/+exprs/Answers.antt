-- The cycle of expressions meets its contracts. Assumes nothing.
use mathlib.Core.Path.{refl, ◌∙◌}
use Rattle.ir.proofs.Exits.{exit}
use Rattle.lower_exprs.proofs.ArgSteps.{then_alone, finishes, goes_on, refuses}
use Rattle.lower_exprs.proofs.CallSteps.{call_starts}
use Rattle.lower_exprs.proofs.ExprSteps.{value_on_sheet}
use Rattle.lower_exprs.proofs.+exprs.Goals as goal

-- A CALL
pub lower_call-loop-arg-init : goal.lower_call-loop-arg-init
lower_call-loop-arg-init t c =
    rw c.into_iter-arg-iterator.ensures.into_iter_gives (record {
      sheet = refl;
      depth = refl;
      left = call_starts _ _ c.args.name.0 _ c.args.ctx.now c.len.ensures c.requires c.in_ok-called.ensures c.in_default.not-Context c.new-values.ensures;
    })

pub lower_call-returns-in_err-value : goal.lower_call-returns-in_err-value
lower_call-returns-in_err-value t c =
    let f = c.in-Some.ensures.steps in
    let i = c.loop-arg.invariant in
    record {
      is = rw (exit c.from_residual-in_err-value.ensures.1) (refuses i.left f.is (value_on_sheet _ _ _ (f.sheet ∙ i.sheet) c.in_err-value.ensures.is));
      log_alone = then_alone c.args.ctx.now _ _ i.left.same c.in_err-value.ensures.log_alone;
    }

pub lower_call-loop-arg-preserved : goal.lower_call-loop-arg-preserved
lower_call-loop-arg-preserved t c =
    let f = c.in-Some.ensures.steps in
    let i = c.loop-arg.invariant in
    record {
      sheet = f.rest_sheet ∙ i.sheet;
      depth = f.rest_depth ∙ i.depth;
      left = rw c.push.ensures (goes_on i.left f.is (value_on_sheet _ _ _ (f.sheet ∙ i.sheet) c.in_ok-value.ensures.is) c.in_ok-value.ensures.log_alone);
    }

pub lower_call-returns : goal.lower_call-returns
lower_call-returns t c =
    let i = c.loop-arg.invariant in
    record {
      is = c.finish_call-2.ensures.is ∙ finishes i.left c.in-None.ensures.steps;
      log_alone = then_alone c.args.ctx.now _ _ i.left.same c.finish_call-2.ensures.log_alone;
    }

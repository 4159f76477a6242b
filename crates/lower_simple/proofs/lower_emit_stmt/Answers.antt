-- `lower_simple::lower_emit_stmt`: the arguments one by one, then the event. Assumes nothing.
use mathlib.Core.Path.{refl, ◌∙◌}
use Rattle.ir.proofs.Exits.{exit}
use Rattle.lower_walk.specs.Stmts.{walk_stmt}
use Rattle.lower_exprs.proofs.ArgSteps.{begins, goes_on, refuses}
use Rattle.lower_exprs.proofs.ExprSteps.{value_on_sheet}
use Rattle.lower_simple.proofs.Emitting.{emits}
use Rattle.lower_simple.proofs.lower_emit_stmt.Goals as goal

pub loop-arg-init : goal.loop-arg-init
loop-arg-init c = rw c.into_iter-arg-iterator.ensures.into_iter_gives (record { sheet = refl; left = begins c.requires c.new-values.ensures refl })

pub returns-in_err-value-clause-is : goal.returns-in_err-value-clause-is
unfolding walk_stmt
returns-in_err-value-clause-is c =
    let f = c.in-Some.ensures.steps in
    let i = c.loop-arg.invariant in
    λ place. rw (exit c.from_residual.ensures.1) (refuses i.left f.is (value_on_sheet _ _ _ (f.sheet ∙ i.sheet) c.in_err-value.ensures.is))

pub loop-arg-preserved : goal.loop-arg-preserved
loop-arg-preserved c =
    let f = c.in-Some.ensures.steps in
    let i = c.loop-arg.invariant in
    record {
      sheet = f.rest_sheet ∙ i.sheet;
      left = rw c.push.ensures (goes_on i.left f.is (value_on_sheet _ _ _ (f.sheet ∙ i.sheet) c.in_ok-value.ensures.is) c.in_ok-value.ensures.log_alone);
    }

pub returns-clause-is : goal.returns-clause-is
unfolding walk_stmt
returns-clause-is c = λ place. emits _ _ c.loop-arg.invariant.left c.in-None.ensures.steps c.emit_event.ensures

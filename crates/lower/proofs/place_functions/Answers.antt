-- `place_functions`: the functions one after the other, each one's record behind the last. Assumes nothing.
use Rattle.ir.proofs.Exits.{exit}
use Rattle.lower_layout.proofs.Storing.{laid_start}
use Rattle.lower.proofs.Placing.{begins, ends, one_more, refuses}
use Rattle.lower.proofs.place_functions.Goals as goal

pub loop-id-init : goal.loop-id-init
loop-id-init c =
    let e = c.iter-id-items.ensures in
    rw c.into_iter-id-iterator.ensures.into_iter_gives (begins e.0 e.1 (laid_start c.place_behind-to.ensures))

pub returns-in_err-to : goal.returns-in_err-to
returns-in_err-to c = rw (exit c.from_residual.ensures.1) (refuses c.loop-id.invariant c.in-Some.ensures.steps c.place_function.new.out c.in_err-to.field-0.0 c.in_err-to.ensures)

pub loop-id-preserved : goal.loop-id-preserved
loop-id-preserved c = one_more c.loop-id.invariant c.in-Some.ensures.steps c.place_function.new.out c.in_ok-to.to c.in_ok-to.ensures

pub returns : goal.returns
returns c = ends c.loop-id.invariant c.in-None.ensures.steps

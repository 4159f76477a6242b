-- `sheet::records::records`: each record's way through the code, by `Checks`. Assumes nothing.
use Rattle.std.proofs.Common.{arith}
use Rattle.sheet.specs.Forms.{form_of}
use Rattle.ir.proofs.Exits.{exit}
use Rattle.sheet.proofs.Checks.{over, not_there, inside, goes_on, ends_bad, childless}
use Rattle.sheet.proofs.records.+records.Goals as goal
use Rattle.sheet.proofs.records.+records.Goals.{then-next+in_ok-records, else-next+else-not-may_end}

pub returns-in_err-next : goal.returns-in_err-next
unfolding form_of
returns-in_err-next t c =
    rw (exit c.from_residual.ensures.1) (not_there c.loop-place.invariant c.loop-place-test.true c.in_err-next.ensures.is c.in_err-next.ensures.place)

pub records-requires : goal.records-requires
records-requires t c =
    let w = inside c.loop-place.invariant c.loop-place-test.true _ _ c.in_ok-next.ensures.is in
    (omega (arith, w.low, w.mid, w.high), (w.mid, omega (arith, w.high)))

pub returns-in_err-records : goal.returns-in_err-records
unfolding form_of
returns-in_err-records t c =
    rw (exit c.from_residual-in_err-records.ensures.1) (ends_bad c.loop-place.invariant c.loop-place-test.true _ _ c.in_ok-next.ensures.is c.in_err-records.ensures)

pub returns-then-not-may_end : goal.returns-then-not-may_end
unfolding form_of
returns-then-not-may_end t c =
    ends_bad c.loop-place.invariant c.loop-place-test.true _ _ c.in_ok-next.ensures.is
    (childless c.loop-place.invariant c.loop-place-test.true _ _ c.in_ok-next.ensures.is c.if-next.false c.may_end.ensures c.if-not-may_end.true)

pub loop-place-smaller : goal.loop-place-smaller
loop-place-smaller t c =
    let w = inside c.loop-place.invariant c.loop-place-test.true _ _ c.in_ok-next.ensures.is in
    omega (arith, w.low, w.mid, w.high)

pub loop-place-preserved : goal.loop-place-preserved
unfolding form_of
loop-place-preserved t c =
    goes_on c.loop-place.invariant c.loop-place-test.true _ _ c.in_ok-next.ensures.is
    (elim c.if-next.branch [
      | then-next+in_ok-records w ↦ w.in_ok-records.ensures
      | else-next+else-not-may_end w ↦
          childless c.loop-place.invariant c.loop-place-test.true _ _ c.in_ok-next.ensures.is w.if-next.false w.may_end.ensures w.if-not-may_end.false
    ])

pub returns-then-may_end : goal.returns-then-may_end
unfolding form_of
returns-then-may_end t c = over c.loop-place.invariant c.loop-place-test.false c.may_end-2.ensures c.if-may_end.true

pub returns-else-may_end : goal.returns-else-may_end
unfolding form_of
returns-else-may_end t c = over c.loop-place.invariant c.loop-place-test.false c.may_end-2.ensures c.if-may_end.false

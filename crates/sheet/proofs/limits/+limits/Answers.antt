-- `sheet::limits::limits`: each record's way through the code, by `Within`. Assumes nothing.
use Rattle.std.proofs.Common.{ℕ, ◌+◌, ap, arith}
use Rattle.format.specs.Kinds.{kind_number}
use Rattle.sheet.specs.Forms.{limits_of}
use Rattle.sheet.specs.Limits.{counts_of}
use Rattle.ir.proofs.Exits.{exit}
use Rattle.sheet.proofs.Within.{Clear, over_now, too_deep, one_too_many, too_wide_lem, clears, goes_on, none_inside, ends_bad, kids_passed}
use Rattle.sheet.proofs.limits.+limits.Goals as goal
use Rattle.sheet.proofs.limits.+limits.Goals.{Else-too_wide, then-depth-gt-MOST_DEPTH-via-then-depth-gt-MOST_DEPTH, then-depth-gt-MOST_DEPTH-via-else-depth-gt-MOST_DEPTH+then-too_many, then-depth-gt-MOST_DEPTH-via-else-depth-gt-MOST_DEPTH+else-too_many+then-too_wide}

-- a record within the limits
cleared : {t : ℕ} (c : Else-too_wide t) → let a = c.args in let l = c.loop-place in Clear a.s.now a.at a.end a.depth l.place (l.place + c.read.result) (kind_number c.record_kind-kind.result) (counts_of l.before)
cleared c =
    clears c.loop-place.invariant c.loop-place-test.true c.record_kind-kind.ensures c.if-depth-gt-MOST_DEPTH.false
    c.too_many.ensures c.if-too_many.false c.too_wide.ensures c.if-too_wide.false (ap (λ (l : ℕ). c.loop-place.place + l) c.read.ensures.0)

pub returns-then-depth-gt-MOST_DEPTH : goal.returns-then-depth-gt-MOST_DEPTH
unfolding limits_of
returns-then-depth-gt-MOST_DEPTH t c =
    elim c.then-depth-gt-MOST_DEPTH.branch [
      | then-depth-gt-MOST_DEPTH-via-then-depth-gt-MOST_DEPTH w ↦
          too_deep c.loop-place.invariant c.loop-place-test.true c.record_kind-kind.ensures w.if-depth-gt-MOST_DEPTH.true
      | then-depth-gt-MOST_DEPTH-via-else-depth-gt-MOST_DEPTH+then-too_many w ↦
          one_too_many c.loop-place.invariant c.loop-place-test.true c.record_kind-kind.ensures w.if-depth-gt-MOST_DEPTH.false w.too_many.ensures w.if-too_many.true
      | then-depth-gt-MOST_DEPTH-via-else-depth-gt-MOST_DEPTH+else-too_many+then-too_wide w ↦
          too_wide_lem c.loop-place.invariant c.loop-place-test.true c.record_kind-kind.ensures w.if-depth-gt-MOST_DEPTH.false w.too_many.ensures w.if-too_many.false w.too_wide.ensures w.if-too_wide.true
    ]

pub limits-requires : goal.limits-requires
limits-requires t c =
    let d = cleared (goal.at.limits-requires t c).Else-too_wide in
    (omega arith, (kids_passed d c.body_of-body.ensures, (omega arith, omega arith)))

pub returns-in_err-limits : goal.returns-in_err-limits
unfolding limits_of
returns-in_err-limits t c =
    rw (exit c.from_residual.ensures.1) (ends_bad (cleared (goal.at.returns-in_err-limits t c).Else-too_wide) c.body_of-body.ensures c.in_err-limits.ensures)

pub loop-place-preserved-in_ok-limits : goal.loop-place-preserved-in_ok-limits
unfolding limits_of
loop-place-preserved-in_ok-limits t c =
    goes_on (cleared (goal.at.loop-place-preserved-in_ok-limits t c).Else-too_wide) c.body_of-body.ensures c.add.ensures c.in_ok-limits.ensures

pub loop-place-preserved : goal.loop-place-preserved
loop-place-preserved t c =
    let d = cleared (goal.at.loop-place-preserved t c).Else-too_wide in
    goes_on d c.body_of-body.ensures c.add.ensures (none_inside d c.body_of-body.ensures c.if-body-stop.false)

pub returns : goal.returns
unfolding limits_of
returns t c = over_now c.loop-place.invariant c.loop-place-test.false

-- `line_text::put_numbers`: one more number. Assumes nothing.
use Rattle.std.proofs.Common.{◌≡◌, ◌+◌, ◌≤◌, ◌<◌, ◌∷◌, length, take, ◌∙◌, arith, length-set}
use Rattle.std.proofs.lemmas.List.{take_more_set}
use Rattle.line_text.proofs.Spaced.{first, next, last, ok_line}
use Rattle.line_text.proofs.put_numbers.Goals as goal

pub returns-in_default : goal.returns-in_default
returns-in_default c =
    let none : length c.args.numbers.now ≡ 0 = c.in_default.ensures.cases in
    rw c.copy_from_slice.ensures.after (ok_line c.args.numbers.now c.args.text.now none c.requires.1)

pub loop-detail-init : goal.loop-detail-init
loop-detail-init c =
    let p = c.put_digits-at.ensures in
    let split : c.args.numbers.now ≡ c.in-Some.first.now ∷ c.in-Some.details.now = c.in-Some.ensures.cases.0 in
    (omega (arith, p.high), p.same_length, rw split (first c.in-Some.first.now c.in-Some.details.now _ p.front))

pub loop-detail-preserved : goal.loop-detail-preserved
loop-detail-preserved c =
    let l = c.loop-detail in
    let p = c.put_digits-at-in-loop-detail.ensures in
    let room : l.at < length l.text = omega (arith, c.in-Some.ensures.cases.1, c.loop-detail-test.true, l.invariant.0, l.invariant.1) in (
      omega (arith, p.high, l.invariant.0),
      p.same_length ∙ length-set l.text l.at 32 ∙ l.invariant.1,
      rw (p.front, take_more_set l.text l.at 32 room) (next _ c.in-Some.details.now (take l.at l.text) l.detail-index c.loop-detail-test.true l.invariant.2),
    )

pub returns : goal.returns
returns c =
    let l = c.loop-detail in
    let details = c.in-Some.details.now in
    let few : length details + 1 ≤ 6 = omega (arith, c.in-Some.ensures.cases.1, c.requires.0) in
    record {
      front = last _ details l.text l.at l.detail-index (omega (arith, few, l.invariant.0)) (omega (arith, c.loop-detail-test.false)) l.invariant.2;
      same_length = length-set l.text l.at 10 ∙ l.invariant.1;
      short = omega (arith, few, l.invariant.0);
    }

-- `lower_line::lower_line`: the line of what `lower` answers, from the sheet in the output or from the numbers. Assumes nothing.
use Rattle.std.proofs.Common.{◌≡◌, length, take, ap, ◌∙◌}
use Rattle.definitions.specs.Result.{ok}
use Rattle.definitions.specs.Answers.{lower_sheet, padded}
use Rattle.definitions.specs.Lines.{line_of, lowered_line}
use Rattle.lower_line.proofs.Lowered.{accepted_fits, accepted_line_is, refused_line_is}
use Rattle.lower_line.proofs.lower_line.Goals as goal

pub shared_ref_as_front-accepted_line : goal.shared_ref_as_front-accepted_line
shared_ref_as_front-accepted_line c = accepted_fits c.args.sheet.now _ c.in-Ok.length c.in-Ok.ensures.answered

accepted : (c : goal.After-accepted_line) → lowered_line (ok (take c.in-Ok.length c.lower.new.out)) ≡ lowered_line (lower_sheet c.args.sheet.now 32768)
accepted c =
    let s = c.args.sheet.now in
    let e = c.in-Ok.ensures in
    let answered = rw c.told-out at e.answered in
    accepted_line_is (lower_sheet s 32768) c.lower.new.out 32768 c.in-Ok.length (accepted_fits s 32768 c.in-Ok.length answered) answered (rw c.told-out at e.out_after)

pub returns-in-Ok-clause-text_after : goal.returns-in-Ok-clause-text_after
returns-in-Ok-clause-text_after c = rw c.told-text at c.accepted_line.ensures.is ∙ ap (padded 98307) (accepted c)

pub returns-in-Ok-clause-len : goal.returns-in-Ok-clause-len
returns-in-Ok-clause-len c = c.accepted_line.ensures.size ∙ ap length (accepted c)

pub returns-in-Err-clause-text_after : goal.returns-in-Err-clause-text_after
returns-in-Err-clause-text_after c =
    let refused = refused_line_is (lower_sheet c.args.sheet.now 32768) _ (rw c.told-out at c.in-Err.ensures.answered) in
    rw c.told-text at c.put_line.ensures.is ∙ ap (padded 98307) (ap line_of c.lower_numbers.ensures ∙ refused)

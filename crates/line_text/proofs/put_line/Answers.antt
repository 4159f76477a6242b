-- `line_text::put_line`: the line, then zeros. Assumes nothing.
use Rattle.std.proofs.Common.{ap, ◌∙◌, arith}
use Rattle.definitions.specs.Lines.{line_of}
use Rattle.line_text.proofs.Zeros.{filled}
use Rattle.line_text.proofs.put_line.Goals as goal

pub returns : goal.returns
returns c =
    let p = c.put_numbers-end in
    let b = p.ensures in
    filled _ p.new.text _ p.result _ (b.front ∙ ap line_of c.as_slice.ensures.is) b.same_length (omega (arith, b.short, c.requires)) c.clear.ensures

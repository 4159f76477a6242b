-- `line_text::accepted_line`: `OK`, the bytes, a line feed, then zeros. Assumes nothing.
use Rattle.std.proofs.Common.{arith}
use Rattle.line_text.proofs.Zeros.{filled}
use Rattle.line_text.proofs.Hexed.{accepted_front, accepted_length}
use Rattle.line_text.proofs.accepted_line.Goals as goal

pub returns : goal.returns
returns c =
    let a = c.args in
    let hex = c.put_hex.new.text in
    filled _ _ _ _ _ (accepted_front a.sheet.now a.text.now hex _ c.put_hex.ensures c.requires (omega arith)) (accepted_length a.sheet.now a.text.now hex _ c.put_hex.ensures c.requires (omega arith)) (omega (arith, c.requires))
    (rw c.copy_from_slice.ensures.after at c.clear.ensures)

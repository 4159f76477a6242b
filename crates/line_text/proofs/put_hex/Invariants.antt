-- `line_text::put_hex`: the bytes before i are written. Assumes nothing.
use Rattle.std.proofs.Common.{◌≡◌, ◌*◌, length, take}
use Rattle.definitions.specs.Lines.{hexed}
use Rattle.line_text.proofs.put_hex.Given as goal

abbrev pub invariant-loop-i : goal.invariant-loop-i
invariant-loop-i l = (length l.text ≡ 3 * length l.bytes) × (take (3 * l.i) l.text ≡ hexed (take l.i l.bytes))

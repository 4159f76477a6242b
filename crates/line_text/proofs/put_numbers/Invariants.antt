-- `line_text::put_numbers`: what is written, with the numbers that are left behind it, is the whole line; each number takes 21 bytes at most. Assumes nothing.
use Rattle.std.proofs.Common.{◌≡◌, ◌+◌, ◌*◌, ◌≤◌, length, take}
use Rattle.definitions.specs.Lines.{line_of}
use Rattle.line_text.proofs.Spaced.{Goes}
use Rattle.line_text.proofs.put_numbers.Given as goal

abbrev pub invariant-loop-detail : goal.invariant-loop-detail
invariant-loop-detail l = (l.at + 1 ≤ 21 * (l.detail-index + 1)) × (length l.text ≡ length l.fn.text) × Goes (line_of l.fn.numbers) l.details (take l.at l.text) l.detail-index

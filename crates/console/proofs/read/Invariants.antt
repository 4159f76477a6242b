-- `console::read`: the bytes that were read stand at the start of the buffer, and each turn leaves fewer to read. Assumes nothing.
use Rattle.std.proofs.Common.{◌-◌, ◌≤◌, length}
use Rattle.console.proofs.read.Given as goal

abbrev pub invariant-loop-done : goal.invariant-loop-done
invariant-loop-done l = l.done ≤ length l.buf

abbrev pub decreases-loop-done : goal.decreases-loop-done
decreases-loop-done l = length l.buf - l.done

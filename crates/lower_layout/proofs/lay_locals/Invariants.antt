-- `lower_layout::lay_locals`: the types before i are written. Assumes nothing.
use Rattle.std.proofs.Common.{◌+◌, ◌*◌, take}
use Rattle.lower_state.specs.Bytes.{Put}
use Rattle.lower_layout.proofs.Records.{locals_part}
use Rattle.lower_layout.proofs.lay_locals.Given as goal

abbrev pub invariant-loop-i : goal.invariant-loop-i
invariant-loop-i l = Put (locals_part (take l.i l.locals)) l.initial.out l.first l.out (l.first + 4 * l.i)

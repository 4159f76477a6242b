-- `place_functions`: the functions one after the other, each one's record behind the last. Assumes nothing.
use Rattle.lower.proofs.Placing.{Along}
use Rattle.lower.proofs.place_functions.Given as goal

abbrev pub invariant-loop-id : goal.invariant-loop-id
invariant-loop-id l = Along l.functions l.initial.out l.out l.to l.id-iterator

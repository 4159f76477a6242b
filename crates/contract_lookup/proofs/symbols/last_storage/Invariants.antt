use Prim.Native.Nat.{◌-◌}
use lib.ListN.{length}
use Rattle.contract_lookup.proofs.Storing.{Behind}
use Rattle.contract_lookup.proofs.symbols.last_storage.Given as goal

abbrev pub invariant-loop-at : goal.invariant-loop-at
invariant-loop-at l = Behind l.s l.wanted l.found l.at

abbrev pub decreases-loop-at : goal.decreases-loop-at
decreases-loop-at l = length l.s - l.at

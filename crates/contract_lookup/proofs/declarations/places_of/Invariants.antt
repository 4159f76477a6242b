use Prim.Native.Nat.{◌-◌}
use lib.ListN.{length}
use Rattle.format.specs.Kinds.{declaration_number}
use Rattle.contract_lookup.proofs.Placing.{Listing}
use Rattle.contract_lookup.proofs.declarations.places_of.Given as goal

abbrev pub invariant-loop-at : goal.invariant-loop-at
invariant-loop-at g l = Listing l.s (declaration_number l.fn.kind) l.places.items l.at

abbrev pub decreases-loop-at : goal.decreases-loop-at
decreases-loop-at g l = length l.s - l.at

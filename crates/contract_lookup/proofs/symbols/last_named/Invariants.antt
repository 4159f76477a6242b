use Prim.Native.Nat.{◌-◌}
use lib.ListN.{length}
use Rattle.format.specs.Kinds.{declaration_number}
use Rattle.contract_lookup.proofs.Lasts.{Walking}
use Rattle.contract_lookup.proofs.symbols.last_named.Given as goal

abbrev pub invariant-loop-at : goal.invariant-loop-at
invariant-loop-at l = Walking l.s (declaration_number l.fn.kind) l.name.0 l.found l.position l.at

abbrev pub decreases-loop-at : goal.decreases-loop-at
decreases-loop-at l = length l.s - l.at

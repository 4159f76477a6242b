use Rattle.std.specs.Iterator.Adapters.{rev_source}
use Rattle.std.specs.Slice.Iter.{iter_rest}
use Rattle.contract_lookup.proofs.Placing.{Left}
use Rattle.contract_lookup.proofs.declarations.last_place.Given as goal

abbrev pub invariant-loop-place : goal.invariant-loop-place
invariant-loop-place l = Left l.contract.sheet.now l.places l.name.0 (iter_rest (rev_source l.place-iterator))

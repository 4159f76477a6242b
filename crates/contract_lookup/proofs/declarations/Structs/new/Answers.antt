use Rattle.contract_lookup.proofs.declarations.Structs.new.Goals as goal

pub invariant_of-result : goal.invariant_of-result
invariant_of-result c = record { listed = c.places_of.ensures }

-- `contract_lookup::declarations::last_place`: the places that are left give what all of them give. Assumes nothing.
use Rattle.std.proofs.lemmas.List.{nil_from_length}
use Rattle.contract_lookup.proofs.Lasts.{same_name, other_name}
use Rattle.contract_lookup.proofs.Placing.{none_there, hit, miss}
use Rattle.contract_lookup.proofs.declarations.last_place.Goals as goal

pub returns-then-eq : goal.returns-then-eq
returns-then-eq c kind L =
    hit kind c.args.contract.passed L c.loop-place.invariant _ _ c.in-Some.ensures.steps (same_name c.eq.ensures c.new.ensures c.read_u16.ensures c.if-eq.true)

pub loop-place-preserved : goal.loop-place-preserved
loop-place-preserved c =
    miss c.requires.0 c.args.contract.passed c.requires.1 c.loop-place.invariant _ _ c.in-Some.ensures.steps (other_name c.eq.ensures c.new.ensures c.read_u16.ensures c.if-eq.false)

pub returns : goal.returns
returns c kind L = none_there kind c.args.contract.passed L c.loop-place.invariant (nil_from_length _ c.in-None.ensures.steps.0)

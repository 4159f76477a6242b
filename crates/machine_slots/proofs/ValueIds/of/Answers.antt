-- `machine_slots::ValueIds::of`: no id was sought, so all of them were passed. Assumes nothing.
use mathlib.Core.Path.{ap}
use Rattle.machine_slots.specs.declared.Tally.{Tally}
use Rattle.machine_slots.proofs.Searching.{all_counted, tally_is}
use Rattle.machine_slots.proofs.ValueIds.of.Goals as goal

pub unwrap-tally-requires : goal.unwrap-tally-requires
unwrap-tally-requires c = rw (c.search.ensures, all_counted)

pub invariant_of-result : goal.invariant_of-result
invariant_of-result c =
    let e = tally_is _ c.search.ensures c.unwrap-tally.ensures in
    record { count_is = ap (λ (t : Tally). t.count) e; above_is = ap (λ (t : Tally). t.above) e }

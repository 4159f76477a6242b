-- `records::put_ids`: one more id is stored. Assumes nothing.
use mathlib.Core.Path.{refl}
use native.Mathlib.Omega.{arith}
use Rattle.definitions.specs.Records.{small, write_item, write_items}
use Rattle.ir.specs.declared.ValueId.{ValueId}
use Rattle.lower_state.proofs.Appending.{◌then◌}
use Rattle.lower_state.proofs.Items.{one_more}
use Rattle.lower_state.proofs.records.put_ids.Goals as goal

pub loop-id-init : goal.loop-id-init
unfolding write_items
loop-id-init c = (record { is = refl; past = omega arith }, omega arith)

pub loop-id-preserved : goal.loop-id-preserved
unfolding write_item
loop-id-preserved c =
    let l = c.loop-id in
    (rw (← one_more small (λ (v : ValueId). v.0) c.args.ids.now l.id-index (record { 0 = 0 }) c.loop-id-test.true) (l.invariant.0 then c.put-to.ensures.put), omega arith)

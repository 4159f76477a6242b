-- `lower_layout::lay_locals`: the types before i are written. Assumes nothing.
use mathlib.Core.Path.{◌≡◌, refl}
use native.Mathlib.Omega.{arith}
use lib.ListN.{length}
use Rattle.std.proofs.lemmas.List.{take_all}
use Rattle.definitions.specs.Records.{ty, write_item, write_items}
use Rattle.ir.specs.Types.{as_type}
use Rattle.lower_state.proofs.Appending.{◌then◌}
use Rattle.lower_state.proofs.Items.{one_more}
use Rattle.lower_layout.proofs.Storing.{wrote, put_as}
use Rattle.lower_layout.proofs.Records.{locals_are}
use Rattle.lower_layout.proofs.lay_locals.Goals as goal

pub loop-i-init : goal.loop-i-init
unfolding write_items
loop-i-init c = record { is = refl; past = refl }

pub loop-i-preserved : goal.loop-i-preserved
unfolding write_item
loop-i-preserved c =
    let ts = c.args.locals.now in
    let l = c.loop-i in
    put_as (one_more ty as_type ts l.i _ (omega arith)) (l.invariant then put_as c.from.ensures.1 (wrote 4 _ c.write-in-loop-i.ensures (omega arith)))

pub returns : goal.returns
returns c =
    let ts = c.args.locals.now in
    let l = c.loop-i in
    let n : length ts ≡ l.i = omega arith in
    let e = take_all l.i ts (omega arith) in
    put_as (locals_are ts) (wrote 2 _ c.write.ensures refl then rw (e, ← n) at l.invariant)

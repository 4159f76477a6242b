-- `lower_layout::lay_block`: the block's head, and its records. Assumes nothing.
use mathlib.Core.Path.{refl}
use native.Mathlib.Omega.{arith}
use lib.ListN.{length}
use Rattle.std.proofs.lemmas.List.{take_all}
use Rattle.lower_state.proofs.Appending.{◌then◌}
use Rattle.lower_layout.proofs.Storing.{wrote, wrote_head, put_as}
use Rattle.lower_layout.proofs.Records.{block_is}
use Rattle.lower_layout.proofs.lay_block.Goals as goal

pub returns : goal.returns
returns c =
    let a = c.args in
    let x = a.records.now in
    let e = take_all (length x) x (omega arith) in
    put_as (block_is a.block.0 x)
    (wrote_head _ 53 c.write_head.ensures refl
    then wrote 2 a.block.0 c.write.ensures (omega arith)
    then record { is = rw e at c.copy.ensures; past = omega arith })

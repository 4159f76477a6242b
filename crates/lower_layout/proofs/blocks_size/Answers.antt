-- `lower_layout::blocks_size`: the bytes of the blocks before k are added up. Assumes nothing.
use mathlib.Core.Path.{refl, ap, ◌∙◌}
use Prim.Native.Nat.{◌-◌}
use native.Mathlib.Omega.{arith}
use lib.ListN.{length, get_or, drop}
use Rattle.std.proofs.lemmas.List.{length-take}
use Rattle.lower_layout.proofs.Storing.{run}
use Rattle.lower_layout.proofs.Records.{block_here, one_block, blocks_run}
use Rattle.lower_layout.proofs.blocks_size.Goals as goal

pub loop-k-init : goal.loop-k-init
unfolding run
loop-k-init c = (refl, omega arith)

pub loop-k-preserved : goal.loop-k-preserved
loop-k-preserved c =
    let a = c.args.ctx.now in
    let l = c.loop-k in
    let x = c.records.result.now in
    let w = c.requires l.k (omega arith) in
    let start = get_or a.starts l.k 0 in
    let n = ap length c.records.ensures ∙ length-take (get_or a.stops l.k 0 - start) (drop start a.log.bytes) in
    (omega (arith, one_block a l.k x (block_here a l.k c.records.ensures), l.invariant.0), omega (arith, n, w.1.0, w.1.1, l.invariant.1))

pub returns-clause-is : goal.returns-clause-is
returns-clause-is c = rw (blocks_run c.args.ctx.now c.loop-k.k (omega arith)) c.loop-k.invariant.0

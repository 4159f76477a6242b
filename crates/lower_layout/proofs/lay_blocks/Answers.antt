-- `lower_layout::lay_blocks`: the blocks before k are written. Assumes nothing.
use mathlib.Core.Path.{refl, sym, ap, ◌∙◌}
use native.Mathlib.Omega.{arith}
use lib.ListN.{length}
use Rattle.lower_layout.proofs.Storing.{run_none, run_next, run_room, put_as}
use Rattle.lower_layout.proofs.Records.{block_at, block_here, block_length, blocks_run}
use Rattle.lower_layout.proofs.lay_blocks.Goals as goal

pub loop-k-init : goal.loop-k-init
loop-k-init c = run_none _ _ _

pub lay_block-at-requires : goal.lay_block-at-requires
lay_block-at-requires c =
    let a = c.args.ctx.now in
    let l = c.loop-k in
    let x = c.records.result.now in
    let e = ap length (sym (block_here a l.k c.records.ensures)) ∙ block_length l.k x in
    let r = run_room (block_at a) l.k a.next_block l.invariant (omega arith) (rw (blocks_run a a.next_block refl) at c.requires.room) in
    omega (arith, r, e)

pub loop-k-preserved : goal.loop-k-preserved
loop-k-preserved c = run_next _ _ c.loop-k.invariant (put_as (block_here c.args.ctx.now c.loop-k.k c.records.ensures) c.lay_block-at.ensures)

pub returns : goal.returns
returns c = rw (blocks_run c.args.ctx.now c.loop-k.k (omega arith)) c.loop-k.invariant.is

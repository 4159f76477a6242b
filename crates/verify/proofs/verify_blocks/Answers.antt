-- `verify::verify_blocks`: the first block, or it is over. Assumes nothing.
use Rattle.ir.proofs.Exits.{exit}
use Rattle.verify.proofs.Seconds.{whole_blocks, block_failed, block_passed, blocks_over}
use Rattle.verify.proofs.verify_blocks.Goals as goal

pub loop-block-init : goal.loop-block-init
loop-block-init c = rw c.into_iter-block-iterator.ensures.into_iter_gives (whole_blocks c.args.f c.blocks-block-items.ensures.is)

pub returns-in_err-verify_block : goal.returns-in_err-verify_block
returns-in_err-verify_block c =
    rw (exit c.from_residual.ensures.1)
    (block_failed c.loop-block.invariant c.in-Some.block _ c.in-Some.ensures.steps.is c.in_err-verify_block.ensures)

pub loop-block-preserved : goal.loop-block-preserved
loop-block-preserved c = block_passed c.loop-block.invariant c.in-Some.block _ c.in-Some.ensures.steps.is c.in_ok-verify_block.ensures

pub returns : goal.returns
returns c = blocks_over c.loop-block.invariant c.in-None.ensures.steps.0

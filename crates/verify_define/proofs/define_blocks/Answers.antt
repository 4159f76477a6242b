-- `verify_define::define_blocks`: the first block, or it is over. Assumes nothing.
use Rattle.definitions.specs.Verify.{define_blocks}
use Rattle.ir.proofs.Exits.{exit}
use Rattle.verify_define.proofs.Firsts.{start, block_failed, block_passed, blocks_over}
use Rattle.verify_define.proofs.define_blocks.Goals as goal

pub loop-block-init : goal.loop-block-init
loop-block-init c = let E = c.blocks-block-items.ensures in rw c.into_iter-block-iterator.ensures.into_iter_gives (start define_blocks E.same_definitions E.is)

pub returns-in_err-define_block : goal.returns-in_err-define_block
returns-in_err-define_block c =
    let F = c.in-Some.ensures.steps in
    rw (exit c.from_residual.ensures.1) (block_failed _ c.in-Some.block F.definitions F.is c.loop-block.invariant c.in_err-define_block.ensures)

pub loop-block-preserved : goal.loop-block-preserved
loop-block-preserved c = let F = c.in-Some.ensures.steps in block_passed _ c.in-Some.block F.definitions F.is c.loop-block.invariant c.in_ok-define_block.ensures

pub returns : goal.returns
returns c = blocks_over c.in-None.ensures.steps.0 c.loop-block.invariant

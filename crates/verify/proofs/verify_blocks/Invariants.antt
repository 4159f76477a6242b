-- `verify::verify_blocks`: what is left of the blocks says what the whole says. Assumes nothing.
use Rattle.program_nodes.specs.Nodes.{blocks_in}
use Rattle.verify_state.proofs.Steps.{Leads}
use Rattle.verify.specs.Promises.{blocks_check}
use Rattle.verify.proofs.Seconds.{blocks_left}
use Rattle.verify.proofs.verify_blocks.Given as goal

abbrev pub invariant-loop-block : goal.invariant-loop-block
invariant-loop-block l = Leads l.f (blocks_check l.f) (blocks_left l.f (blocks_in l.block-iterator))

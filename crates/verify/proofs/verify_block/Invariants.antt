-- `verify::verify_block`: what is left of the block says what the whole says. Assumes nothing.
use Rattle.program_nodes.specs.Nodes.{block_in, instrs_in, terminator_in}
use Rattle.verify_state.proofs.Steps.{Leads}
use Rattle.verify.specs.Promises.{block_check}
use Rattle.verify.proofs.Seconds.{block_left}
use Rattle.verify.proofs.verify_block.Given as goal

abbrev pub invariant-loop-record : goal.invariant-loop-record
invariant-loop-record l = Leads l.f (block_check l.f l.block) (block_left l.f (block_in l.block).id (instrs_in l.record-iterator) (terminator_in l.record-iterator))

-- `verify_define::define_block`: what is left says what the whole says. Assumes nothing.
use Rattle.definitions.specs.Verify.{define_results}
use Rattle.program_nodes.specs.Nodes.{block_in, instrs_in, block_definitions_of, block_definitions_in}
use Rattle.verify_define.proofs.Firsts.{Rest}
use Rattle.verify_define.proofs.define_block.Given as goal

abbrev pub invariant-loop-record : goal.invariant-loop-record
invariant-loop-record l = Rest l.f (block_definitions_of l.block) (define_results (block_in l.block).instrs) (block_definitions_in l.record-iterator) (define_results (instrs_in l.record-iterator))

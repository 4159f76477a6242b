-- `verify_define::define_blocks`: what is left says what the whole says. Assumes nothing.
use Rattle.definitions.specs.Records.{read_records}
use Rattle.definitions.specs.Verify.{define_blocks}
use Rattle.program_nodes.specs.Definitions.{blocks_definitions}
use Rattle.program_nodes.specs.Nodes.{ir_of, blocks_in, blocks_definitions_in}
use Rattle.verify_define.proofs.Firsts.{Rest}
use Rattle.verify_define.proofs.define_blocks.Given as goal

abbrev pub invariant-loop-block : goal.invariant-loop-block
invariant-loop-block l = Rest l.f (blocks_definitions (read_records l.f.program.sheet.now l.f.first l.f.stop)) (define_blocks (ir_of l.f).blocks) (blocks_definitions_in l.block-iterator) (define_blocks (blocks_in l.block-iterator))

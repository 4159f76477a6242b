-- What the parts of the second pass check. Helpers of contracts: no public promise cites them. Assumes nothing: these are definitions.
use Rattle.definitions.specs.Result.{Done}
use Rattle.definitions.specs.Verify.{Checked, Defined, verify_block, verify_blocks}
use Rattle.program_nodes.specs.Nodes.{ir_of, ids_of_all, block_in}
use Rattle.program_nodes.specs.declared.program.Function.{Function}
use Rattle.program_nodes.specs.declared.block.Block.{Block}

-- of a block in the function f, and of all its blocks
abbrev pub block_check : Function → Block → Defined → Checked Done
block_check f b ds = verify_block (block_in b) (ir_of f) ds (ids_of_all f.program)

abbrev pub blocks_check : Function → Defined → Checked Done
blocks_check f ds = verify_blocks (ir_of f).blocks (ir_of f) ds (ids_of_all f.program)

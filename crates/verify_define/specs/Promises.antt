-- What the parts of the first pass promise of their answers. Helpers of contracts: no public promise cites them. Assumes nothing: these are definitions.
use Rattle.std.specs.Prelude.{◌≡◌, List, ◌++◌}
use Rattle.definitions.specs.Records.{read_records}
use Rattle.definitions.specs.Verify.{Checked, Defined, define_params, define_result, define_results, define_blocks}
use Rattle.program_nodes.specs.Definitions.{Definition, blocks_definitions}
use Rattle.program_nodes.specs.Nodes.{ir_of, instr_in, result_in, block_in, result_definition_in, block_definitions_of, params_of, definitions_of}
use Rattle.program_nodes.specs.declared.program.Function.{Function}
use Rattle.program_nodes.specs.declared.block.Block.{Block}
use Rattle.program_nodes.specs.declared.instr.Instr.{Instr}
use Rattle.verify_state.specs.Errors.{Outcome}
use Rattle.verify_state.specs.Promises.{SameTable, Says}

-- r is what k says with the table before its own definitions
pub record Defines (f : Function) (r : Outcome) (own : List Definition) (k : Defined → Checked Defined) : Type 0 where
  pub says : (ds : Defined) (before after : List Definition) → SameTable ds before → definitions_of f ≡ before ++ (own ++ after) → Says f r (k ds)

-- r is what the definition by the result of an instruction says, those of a block, those of all blocks, and those of the parameters
abbrev pub DefinesResult : Function → Outcome → Instr → Type 0
DefinesResult f r i = Defines f r (result_definition_in i) (define_result (instr_in i) (result_in i))

abbrev pub DefinesBlock : Function → Outcome → Block → Type 0
DefinesBlock f r b = Defines f r (block_definitions_of b) (define_results (block_in b).instrs)

abbrev pub DefinesBlocks : Function → Outcome → Type 0
DefinesBlocks f r = Defines f r (blocks_definitions (read_records f.program.sheet.now f.first f.stop)) (define_blocks (ir_of f).blocks)

abbrev pub DefinesParams : Function → Outcome → Type 0
DefinesParams f r = Defines f r (params_of f) (define_params (ir_of f).params)

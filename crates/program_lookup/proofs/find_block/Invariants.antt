-- `program_lookup::find_block`: what is left of the blocks is searched. Assumes nothing.
use mathlib.Core.Path.{◌≡◌}
use Rattle.definitions.specs.Ir.{find}
use Rattle.program_nodes.specs.Nodes.{ir_of, blocks_in}
use Rattle.program_lookup.proofs.find_block.Given as goal

abbrev pub invariant-loop-block : goal.invariant-loop-block
invariant-loop-block l = (find l.b.0 (blocks_in l.block-iterator) ≡ find l.b.0 (ir_of l.f).blocks) × (l.block-iterator.sheet.now ≡ l.f.program.sheet.now)

-- `machine_slots::Tally::pass_block`: what is left of the records is passed. Assumes nothing.
use Prim.Native.Nat.{◌+◌}
use lib.ListN.{length}
use Rattle.program_nodes.specs.Nodes.{block_in, instrs_in}
use Rattle.machine_slots.specs.Slots.{id_of, searched, block_results}
use Rattle.machine_slots.proofs.Searching.{Left}
use Rattle.machine_slots.proofs.Tally.pass_block.Given as goal

abbrev pub invariant-loop-record : goal.invariant-loop-record
invariant-loop-record l =
    Left (id_of l.v) (searched l.fn.self (block_results (block_in l.block).instrs) (id_of l.v)) (l.fn.self.count + length (block_results (block_in l.block).instrs)) l.tally (block_results (instrs_in l.record-iterator))

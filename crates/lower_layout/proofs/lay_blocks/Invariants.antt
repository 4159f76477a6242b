-- `lower_layout::lay_blocks`: the blocks before k are written. Assumes nothing.
use Rattle.lower_state.specs.Bytes.{Put}
use Rattle.lower_layout.proofs.Storing.{run}
use Rattle.lower_layout.proofs.Records.{block_at}
use Rattle.lower_layout.proofs.lay_blocks.Given as goal

abbrev pub invariant-loop-k : goal.invariant-loop-k
invariant-loop-k l = Put (run (block_at l.ctx) 0 l.k) l.initial.out l.to l.out l.at

-- `lower_layout::blocks_size`: the bytes of the blocks before k are added up. Assumes nothing.
use Rattle.std.proofs.Common.{◌≡◌, ◌*◌, ◌≤◌, length}
use Rattle.lower_layout.proofs.Storing.{run}
use Rattle.lower_layout.proofs.Records.{block_at}
use Rattle.lower_layout.proofs.blocks_size.Given as goal

abbrev pub invariant-loop-k : goal.invariant-loop-k
invariant-loop-k l = (l.size ≡ length (run (block_at l.ctx) 0 l.k)) × (l.size ≤ 32776 * l.k)

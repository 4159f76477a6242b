-- `reader::number`: the number's last bytes are summed up, its first are left. Assumes nothing.
use Rattle.reader.proofs.Reading.{Left}
use Rattle.reader.proofs.number.Given as goal

abbrev pub invariant-loop-byte : goal.invariant-loop-byte
invariant-loop-byte l = Left l.n l.s l.at l.byte-iterator.iter.rest.now l.sum

-- `writer::write`: the run is the bytes that are written, and what is left of it behind them. Assumes nothing.
use mathlib.Core.Path.{◌≡◌}
use Prim.Native.Nat.{◌-◌}
use lib.Seq.{sets}
use Rattle.definitions.specs.Fields.{bytes}
use Rattle.writer.proofs.write.Given as goal

abbrev pub invariant-loop-byte : goal.invariant-loop-byte
invariant-loop-byte l = sets l.byte-items l.byte-index (bytes (l.n - l.byte-index) l.rest) ≡ bytes l.n l.v

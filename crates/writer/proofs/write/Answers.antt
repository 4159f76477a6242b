-- `writer::write`: the run is the bytes that are written, and what is left of it behind them. Assumes nothing.
use mathlib.Core.Path.{◌≡◌, sym, ◌∙◌}
use Prim.Native.Nat.{◌-◌, ◌+◌}
use native.Mathlib.Omega.{arith}
use native.Mathlib.Nat.{sub-zero}
use borrow.Rule.Slice.PartMut.{mid_len}
use Rattle.definitions.specs.Fields.{bytes}
use Rattle.definitions.proofs.Fields.{length_bytes}
use Rattle.writer.proofs.Writing.{bytes_front, stored_whole, part_is_stored}
use Rattle.writer.proofs.write.Goals as goal

pub loop-byte-init : goal.loop-byte-init
loop-byte-init c =
    let long = mid_len c.args.at (c.args.at + c.args.n) c.args.out.now c.requires in
    rw sub-zero (stored_whole _ _ (omega (arith, long, length_bytes c.args.n c.args.v)))

pub loop-byte-preserved : goal.loop-byte-preserved
loop-byte-preserved c =
    let l = c.loop-byte in
    let left : c.args.n - (l.byte-index + 1) ≡ c.args.n - l.byte-index - 1 = omega arith in
    rw left (sym (bytes_front l.byte-items l.byte-index (c.args.n - l.byte-index) l.rest (omega (arith, mid_len c.args.at (c.args.at + c.args.n) c.args.out.now c.requires, c.loop-byte-test.true))) ∙ l.invariant)

pub returns : goal.returns
unfolding bytes
returns c =
    let l = c.loop-byte in
    let long = mid_len c.args.at (c.args.at + c.args.n) c.args.out.now c.requires in
    let none : c.args.n - l.byte-index ≡ 0 = omega (arith, long, c.loop-byte-test.false) in
    rw (rw none at l.invariant) (part_is_stored c.args.at (c.args.at + c.args.n) c.args.out.now (bytes c.args.n c.args.v) (omega arith) c.requires (omega (arith, length_bytes c.args.n c.args.v)))

-- `program_nodes::block::BlocksIterator::next`: a block stands there, or none is left. Assumes nothing.
use mathlib.Core.Path.{refl, ap}
use Prim.Native.Nat.{ℕ, ◌+◌}
use native.Mathlib.Omega.{arith}
use Rattle.definitions.proofs.Sheets.Steps.{low}
use Rattle.sheet.proofs.Standing.{good, kept}
use Rattle.program_nodes.proofs.Walk.{block_here_lem}
use Rattle.program_nodes.proofs.Takes.{first_block, no_block}
use Rattle.program_nodes.proofs.block.BlocksIterator.next.Goals as goal

pub returns-then-self-at-clause-steps : goal.returns-then-self-at-clause-steps
returns-then-self-at-clause-steps c = let w = c.args.self.now in let e = no_block w (omega (arith, low (kept w.here.0), c.if-self-at.true)) in (e.0, e.1, refl)

pub read-requires : goal.read-requires
read-requires c = let w = c.args.self.now in let B = block_here_lem (kept w.here.0) c.if-self-at.false in (omega (arith, B.low, B.high, w.here.1), omega arith)

pub invariant_of-self : goal.invariant_of-self
invariant_of-self c =
    let w = c.args.self.now in
    let B = block_here_lem (kept w.here.0) c.if-self-at.false in
    record { here = (rw c.read.ensures.0 (good B.next), w.here.1) }

pub invariant_of-result : goal.invariant_of-result
invariant_of-result c =
    let w = c.args.self.now in
    let B = block_here_lem (kept w.here.0) c.if-self-at.false in
    record { here = rw c.read.ensures.0 ((good B.records, omega (arith, B.high, w.here.1)), B.low, refl) }

pub returns-clause-steps : goal.returns-clause-steps
returns-clause-steps c =
    let w = c.args.self.now in
    let e = ap (λ (x : ℕ). w.at + x) c.read.ensures.0 in
    first_block (block_here_lem (kept w.here.0) c.if-self-at.false) refl refl e refl e refl

-- `program_nodes::block::RecordsIterator::next`: an instruction stands there, or the terminator, or nothing is left. Assumes nothing.
use mathlib.Core.Path.{refl, ap}
use Prim.Native.Nat.{ℕ, ◌+◌, ◌<◌}
use native.Mathlib.Omega.{arith}
use borrow.Author.Rules.{rules}
use Rattle.definitions.proofs.Sheets.Steps.{low}
use Rattle.definitions.specs.Fine.{ends}
use Rattle.definitions.specs.Records.{may_end}
use Rattle.sheet.specs.Passed.{stop_of}
use Rattle.sheet.proofs.Standing.{good, kept}
use Rattle.program_nodes.proofs.Walk.{InstrStep, TermStep, record_fits, record_long, rest_here, instr_here_lem, term_here_lem}
use Rattle.program_nodes.proofs.Takes.{first_instr, first_term, no_record}
use Rattle.program_nodes.proofs.block.RecordsIterator.next.Goals as goal
use Rattle.program_nodes.proofs.block.RecordsIterator.next.Goals.{Then-kind-lt-FIRST_TERMINATOR, Else-kind-lt-FIRST_TERMINATOR}

-- what stands there, by its kind
instr_there : (c : Then-kind-lt-FIRST_TERMINATOR) → InstrStep c.args.self.now.sheet.now c.args.self.now.at c.args.self.now.end (stop_of c.args.self.now.sheet.now c.args.self.now.at)
instr_there c = instr_here_lem (kept c.args.self.now.here.0) c.if-self-at.false (omega (arith, c.read_u16-kind.ensures, c.if-kind-lt-FIRST_TERMINATOR.true))

term_there : (c : Else-kind-lt-FIRST_TERMINATOR) → TermStep c.args.self.now.sheet.now c.args.self.now.at c.args.self.now.end
term_there c = term_here_lem (kept c.args.self.now.here.0) c.if-self-at.false (omega (arith, c.read_u16-kind.ensures, c.if-kind-lt-FIRST_TERMINATOR.false))

pub returns-then-self-at-clause-steps : goal.returns-then-self-at-clause-steps
returns-then-self-at-clause-steps c = let w = c.args.self.now in (no_record w (omega (arith, low (kept w.here.0), c.if-self-at.true)), refl)

pub read_u16-kind-requires : goal.read_u16-kind-requires
read_u16-kind-requires c = let w = c.args.self.now in omega (arith, record_fits (kept w.here.0) c.if-self-at.false, w.here.1)

pub read-requires : goal.read-requires
read-requires c = let w = c.args.self.now in (omega (arith, record_fits (kept w.here.0) c.if-self-at.false, w.here.1), omega arith)

pub invariant_of-self : goal.invariant_of-self
invariant_of-self c = let w = c.args.self.now in record { here = (rw c.read.ensures.0 (good (rest_here (kept w.here.0) c.if-self-at.false)), w.here.1) }

pub invariant_of-result : goal.invariant_of-result
invariant_of-result c =
    let w = c.args.self.now in
    let I = instr_there (goal.at.invariant_of-result c).Then-kind-lt-FIRST_TERMINATOR in
    record { here = (rw c.read.ensures.0 (good I.alone), omega (arith, c.read.ensures.0, I.high, w.here.1)) }

pub returns-then-kind-lt-FIRST_TERMINATOR-clause-steps : goal.returns-then-kind-lt-FIRST_TERMINATOR-clause-steps
returns-then-kind-lt-FIRST_TERMINATOR-clause-steps c =
    let w = c.args.self.now in
    let e = ap (λ (x : ℕ). w.at + x) c.read.ensures.0 in
    first_instr (instr_there (goal.at.returns-then-kind-lt-FIRST_TERMINATOR-clause-steps c).Then-kind-lt-FIRST_TERMINATOR) refl refl e refl e refl

pub returns-then-kind-lt-FIRST_TERMINATOR-clause-goes : goal.returns-then-kind-lt-FIRST_TERMINATOR-clause-goes
returns-then-kind-lt-FIRST_TERMINATOR-clause-goes c =
    let w = c.args.self.now in
    let more : w.at < w.at + c.read.result = omega (arith, record_long (kept w.here.0) c.if-self-at.false, c.read.ensures.0) in
    search rules

pub invariant_of-self-2 : goal.invariant_of-self-2
unfolding may_end
invariant_of-self-2 c = record { here = (good (ends refl refl), c.args.self.now.here.1) }

pub invariant_of-result-2 : goal.invariant_of-result-2
invariant_of-result-2 c =
    let w = c.args.self.now in
    let T = term_there (goal.at.invariant_of-result-2 c).Else-kind-lt-FIRST_TERMINATOR in
    record { here = (good T.alone, w.here.1) }

pub returns-clause-steps : goal.returns-clause-steps
returns-clause-steps c =
    let w = c.args.self.now in
    first_term (term_there (goal.at.returns-clause-steps c).Else-kind-lt-FIRST_TERMINATOR) refl refl

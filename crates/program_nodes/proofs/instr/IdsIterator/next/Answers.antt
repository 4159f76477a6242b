-- `program_nodes::instr::IdsIterator::next`: the first is read, and one less is left. Assumes nothing.
use mathlib.Core.Path.{refl}
use native.Mathlib.Omega.{arith}
use Rattle.program_nodes.proofs.Takes.{no_id, ids_front}
use Rattle.program_nodes.proofs.instr.IdsIterator.next.Goals as goal

pub returns-then-self-eq0-clause-steps : goal.returns-then-self-eq0-clause-steps
returns-then-self-eq0-clause-steps c = (no_id _ _ c.if-self-eq0.true, refl)

pub returns-clause-steps : goal.returns-clause-steps
returns-clause-steps c = record { is = rw c.read_u16.ensures (ids_front _ _ _ c.if-self-eq0.false); less = omega (arith, c.if-self-eq0.false) }

-- `program_nodes::program::ParamsIterator::next`: the first is there, and one less is left. Assumes nothing.
use mathlib.Core.Path.{refl}
use Rattle.program_nodes.proofs.Takes.{no_param, first_param}
use Rattle.program_nodes.proofs.program.ParamsIterator.next.Goals as goal

pub returns-then-self-eq0-clause-steps : goal.returns-then-self-eq0-clause-steps
returns-then-self-eq0-clause-steps c = (no_param _ _ c.if-self-eq0.true, refl)

pub returns-clause-steps : goal.returns-clause-steps
returns-clause-steps c = first_param c.if-self-eq0.false refl refl refl refl refl

-- `machine_steps::step_emit`: its operands, then it passes. Assumes nothing.
use Rattle.machine_steps.proofs.Operands.{emits}
use Rattle.machine_steps.proofs.step_emit.Goals as goal

pub returns : goal.returns
returns c = emits c.all_set.ensures

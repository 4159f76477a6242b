-- `machine_steps::step_jump`: to the block. Assumes nothing.
use Rattle.definitions.specs.Bench.{step_terminator}
use Rattle.machine_steps.proofs.step_jump.Goals as goal

pub returns : goal.returns
unfolding step_terminator
returns c memory = record { run = c.go_to.ensures.run memory; kept = c.go_to.ensures.kept }

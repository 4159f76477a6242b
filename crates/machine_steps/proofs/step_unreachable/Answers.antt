-- `machine_steps::step_unreachable`: the run ends. Assumes nothing.
use mathlib.Core.Path.{refl}
use Rattle.definitions.specs.Bench.{step_terminator}
use Rattle.machine_steps.proofs.step_unreachable.Goals as goal

pub returns : goal.returns
unfolding step_terminator
returns c memory t = record { run = λ frames state outside m R. refl; kept = λ h e. refl }

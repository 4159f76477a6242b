-- `machine_steps::step_const`: its result takes the number. Assumes nothing.
use borrow.Author.Rules.{rules}
use Rattle.definitions.specs.Bench.{step_instr}
use Rattle.machine_state.proofs.Asking.{goes_on, result}
use Rattle.machine_steps.proofs.step_const.Goals as goal

pub returns : goal.returns
unfolding step_instr
returns c ty state outside = goes_on (λ lent frames block depth m R. result R c.requires (search rules) c.give.ensures)

-- `machine_steps::all_set`: what is left of the values decides for all of them. Assumes nothing.
use Rattle.program_nodes.specs.Nodes.{ids_in}
use Rattle.machine_steps.proofs.Operands.{AskLeft}
use Rattle.machine_steps.proofs.all_set.Given as goal

abbrev pub invariant-loop-v : goal.invariant-loop-v
invariant-loop-v l = AskLeft l.frame l.memory (ids_in l.values) (ids_in l.v-iterator)

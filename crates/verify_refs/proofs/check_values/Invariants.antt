-- `verify_refs::check_values`: what is left says what the whole says. Assumes nothing.
use Rattle.definitions.specs.Verify.{check_value_refs}
use Rattle.program_nodes.specs.Nodes.{ids_in}
use Rattle.verify_state.proofs.Steps.{Leads}
use Rattle.verify_refs.proofs.check_values.Given as goal

abbrev pub invariant-loop-v : goal.invariant-loop-v
invariant-loop-v l = Leads l.f (check_value_refs (ids_in l.values)) (check_value_refs (ids_in l.v-iterator))

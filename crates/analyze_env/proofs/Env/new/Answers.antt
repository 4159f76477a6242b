-- `analyze_env::Env::new`: no name is known. Assumes nothing.
use Rattle.analyze_env.proofs.Chains.{none_linked}
use Rattle.analyze_env.proofs.Env.new.Goals as goal

pub invariant_of-result : goal.invariant_of-result
invariant_of-result c = rw c.requires.heads_are_none (none_linked c.args.bindings.now _ c.requires.sizes.0 c.requires.sizes.1)

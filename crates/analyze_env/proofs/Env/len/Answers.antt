-- `analyze_env::Env::len`. Assumes nothing.
use Rattle.analyze_env.proofs.Chains.{count_is}
use Rattle.analyze_env.proofs.Env.len.Goals as goal

pub returns : goal.returns
returns c = count_is c.self.inside.bindings.now c.self.inside.count c.self.view_is

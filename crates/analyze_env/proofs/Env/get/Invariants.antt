-- `analyze_env::Env::get`: along the links of the name's chain. Assumes nothing.
use lib.ListN.{length}
use Rattle.analyze_env.proofs.Chains.{Looking}
use Rattle.analyze_env.proofs.Env.get.Given as goal

abbrev pub invariant-loop-i : goal.invariant-loop-i
invariant-loop-i l = Looking (length l.self-inside.heads.now) l.self-inside.bindings.now l.self-inside.count l.name.0 l.link.0

abbrev pub decreases-loop-i : goal.decreases-loop-i
decreases-loop-i l = l.link.0

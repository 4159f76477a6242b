-- `analyze_env::Env::truncate`: the newest binding's chain gets back the head from before it. Assumes nothing.
use Rattle.std.specs.Iterator.Adapters.{rev_source}
use Rattle.std.specs.Slice.Iter.{iter_rest}
use Rattle.analyze_env.proofs.Chains.{Undoing}
use Rattle.analyze_env.proofs.Env.truncate.Given as goal

abbrev pub invariant-loop-e : goal.invariant-loop-e
invariant-loop-e l = Undoing l.mark (iter_rest (rev_source l.initial.e-iterator)) (iter_rest (rev_source l.e-iterator)) l.initial.heads l.heads

-- `analyze_simple::analyze_args`: the arguments that are left give what all of them give. Assumes nothing.
use mathlib.Core.Path.{◌≡◌}
use Rattle.contract_nodes.specs.Nodes.{exprs_in}
use Rattle.analyze_state.specs.State.{analyzed_contract, OfSheet}
use Rattle.analyze_simple.specs.Checked.{args_checked}
use Rattle.analyze_simple.proofs.analyze_args.Given as goal

abbrev pub invariant-loop-arg : goal.invariant-loop-arg
invariant-loop-arg l = record {
  sheet : OfSheet l.a l.arg-iterator.contract;
  is : args_checked (analyzed_contract l.a) l.env.names (exprs_in l.arg-iterator) ≡ args_checked (analyzed_contract l.a) l.env.names (exprs_in l.fn.args);
}

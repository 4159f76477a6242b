-- `lower_params`: what is left of the parameters gives what all of them give. Assumes nothing.
use mathlib.Core.Path.{◌≡◌}
use mathlib.Core.List.{[]}
use Prim.Native.Nat.{◌+◌, ◌≤◌}
use lib.ListN.{length}
use Rattle.contract_nodes.specs.Nodes.{function_in, params_left}
use Rattle.lower_walk.specs.Grown.{Grown}
use Rattle.lower_walk.specs.Layout.{walk_params}
use Rattle.lower_functions.proofs.lower_params.Given as goal

abbrev pub invariant-loop-param : goal.invariant-loop-param
invariant-loop-param l = record {
  left : walk_params (params_left l.param-iterator) l.scopes.held l.ctx ≡ walk_params (function_in l.fn.f).params [] l.fn.ctx;
  count : length l.scopes.held + l.param-iterator.left ≤ 16;
  scope : l.scopes.scope ≡ 0;
  room : length l.scopes.held ≤ length l.ctx.locals;
  grown : Grown l.fn.ctx l.ctx;
}

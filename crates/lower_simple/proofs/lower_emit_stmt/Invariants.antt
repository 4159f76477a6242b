-- `lower_simple::lower_emit_stmt`: the arguments one by one, then the event. Assumes nothing.
use mathlib.Core.Path.{◌≡◌}
use Rattle.contract_nodes.specs.Nodes.{contract_in, exprs_in}
use Rattle.lower_simple.proofs.Emitting.{Emitting}
use Rattle.lower_simple.proofs.lower_emit_stmt.Given as goal

-- the arguments that are left, after the values so far, give what the whole statement gives
abbrev pub invariant-loop-arg : goal.invariant-loop-arg
invariant-loop-arg l = record {
  sheet : l.arg-iterator.contract.sheet.now ≡ l.fn.args.contract.sheet.now;
  left : Emitting (contract_in l.fn.args.contract) l.scopes.held l.fn.event.0 (exprs_in l.fn.args) l.fn.ctx (exprs_in l.arg-iterator) l.values l.ctx;
}

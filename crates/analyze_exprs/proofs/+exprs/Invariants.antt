-- The measures of the cycle of expressions, and the loops' invariants. Two for each level of depth, and a rank: the parts of an expression are one
-- level down. Assumes nothing.
use mathlib.Core.Path.{◌≡◌}
use Prim.Native.Nat.{◌+◌, ◌*◌, ◌≤◌}
use Rattle.definitions.specs.Result.{◌>>◌, ok}
use Rattle.definitions.specs.Ir.{IrType}
use Rattle.definitions.specs.Analyze.{known}
use Rattle.contract_nodes.specs.Nodes.{struct_in, fields_in, exprs_in, count_of}
use Rattle.analyze_walk.specs.Stops.{check_fields}
use Rattle.analyze_state.specs.State.{analyzed_contract, OfSheet}
use Rattle.analyze_exprs.specs.Typed.{check_literal, check_call}
use Rattle.analyze_exprs.specs.Calls.{signature_found}
use Rattle.analyze_exprs.proofs.Turns.{Going}
use Rattle.std.specs.Iterator.Adapters.{enumerate_source, enumerate_count}
use Rattle.analyze_exprs.proofs.+exprs.Given as goal

abbrev pub decreases-analyze_expr : goal.decreases-analyze_expr
decreases-analyze_expr l = 2 * l.e.depth

abbrev pub decreases-analyze_literal : goal.decreases-analyze_literal
decreases-analyze_literal l = 2 * l.inits.depth + 1

abbrev pub decreases-analyze_call : goal.decreases-analyze_call
decreases-analyze_call l = 2 * l.args.depth + 1

-- the fields that are left give what the whole literal gives;
-- they are of its sheet, and as deep as all of them
abbrev pub invariant-analyze_literal-loop-init : goal.invariant-analyze_literal-loop-init
invariant-analyze_literal-loop-init l = record {
  sheet : OfSheet l.a l.init-iterator.contract;
  depth : l.init-iterator.depth ≡ l.fn.inits.depth;
  is : (check_fields (analyzed_contract l.a) l.env.names l.at (struct_in l.of).fields (fields_in l.init-iterator) >> ok (known (IrType.Struct l.name.0))) ≡ check_literal (analyzed_contract l.a) l.env.names l.at l.name.0 (fields_in l.fn.inits);
}

-- the arguments that are left, after the types so far, give what the whole call gives; each takes a place
abbrev pub invariant-analyze_call-loop-i : goal.invariant-analyze_call-loop-i
invariant-analyze_call-loop-i l =
    let rest = enumerate_source l.i-iterator in
    let n = enumerate_count l.i-iterator in
    record {
      sheet : OfSheet l.a rest.contract;
      depth : rest.depth ≡ l.fn.args.depth;
      few : n ≤ rest.at;
      many : n + count_of (exprs_in rest) ≡ count_of (exprs_in l.fn.args);
      left : Going (analyzed_contract l.a) l.env.names l.at (signature_found l.signature) (check_call (analyzed_contract l.a) l.env.names l.at l.fn.name.0 (exprs_in l.fn.args)) (exprs_in rest) n l.fits;
    }

-- The measures of the cycle of statements, and the loop's invariant. Two for each level of depth, and a rank. Assumes nothing.
use mathlib.Core.Path.{◌≡◌}
use Prim.Native.Nat.{◌+◌, ◌*◌}
use Rattle.contract_nodes.specs.Nodes.{stmts_in}
use Rattle.analyze_walk.specs.Stops.{check_stmts}
use Rattle.analyze_state.specs.State.{analyzed_contract, ret_of, OfSheet}
use Rattle.analyze_stmts.specs.Room.{GrownTo}
use Rattle.analyze_stmts.proofs.+stmts.Given as goal

abbrev pub decreases-analyze_stmt : goal.decreases-analyze_stmt
decreases-analyze_stmt l = 2 * l.t.depth

abbrev pub decreases-analyze_stmts : goal.decreases-analyze_stmts
decreases-analyze_stmts l = 2 * l.body.depth + 1

-- the statements that are left, with the names so far, give what all of them give
abbrev pub invariant-analyze_stmts-loop-t : goal.invariant-analyze_stmts-loop-t
invariant-analyze_stmts-loop-t l = record {
  sheet : OfSheet l.a l.t-iterator.contract;
  depth : l.t-iterator.depth ≡ l.fn.body.depth;
  end : l.t-iterator.end ≡ l.fn.body.end;
  grown : GrownTo l.fn.env l.env l.t-iterator.at;
  is : check_stmts (analyzed_contract l.a) (ret_of l.a) (stmts_in l.t-iterator) l.env.names ≡ check_stmts (analyzed_contract l.a) (ret_of l.a) (stmts_in l.fn.body) l.fn.env.names;
}

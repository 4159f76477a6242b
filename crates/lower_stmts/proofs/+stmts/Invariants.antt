-- The cycle of statements: four for each level of depth, and a rank: a list calls its statements, a statement its own kind, and a kind its
-- arms or its body, which are two levels down. The loop over statements: what is left, with the names so far, gives what all give.
-- Assumes nothing.
use mathlib.Core.Path.{◌≡◌}
use Prim.Native.Nat.{◌+◌, ◌-◌, ◌*◌, ◌≤◌}
use lib.ListN.{length}
use Rattle.contract_nodes.specs.Nodes.{contract_in, stmts_in}
use Rattle.lower_walk.specs.Stmts.{walk_stmts}
use Rattle.lower_walk.specs.Grown.{Grown}
use Rattle.lower_stmts.specs.Bodies.{Extends}
use Rattle.lower_stmts.proofs.+stmts.Given as goal

abbrev pub decreases-lower_body : goal.decreases-lower_body
decreases-lower_body l = 4 * l.body.depth + 3

-- the deeper arm
abbrev pub decreases-lower_if : goal.decreases-lower_if
decreases-lower_if l = 4 * (l.then.depth + (l.otherwise.depth - l.then.depth)) + 4

abbrev pub decreases-lower_while : goal.decreases-lower_while
decreases-lower_while l = 4 * l.body.depth + 4

abbrev pub decreases-lower_for : goal.decreases-lower_for
decreases-lower_for l = 4 * l.body.depth + 4

abbrev pub decreases-lower_stmt : goal.decreases-lower_stmt
decreases-lower_stmt l = 4 * l.t.depth + 1

abbrev pub decreases-lower_stmts : goal.decreases-lower_stmts
decreases-lower_stmts l = 4 * l.body.depth + 2

abbrev pub invariant-lower_stmts-loop-t : goal.invariant-lower_stmts-loop-t
invariant-lower_stmts-loop-t l = record {
  sheet : l.t-iterator.contract.sheet.now ≡ l.fn.body.contract.sheet.now;
  depth : l.t-iterator.depth ≡ l.fn.body.depth;
  room : length l.scopes.held ≤ length l.ctx.locals;
  names : Extends l.fn.scopes l.scopes;
  grown : Grown l.fn.ctx l.ctx;
  is : walk_stmts (contract_in l.t-iterator.contract) l.scopes.scope l.scopes.held (stmts_in l.t-iterator) l.ctx ≡ walk_stmts (contract_in l.fn.body.contract) l.fn.scopes.scope l.fn.scopes.held (stmts_in l.fn.body) l.fn.ctx;
}

-- The cycle of statements meets its contracts; the depth left falls. Assumes nothing.
use mathlib.Core.Path.{◌∙◌}
use native.Mathlib.Omega.{arith}
use borrow.Author.Rules.{rules}
use Rattle.lower_walk.specs.Stmts.{walk_stmts}
use Rattle.lower_stmts.proofs.Names.{extends_on, one_more, same_behind}
use Rattle.lower_stmts.proofs.Statements.{if_walk}
use Rattle.lower_stmts.proofs.+stmts.Goals as goal

-- FOR (the names are the same behind a body that was refused and behind one that was not)
pub lower_for-lower_stmts-done-requires : goal.lower_for-lower_stmts-done-requires
lower_for-lower_stmts-done-requires t c =
    (omega (arith, c.decreases), search rules)

pub lower_for-returns-in_err-done-clause-same_names : goal.lower_for-returns-in_err-done-clause-same_names
lower_for-returns-in_err-done-clause-same_names t c =
    same_behind c.push_scope.ensures (extends_on (one_more c.declare.ensures) c.lower_stmts-done.ensures.names) c.len-mark.ensures c.pop_scope.ensures

pub lower_for-returns-clause-same_names : goal.lower_for-returns-clause-same_names
lower_for-returns-clause-same_names t c =
    same_behind c.push_scope.ensures (extends_on (one_more c.declare.ensures) c.lower_stmts-done.ensures.names) c.len-mark.ensures c.pop_scope.ensures

-- A STATEMENT (with `unfolding(walk_stmt)` on the function, tried, the arms stay open in which a call's promise speaks of walk_stmt itself)
pub lower_stmt-returns-in_ok-local-in-Let-clause-names : goal.lower_stmt-returns-in_ok-local-in-Let-clause-names
lower_stmt-returns-in_ok-local-in-Let-clause-names t c = one_more c.declare.ensures

pub lower_stmt-returns-in-If-clause-is : goal.lower_stmt-returns-in-If-clause-is
lower_stmt-returns-in-If-clause-is t c =
    rw c.lower_if.ensures.same_names (c.lower_if.ensures.is ∙ if_walk c.in-If.ensures.is c.in-If.ensures.parts.0.0 _ _)

-- STATEMENTS
pub lower_stmts-loop-t-preserved : goal.lower_stmts-loop-t-preserved
unfolding walk_stmts
lower_stmts-loop-t-preserved t c =
    let names = extends_on c.loop-t.invariant.names c.in_ok-lower_stmt.ensures.names in
    search rules

pub lower_stmts-returns-in_err-lower_stmt-clause-names : goal.lower_stmts-returns-in_err-lower_stmt-clause-names
lower_stmts-returns-in_err-lower_stmt-clause-names t c = extends_on c.loop-t.invariant.names c.in_err-lower_stmt.ensures.names

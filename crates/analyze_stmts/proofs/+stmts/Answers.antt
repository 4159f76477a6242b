-- The cycle of statements meets its contracts; the depth left falls. Assumes nothing.
use mathlib.Core.Path.{ap, ◌∙◌}
use native.Mathlib.Omega.{arith}
use Rattle.ir.proofs.Exits.{exit}
use Rattle.definitions.specs.Result.{ok}
use Rattle.definitions.specs.Analyze.{Env}
use Rattle.definitions.specs.Grammar.{Class}
use Rattle.analyze_env.specs.Names.{Names}
use Rattle.analyze_stmts.proofs.Growing.{one_more, then_more, up_to, names_back, back, in_order}
use Rattle.std.proofs.lemmas.Result.{on_ok_weaker}
use Rattle.analyze_stmts.proofs.Steps.{let_is, first_is, none_is, test_is, then_is, if_is, while_is, bounds_are, body_is}
use Rattle.analyze_stmts.proofs.+stmts.Goals as goal

-- LET
pub analyze_stmt-returns-in_err-ty-in-Let-clause-is : goal.analyze_stmt-returns-in_err-ty-in-Let-clause-is
analyze_stmt-returns-in_err-ty-in-Let-clause-is t c =
    rw (exit c.from_residual.ensures.1) (let_is _ _ _ c.in-Let.ensures.is c.in_err-ty-in-Let.ensures)

pub analyze_stmt-returns-in_ok-ty-in-Let-clause-is : goal.analyze_stmt-returns-in_ok-ty-in-Let-clause-is
analyze_stmt-returns-in_ok-ty-in-Let-clause-is t c =
    ap (λ (e : Names). ok e.names) c.insert.ensures ∙ let_is _ _ _ c.in-Let.ensures.is c.in_ok-ty-in-Let.ensures

pub analyze_stmt-returns-in_ok-ty-in-Let-clause-grown : goal.analyze_stmt-returns-in_ok-ty-in-Let-clause-grown
analyze_stmt-returns-in_ok-ty-in-Let-clause-grown t c = one_more c.args.t.at c.insert.ensures c.requires.room.1 c.in-Let.ensures.parts.1

-- IF
pub analyze_stmt-returns-in_err-analyze_expr-in-If-clause-is : goal.analyze_stmt-returns-in_err-analyze_expr-in-If-clause-is
analyze_stmt-returns-in_err-analyze_expr-in-If-clause-is t c =
    rw (exit c.from_residual-in_err-analyze_expr-in-If.ensures.1) (test_is _ _ _ c.in-If.ensures.is c.in_err-analyze_expr-in-If.ensures)

pub analyze_stmt-returns-in_err-analyze_stmts-in-If-clause-is : goal.analyze_stmt-returns-in_err-analyze_stmts-in-If-clause-is
analyze_stmt-returns-in_err-analyze_stmts-in-If-clause-is t c =
    rw (exit c.from_residual-in_err-analyze_stmts-in-If.ensures.1) (then_is _ _ _ c.in-If.ensures.is c.in_ok-analyze_expr-in-If.ensures c.in_err-analyze_stmts-in-If.ensures.is)

pub analyze_stmt-returns-in_ok-analyze_stmts-in-If-clause-is : goal.analyze_stmt-returns-in_ok-analyze_stmts-in-If-clause-is
analyze_stmt-returns-in_ok-analyze_stmts-in-If-clause-is t c =
    if_is _ _ _ c.in-If.ensures.is c.in_ok-analyze_expr-in-If.ensures c.in_ok-analyze_stmts-in-If.ensures.is c.analyze_stmts-in-If.ensures.is

pub analyze_stmt-returns-in_ok-analyze_stmts-in-If-clause-grown : goal.analyze_stmt-returns-in_ok-analyze_stmts-in-If-clause-grown
analyze_stmt-returns-in_ok-analyze_stmts-in-If-clause-grown t c =
    on_ok_weaker c.analyze_stmts-in-If.result (λ g. up_to (then_more c.in_ok-analyze_stmts-in-If.ensures.grown g) c.in-If.ensures.parts.2.high) c.analyze_stmts-in-If.ensures.grown

-- WHILE
pub analyze_stmt-returns-in_err-analyze_expr-in-While-clause-is : goal.analyze_stmt-returns-in_err-analyze_expr-in-While-clause-is
analyze_stmt-returns-in_err-analyze_expr-in-While-clause-is t c =
    rw (exit c.from_residual-in_err-analyze_expr-in-While.ensures.1) (while_is _ _ _ c.in-While.ensures.is.1 c.in_err-analyze_expr-in-While.ensures)

pub analyze_stmt-returns-in_ok-analyze_expr-in-While-clause-is : goal.analyze_stmt-returns-in_ok-analyze_expr-in-While-clause-is
analyze_stmt-returns-in_ok-analyze_expr-in-While-clause-is t c =
    c.analyze_stmts-in-While.ensures.is ∙ while_is _ _ _ c.in-While.ensures.is.1 c.in_ok-analyze_expr-in-While.ensures

-- FOR
pub analyze_stmt-returns-in_err-analyze_pair-in-For-clause-is : goal.analyze_stmt-returns-in_err-analyze_pair-in-For-clause-is
analyze_stmt-returns-in_err-analyze_pair-in-For-clause-is t c =
    rw (exit c.from_residual-in_err-analyze_pair-in-For.ensures.1) (bounds_are _ _ _ c.in-For.ensures.is.1 c.in_err-analyze_pair-in-For.ensures)

pub analyze_stmt-returns-in_err-analyze_stmts-in-For-clause-is : goal.analyze_stmt-returns-in_err-analyze_stmts-in-For-clause-is
analyze_stmt-returns-in_err-analyze_stmts-in-For-clause-is t c =
    rw (exit c.from_residual-in_err-analyze_stmts-in-For.ensures.1)
    (body_is _ _ _ c.in-For.ensures.is.1 c.in_ok-analyze_pair-in-For.ensures c.insert-in-For.ensures c.in_err-analyze_stmts-in-For.ensures.is)

pub analyze_stmt-returns-in_ok-analyze_stmts-in-For-clause-is : goal.analyze_stmt-returns-in_ok-analyze_stmts-in-For-clause-is
analyze_stmt-returns-in_ok-analyze_stmts-in-For-clause-is t c =
    ap (λ (e : Env). ok e) (names_back c.insert-in-For.ensures c.in_ok-analyze_stmts-in-For.ensures.grown c.len-mark.ensures c.truncate.ensures)
    ∙ body_is _ _ _ c.in-For.ensures.is.1 c.in_ok-analyze_pair-in-For.ensures c.insert-in-For.ensures c.in_ok-analyze_stmts-in-For.ensures.is

pub analyze_stmt-returns-in_ok-analyze_stmts-in-For-clause-grown : goal.analyze_stmt-returns-in_ok-analyze_stmts-in-For-clause-grown
analyze_stmt-returns-in_ok-analyze_stmts-in-For-clause-grown t c =
    let b = c.in-For.ensures.parts.2 in
    back c.insert-in-For.ensures c.in_ok-analyze_stmts-in-For.ensures.grown c.len-mark.ensures c.truncate.ensures c.args.t.at c.requires.room.1 (omega arith)

-- STATEMENTS
pub analyze_stmts-loop-t-preserved : goal.analyze_stmts-loop-t-preserved
analyze_stmts-loop-t-preserved t c =
    let i = c.loop-t.invariant in
    let f = c.in-Some.ensures.steps in
    record {
      sheet = f.rest_sheet ∙ i.sheet;
      depth = f.rest_depth ∙ i.depth;
      end = f.end ∙ i.end;
      grown = up_to (then_more i.grown c.in_ok-analyze_stmt.ensures.grown) (omega (arith, f.next));
      is = first_is _ _ _ f.is c.in_ok-analyze_stmt.ensures.is ∙ i.is;
    }

pub analyze_stmts-returns-in_err-analyze_stmt-clause-is : goal.analyze_stmts-returns-in_err-analyze_stmt-clause-is
analyze_stmts-returns-in_err-analyze_stmt-clause-is t c =
    rw (exit c.from_residual.ensures.1) (first_is _ _ _ c.in-Some.ensures.steps.is c.in_err-analyze_stmt.ensures.is ∙ c.loop-t.invariant.is)

pub analyze_stmts-returns-clause-is : goal.analyze_stmts-returns-clause-is
analyze_stmts-returns-clause-is t c = none_is _ _ _ c.in-None.ensures.steps.0 ∙ c.loop-t.invariant.is

pub analyze_stmts-returns-clause-grown : goal.analyze_stmts-returns-clause-grown
analyze_stmts-returns-clause-grown t c =
    let b = c.loop-t.t-iterator in
    up_to c.loop-t.invariant.grown (omega (arith, in_order Class.statement b.contract.sheet.now b.at b.end b.depth b.ready, c.loop-t.invariant.end))

-- `analyze::analyze_functions`: what is left of the functions gives what all of them give. Assumes nothing.
use Rattle.ir.proofs.Exits.{exit}
use Rattle.analyze.proofs.Turning.{ends, walked, one_more}
use Rattle.analyze.proofs.analyze_functions.Goals as goal

pub returns-in_err-analyze_function : goal.returns-in_err-analyze_function
returns-in_err-analyze_function c =
    rw (exit c.from_residual.ensures.1) (walked c.loop-f.invariant c.in-Some.ensures.steps (rw c.new-structs.ensures at c.in_err-analyze_function.ensures.is))

pub loop-f-preserved : goal.loop-f-preserved
loop-f-preserved c =
    let a = c.in_ok-analyze_function.ensures in
    one_more c.loop-f.invariant c.in-Some.ensures.steps (rw c.new-structs.ensures at a.is) (rw c.new-structs.ensures at a.empty)

pub returns : goal.returns
returns c = ends c.loop-f.invariant c.in-None.ensures.steps

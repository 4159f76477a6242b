-- `lower`: the output with its zeros, and demand 3. Assumes nothing.
use mathlib.Core.Path.{◌∙◌}
use Rattle.lower.proofs.Answering.{zeros_behind, demanded, on_ok}
use Rattle.lower.proofs.lower.Goals as goal

pub returns-clause-out_after : goal.returns-clause-out_after
returns-clause-out_after c = (rw c.unwrap_or.ensures at c.clear.ensures) ∙ zeros_behind _ _ _ _ c.lower_sheet-answer.ensures

pub returns-clause-demand3 : goal.returns-clause-demand3
returns-clause-demand3 c =
    let cleared = rw c.unwrap_or.ensures at c.clear.ensures in
    on_ok c.lower_sheet-answer.result (λ n e. rw cleared (demanded _ (record { each = λ i. (c.type_inv.sheet i).fits }) _ _ _ c.lower_sheet-answer.ensures n e))

-- `lower_contract`: the functions, the names and the head. Assumes nothing.
use Rattle.ir.proofs.Exits.{exit}
use Rattle.lower.proofs.Answering.{refused, no_room, names_lost, finished}
use Rattle.lower.proofs.lower_contract.Goals as goal

pub returns-in_err-place_functions : goal.returns-in_err-place_functions
returns-in_err-place_functions c =
    rw (exit c.from_residual.ensures.1, ← c.new-functions.ensures) (refused _ _ _ _ c.in_err-place_functions.ensures)

pub returns-in_err-to : goal.returns-in_err-to
returns-in_err-to c =
    let to = c.in_err-to.ensures in
    rw (exit c.from_residual-in_err-to.ensures.1, to.value, to.ok_part, ← c.new-functions.ensures) (no_room _ (rw to.ok_part at c.in_ok-place_functions.ensures))

pub returns-in_err-end : goal.returns-in_err-end
returns-in_err-end c =
    let end = c.in_err-end.ensures in
    rw (exit c.from_residual-in_err-end.ensures.1, end.value, end.ok_part, ← c.new-functions.ensures)
    (names_lost _ (rw c.in_ok-to.ensures.ok_part at c.in_ok-place_functions.ensures) (rw end.ok_part at c.lay_names.ensures))

pub returns : goal.returns
returns c =
    rw (c.write_head.ensures, ← c.new-functions.ensures)
    (finished _ (rw c.in_ok-to.ensures.ok_part at c.in_ok-place_functions.ensures) (rw c.in_ok-end.ensures.ok_part at c.lay_names.ensures))

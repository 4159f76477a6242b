-- `lower_sheet`: the check of the sheet, then the walk. Assumes nothing.
use mathlib.Core.Path.{refl, sym}
use Rattle.std.specs.Prelude as code
use Rattle.ir.proofs.Exits.{exit}
use Rattle.sheet.specs.Forms.{refusal_of}
use Rattle.lower.proofs.Answering.{stopped, passed}
use Rattle.lower.specs.declared.refusal.Refusal.TheVariants as refused
use Rattle.lower.proofs.lower_sheet.Goals as goal

pub returns-in_err-contract : goal.returns-in_err-contract
returns-in_err-contract c =
    let e = c.in_err-contract.field-0.0 in
    let w = c.in_err-contract.ensures.is in
    rw (exit c.from_residual.ensures.1) (stopped _ _ _ refl (refusal_of e) (code.Err (refused.Contract e)) (sym w) refl)

pub returns : goal.returns
returns c =
    let w = c.in_ok-contract.ensures in
    passed _ _ _ _ (sym w.is) (rw w.same_sheet at c.lower_contract.ensures)

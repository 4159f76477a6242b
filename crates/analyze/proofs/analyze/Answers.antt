-- `analyze`: the check of the sheet, then the bodies. Assumes nothing.
use Rattle.ir.proofs.Exits.{exit}
use Rattle.analyze.proofs.Answering.{stopped, passed}
use Rattle.analyze.proofs.analyze.Goals as goal

pub returns-in_err-contract : goal.returns-in_err-contract
returns-in_err-contract c =
    rw (exit c.from_residual.ensures.1) (stopped c.args.sheet.now c.in_err-contract.ensures.is)

pub returns-in_err-analyze_contract : goal.returns-in_err-analyze_contract
returns-in_err-analyze_contract c =
    rw (exit c.from_residual-in_err-analyze_contract.ensures.1) (passed c.args.sheet.now c.in_ok-contract.ensures.is c.in_ok-contract.ensures.same_sheet c.in_err-analyze_contract.ensures)

pub returns : goal.returns
returns c = passed c.args.sheet.now c.in_ok-contract.ensures.is c.in_ok-contract.ensures.same_sheet c.in_ok-analyze_contract.ensures

-- `verify::verify_terminator`: by what the terminator is. Assumes nothing.
use Rattle.ir.proofs.Exits.{exit}
use Rattle.verify.proofs.Instrs.{unreachable, condition_failed, then_failed, branch, jump, return}
use Rattle.verify.proofs.verify_terminator.Goals as goal

pub returns-in-Jump : goal.returns-in-Jump
returns-in-Jump c = jump c.args.f c.in-Jump.is c.check_block.ensures

pub returns-in_err-check_condition-in-Branch : goal.returns-in_err-check_condition-in-Branch
returns-in_err-check_condition-in-Branch c =
    rw (exit c.from_residual.ensures.1) (condition_failed c.args.f c.in-Branch.is c.in_err-check_condition-in-Branch.ensures)

pub returns-in_err-check_block-in-Branch : goal.returns-in_err-check_block-in-Branch
returns-in_err-check_block-in-Branch c =
    let r = c.from_residual-in_err-check_block-in-Branch in
    rw (exit r.ensures.1) (then_failed c.args.f c.in-Branch.is c.in_ok-check_condition-in-Branch.ensures c.in_err-check_block-in-Branch.ensures)

pub returns-in_ok-check_block-in-Branch : goal.returns-in_ok-check_block-in-Branch
returns-in_ok-check_block-in-Branch c = branch c.args.f c.in-Branch.is c.in_ok-check_condition-in-Branch.ensures c.in_ok-check_block-in-Branch.ensures c.check_block-in-Branch-2.ensures

pub returns-in-Return : goal.returns-in-Return
returns-in-Return c = return c.args.f c.in-Return.is c.check_return.ensures

pub returns-in-Unreachable : goal.returns-in-Unreachable
returns-in-Unreachable c = unreachable c.args.f c.in-Unreachable.is

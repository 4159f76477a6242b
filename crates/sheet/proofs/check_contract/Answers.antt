-- `sheet::check_contract`: the length, the form, then the limits. Assumes nothing.
use Rattle.std.proofs.Common.{sym, arith}
use Rattle.sheet.specs.Forms.{form_of, limits_of}
use Rattle.ir.proofs.Exits.{exit}
use Rattle.sheet.proofs.Contracts.{malformed, over_limit, within}
use Rattle.sheet.proofs.check_contract.Goals as goal

pub returns-in_err-contract_form : goal.returns-in_err-contract_form
unfolding form_of
returns-in_err-contract_form c = rw (exit c.from_residual.ensures.1) (malformed c.args.s.now (omega arith) c.in_err-contract_form.ensures)

pub contract_limits-requires : goal.contract_limits-requires
unfolding form_of
contract_limits-requires c = sym c.in_ok-contract_form.ensures

pub returns-in_err-contract_limits : goal.returns-in_err-contract_limits
unfolding form_of limits_of
returns-in_err-contract_limits c =
    rw (exit c.from_residual-in_err-contract_limits.ensures.1) (over_limit c.args.s.now (omega arith) c.in_ok-contract_form.ensures c.in_err-contract_limits.ensures)

pub returns : goal.returns
unfolding form_of limits_of
returns c = within c.args.s.now (omega arith) c.in_ok-contract_form.ensures c.in_ok-contract_limits.ensures

-- `verify::check_use`: a value alone. Assumes nothing.
use Rattle.ir.proofs.Exits.{exit}
use Rattle.verify.proofs.Instrs.{use_failed, use_passed}
use Rattle.verify.proofs.check_use.Goals as goal

pub returns-in_err-check_value : goal.returns-in_err-check_value
returns-in_err-check_value c = rw (exit c.from_residual.ensures.1) (use_failed c.args.v.0 c.in_err-check_value.ensures)

pub returns : goal.returns
returns c = use_passed c.args.v.0 c.in_ok-check_value.ensures

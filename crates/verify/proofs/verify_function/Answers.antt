-- `verify::verify_function`: the two passes, one after the other. Assumes nothing.
use Rattle.ir.proofs.Exits.{exit}
use Rattle.verify.proofs.Seconds.{params_failed, blocks_failed, function_says}
use Rattle.verify.proofs.verify_function.Goals as goal

pub returns-in_err-define_params : goal.returns-in_err-define_params
returns-in_err-define_params c =
    rw (exit c.from_residual.ensures.1) (params_failed c.args.f c.in_err-define_params.ensures)

pub returns-in_err-define_blocks : goal.returns-in_err-define_blocks
returns-in_err-define_blocks c =
    let r = c.from_residual-in_err-define_blocks in
    rw (exit r.ensures.1) (blocks_failed c.args.f c.in_ok-define_params.ensures c.in_err-define_blocks.ensures)

pub returns : goal.returns
returns c = function_says c.args.f c.in_ok-define_params.ensures c.in_ok-define_blocks.ensures c.verify_blocks.ensures

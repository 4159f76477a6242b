-- `place_function`: what the walk came to is what the definitions say, and the record is laid down or does not fit. Assumes nothing.
use mathlib.Core.Path.{refl}
use Rattle.ir.proofs.Exits.{exit}
use Rattle.lower.proofs.Placing.{not_walked, within, put, not_put}
use Rattle.lower.proofs.place_function.Goals as goal

pub returns-in_err-lower_function : goal.returns-in_err-lower_function
returns-in_err-lower_function c =
    let w = c.in_err-lower_function.ensures in
    rw (exit c.from_residual.ensures.1) (not_walked c.args.f _ _ _ w.sizes w.is, refl)

pub returns-in_default : goal.returns-in_default
returns-in_default c =
    let w = c.in_ok-lower_function.ensures in
    rw c.in_default.is (not_put c.args.f _ _ _ w.sizes w.is c.args.out.now)

pub lay_function-requires : goal.lay_function-requires
lay_function-requires c =
    let w = c.in_ok-lower_function.ensures in
    within c.args.f _ _ _ w.sizes w.is

pub returns : goal.returns
returns c =
    let w = c.in_ok-lower_function.ensures in
    rw c.in-Some.is (put c.args.f _ _ _ w.sizes w.is c.args.out.now _ _ _ c.lay_function.ensures)

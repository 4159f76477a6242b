-- `malovuneth::malovuneth_contract_form`: the numbers of what the form was found to be, good or the place. Assumes nothing.
use Rattle.std.proofs.Common.{rules}
use Rattle.sheet.specs.Forms.{form_of}
use Rattle.malovuneth.proofs.malovuneth_contract_form.Goals as goal

pub returns-in-Ok-clause-out_after : goal.returns-in-Ok-clause-out_after
unfolding form_of
returns-in-Ok-clause-out_after c = rw (← c.in-Ok.ensures) (search rules)

pub returns-in-Err-clause-out_after : goal.returns-in-Err-clause-out_after
unfolding form_of
returns-in-Err-clause-out_after c = rw (← c.in-Err.ensures) (search rules)

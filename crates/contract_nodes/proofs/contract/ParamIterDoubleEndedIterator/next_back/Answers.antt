use Rattle.contract_nodes.proofs.Steps.{no_param, one_less, last_param}
use Rattle.contract_nodes.proofs.contract.ParamIterDoubleEndedIterator.next_back.Goals as goal

pub returns-in_err-self-clause-steps : goal.returns-in_err-self-clause-steps
returns-in_err-self-clause-steps c =
    let w = c.args.self.now in
    rw c.from_residual.ensures (no_param w.contract.sheet.now w.at w.left c.in_err-self.was c.checked_sub.ensures)

pub returns-clause-steps : goal.returns-clause-steps
returns-clause-steps c =
    let w = c.args.self.now in
    let e = one_less w.left c.in_ok-self.was c.checked_sub.ensures in
    record { is = last_param w.contract.sheet.now w.at c.new.result e c.new.ensures; left = e }

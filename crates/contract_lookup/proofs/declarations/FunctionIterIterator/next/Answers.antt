use mathlib.Core.Path.{refl}
use native.Mathlib.Numerals.{add-one}
use native.Mathlib.Omega.{arith}
use Rattle.contract_nodes.specs.Nodes.{contract_in}
use Rattle.contract_lookup.proofs.Placing.{none_from, here_from}
use Rattle.contract_lookup.proofs.declarations.FunctionIterIterator.next.Goals as goal

pub returns-in_err-function-clause-steps : goal.returns-in_err-function-clause-steps
returns-in_err-function-clause-steps c =
    let w = c.args.self.now in
    rw c.from_residual.ensures (none_from (contract_in w.functions.now.contract).functions w.next c.in_err-function.ensures.is)

pub returns-clause-steps : goal.returns-clause-steps
returns-clause-steps c =
    let w = c.args.self.now in
    let f = c.in_ok-function.ensures in
    record { is = rw add-one (here_from (contract_in w.functions.now.contract).functions w.next f.is); id = refl; next = omega arith; few = f.most; sheet = f.same_sheet; same = refl }

use mathlib.Core.Path.{ap, sym, ◌∙◌}
use Rattle.ir.specs.Answers.{option_of}
use Rattle.contract_nodes.specs.Nodes.{function_in}
use Rattle.contract_lookup.specs.Answers.{second}
use Rattle.contract_lookup.proofs.Symbolic.{function_is}
use Rattle.contract_lookup.proofs.declarations.Functions.named.Goals as goal

pub returns-in_err-at-clause-is : goal.returns-in_err-at-clause-is
returns-in_err-at-clause-is c =
    let l = c.args.self.now in
    ap (option_of function_in) c.from_residual.ensures ∙ ap second (function_is c.args.name.0 l.contract.passed (sym (c.in_err-at.ensures 4 (rw c.as_slice.ensures.value l.listed))))

pub returns-clause-is : goal.returns-clause-is
returns-clause-is c =
    let l = c.args.self.now in
    ap second (function_is c.args.name.0 l.contract.passed (sym (c.in_ok-at.ensures 4 (rw c.as_slice.ensures.value l.listed)).1))

use mathlib.Core.Path.{ap, sym, ◌∙◌}
use Rattle.ir.specs.Answers.{option_of}
use Rattle.contract_nodes.specs.Nodes.{struct_in}
use Rattle.contract_lookup.specs.Answers.{second}
use Rattle.contract_lookup.proofs.Symbolic.{struct_is}
use Rattle.contract_lookup.proofs.declarations.Structs.named.Goals as goal

pub returns-in_err-at-clause-is : goal.returns-in_err-at-clause-is
returns-in_err-at-clause-is c =
    let l = c.args.self.now in
    ap (option_of struct_in) c.from_residual.ensures ∙ ap second (struct_is c.args.name.0 l.contract.passed (sym (c.in_err-at.ensures 3 (rw c.as_slice.ensures.value l.listed))))

pub returns-clause-is : goal.returns-clause-is
returns-clause-is c =
    let l = c.args.self.now in
    ap second (struct_is c.args.name.0 l.contract.passed (sym (c.in_ok-at.ensures 3 (rw c.as_slice.ensures.value l.listed)).1))

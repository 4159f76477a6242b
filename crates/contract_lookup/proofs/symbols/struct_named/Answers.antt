use mathlib.Core.Path.{ap, ◌∙◌}
use Rattle.ir.specs.Answers.{option_of}
use Rattle.contract_nodes.specs.Nodes.{struct_in}
use Rattle.contract_lookup.specs.Answers.{second}
use Rattle.contract_lookup.proofs.Symbolic.{struct_is}
use Rattle.contract_lookup.proofs.symbols.struct_named.Goals as goal

pub returns-in_err-found-clause-is : goal.returns-in_err-found-clause-is
returns-in_err-found-clause-is c =
    ap (option_of struct_in) c.from_residual.ensures ∙ ap second (struct_is c.args.name.0 c.args.contract.passed c.in_err-found.ensures.is)

pub returns-clause-is : goal.returns-clause-is
returns-clause-is c = ap second (struct_is c.args.name.0 c.args.contract.passed c.in_ok-found.ensures.is)

use mathlib.Core.Path.{ap, ◌∙◌}
use native.Mathlib.Omega.{arith}
use Rattle.definitions.specs.ContractSheet.{read_contract}
use Rattle.definitions.specs.Sema as sema
use Rattle.definitions.proofs.Contracts.Limits.{function}
use Rattle.ir.specs.Answers.{option_of}
use Rattle.contract_lookup.specs.Answers.{id_and_type}
use Rattle.contract_lookup.proofs.Lasts.{position_low}
use Rattle.contract_lookup.proofs.Symbolic.{function_is, named_here, none_named}
use Rattle.contract_lookup.proofs.symbols.function_named.Goals as goal

pub returns-in_err-found : goal.returns-in_err-found
returns-in_err-found c =
    let K = c.args.contract in
    let n = c.args.name.0 in
    ap (option_of id_and_type) c.from_residual.ensures ∙ none_named (read_contract K.sheet.now) n (function_is n K.passed c.in_err-found.ensures.is)

pub overflow_cast-result : goal.overflow_cast-result
overflow_cast-result c = omega (arith, position_low c.args.name.0 c.args.contract.passed function c.in_ok-found.ensures.is)

pub returns : goal.returns
returns c =
    let K = c.args.contract in
    let n = c.args.name.0 in
    named_here (read_contract K.sheet.now) n (function_is n K.passed c.in_ok-found.ensures.is) (c.return_type-2.ensures ∙ ap sema.return_type c.return_type.ensures)

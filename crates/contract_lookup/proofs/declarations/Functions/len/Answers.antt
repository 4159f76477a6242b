use mathlib.Core.Path.{◌∙◌}
use Rattle.definitions.specs.ContractSheet.{function_of}
use Rattle.contract_lookup.proofs.Placing.{count_is, functions_are}
use Rattle.contract_lookup.proofs.declarations.Functions.len.Goals as goal

pub returns-clause-is : goal.returns-clause-is
returns-clause-is c =
    let f = c.args.self.now in
    c.len.ensures.value ∙ count_is f.contract.sheet.now function_of f.places.items (functions_are f.places.items f.contract.passed f.listed)

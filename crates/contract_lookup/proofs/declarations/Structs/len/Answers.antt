use mathlib.Core.Path.{ap, ◌∙◌}
use lib.ListN.{length}
use Rattle.definitions.specs.ContractSheet.{struct_of}
use Rattle.contract_lookup.proofs.Placing.{count_is, structs_are}
use Rattle.contract_lookup.proofs.declarations.Structs.len.Goals as goal

pub returns-clause-is : goal.returns-clause-is
returns-clause-is c =
    let x = c.args.self.now in
    ap length c.as_slice.ensures.value ∙ count_is x.contract.sheet.now struct_of x.places.items (structs_are x.places.items x.contract.passed x.listed)

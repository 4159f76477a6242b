-- `contract_lookup::symbols::field_type`: the first of a name from the end of the fields. Assumes nothing.
use mathlib.Core.Path.{ap, ◌∙◌}
use mathlib.Core.List.{List}
use Rattle.std.proofs.Common.{rules, tests}
use Rattle.std.proofs.lemmas.Iterator.Search.{find_from_yields_List}
use Rattle.definitions.specs.Ast.{Param}
use Rattle.contract_nodes.specs.Nodes.{params_left}
use Rattle.contract_lookup.specs.Answers.{field_type_named}
use Rattle.contract_lookup.proofs.FieldWalks.{walk_back, has, last_typed}
use Rattle.contract_lookup.proofs.symbols.field_type.Goals as goal

pub returns : goal.returns
returns c =
    let n = c.args.name.0 in
    let ps = params_left c.fields.result in
    let found = find_from_yields_List (has n) _ _ c.find.result c.find.ensures.ran (walk_back c.fields.result c.rev.ensures.source) (λ x b q k. search (rules, tests)) in
    last_typed n ps c.find.result c.map.result found (search (rules, tests)) ∙ ap (λ (qs : List Param). field_type_named qs n) c.fields.ensures.is

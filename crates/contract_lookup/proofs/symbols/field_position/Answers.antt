-- `contract_lookup::symbols::field_position`: the first of a name among the fields in order. Assumes nothing.
use mathlib.Core.Path.{ap, ◌∙◌}
use mathlib.Core.List.{List}
use Rattle.std.proofs.Common.{rules, tests}
use Rattle.std.proofs.lemmas.Iterator.Search.{position_from_yields_List}
use Rattle.std.proofs.lemmas.Iterator.Adapters.{position_from-zero}
use Rattle.definitions.specs.Ast.{Param}
use Rattle.definitions.specs.Lower.{field_position}
use Rattle.ir.specs.Answers.{option_of}
use Rattle.contract_nodes.specs.Nodes.{params_left}
use Rattle.contract_lookup.proofs.FieldWalks.{walk, has, first_is}
use Rattle.contract_lookup.proofs.symbols.field_position.Goals as goal

pub returns-clause-is : goal.returns-clause-is
returns-clause-is c =
    let n = c.args.name.0 in
    let ps = params_left c.fields.result in
    let found = position_from_yields_List (has n) _ _ c.position.result c.position.ensures.ran (walk c.fields.result) (λ x b q k. search (rules, tests)) in
    ap (option_of (λ i. i)) (found ∙ position_from-zero (has n) ps) ∙ (first_is n 0 ps ∙ ap (λ (qs : List Param). field_position qs n) c.fields.ensures.is)

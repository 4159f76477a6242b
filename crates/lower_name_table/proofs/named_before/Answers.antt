-- `lower_name_table::named_before`: one of the first functions has the name. Assumes nothing.
use lib.Dec.{eqb}
use borrow.Author.Tests.{tests}
use Rattle.std.proofs.Common.{rules}
use Rattle.std.proofs.lemmas.Iterator.{YieldsList-from_take}
use Rattle.std.proofs.lemmas.Iterator.Consumers.{YieldsList-at}
use Rattle.std.proofs.lemmas.Iterator.Search.{any_from_yields_List}
use Rattle.definitions.specs.Ast.{Function}
use Rattle.lower_name_table.proofs.Names.{functions_left}
use Rattle.lower_name_table.proofs.named_before.Goals as goal

pub returns : goal.returns
returns c =
    let e = c.iter.ensures in
    let left = YieldsList-from_take _ (YieldsList-at c.take.ensures.source (functions_left c.iter.result)) c.take.ensures.count in
    rw (e.0, e.1) at (any_from_yields_List (λ (f : Function). eqb f.name c.args.name.0) _ _ c.any.result c.any.ensures.ran left (λ x b q k. search (rules, tests)))

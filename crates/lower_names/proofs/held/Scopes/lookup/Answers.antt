-- `lower_names::held::Scopes::lookup`: the first of a name from the list's end. Assumes nothing.
use mathlib.Core.Path.{◌≡◌, refl}
use lib.ListN.{take}
use Rattle.std.proofs.Common.{rules, tests, Bor}
use Rattle.std.specs.Option.{option_map}
use Rattle.std.proofs.lemmas.Iterator.Adapters.{YieldsList-from_rev_slice}
use Rattle.std.proofs.lemmas.Iterator.Search.{find_from_yields_List}
use Rattle.lower_names.specs.declared.held.HeldName.{HeldName}
use Rattle.lower_names.proofs.HeldList.{has, looked_up}
use Rattle.lower_names.proofs.held.Scopes.lookup.Goals as goal

pub returns : goal.returns
returns c =
    let i = c.self.inside in
    let found = find_from_yields_List (has c.args.name.0) _ _ c.find.result c.find.ensures.ran (YieldsList-from_rev_slice (take i.count i.names) (search rules)) (λ x b q k. search (rules, tests)) in
    let picked : c.map.result ≡ option_map (λ (b : Bor HeldName). (b.now.local, b.now.ty)) c.find.result = search (rules, tests) in
    rw picked (looked_up (take i.count i.names) i.scope c.self.view_is (λ (b : Bor HeldName). b.now) c.args.name.0 c.find.result refl found)

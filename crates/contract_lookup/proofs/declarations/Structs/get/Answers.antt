use mathlib.Core.Path.{ap, ◌∙◌}
use mathlib.Core.List.{List}
use mathlib.Core.Option.{some}
use Prim.Native.Nat.{ℕ}
use native.Mathlib.Omega.{arith}
use lib.ListN.{get_or, length}
use Rattle.definitions.specs.ContractSheet.{struct_of}
use Rattle.contract_nodes.specs.Ready.{tree_at}
use Rattle.contract_lookup.proofs.Placing.{no_nth, nth_there, structs_are}
use Rattle.contract_lookup.proofs.declarations.Structs.get.Goals as goal

pub returns-then-places-i-clause-is : goal.returns-then-places-i-clause-is
returns-then-places-i-clause-is c =
    let x = c.args.self.now in
    no_nth x.contract.sheet.now struct_of x.places.items (structs_are x.places.items x.contract.passed x.listed) (omega (arith, c.if-places-i.true, ap length c.as_slice-places.ensures.value))

pub returns-clause-is : goal.returns-clause-is
returns-clause-is c =
    let x = c.args.self.now in
    let s = x.contract.sheet.now in
    ap (λ (ps : List ℕ). some (struct_of (tree_at s (get_or ps c.args.i 0)))) c.as_slice-places.ensures.value
    ∙ nth_there s struct_of x.places.items (structs_are x.places.items x.contract.passed x.listed) (omega (arith, c.if-places-i.false, ap length c.as_slice-places.ensures.value))

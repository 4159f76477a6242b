use mathlib.Core.Path.{ap, ◌∙◌}
use mathlib.Core.List.{List}
use mathlib.Core.Option.{some}
use Prim.Native.Nat.{ℕ}
use native.Mathlib.Omega.{arith}
use lib.ListN.{get_or}
use Rattle.definitions.specs.ContractSheet.{function_of}
use Rattle.contract_nodes.specs.Ready.{function_at}
use Rattle.contract_lookup.proofs.Placing.{no_nth, nth_there, functions_are}
use Rattle.contract_lookup.proofs.declarations.Functions.get.Goals as goal

pub returns-then-len-i-clause-is : goal.returns-then-len-i-clause-is
returns-then-len-i-clause-is c =
    let f = c.args.self.now in
    no_nth f.contract.sheet.now function_of f.places.items (functions_are f.places.items f.contract.passed f.listed) (omega (arith, c.if-len-i.true, c.len.ensures.value))

pub returns-clause-is : goal.returns-clause-is
returns-clause-is c =
    let f = c.args.self.now in
    let s = f.contract.sheet.now in
    ap (λ (ps : List ℕ). some (function_at s (get_or ps c.args.i 0))) c.as_slice.ensures.value
    ∙ nth_there s function_of f.places.items (functions_are f.places.items f.contract.passed f.listed) (omega (arith, c.if-len-i.false, c.len.ensures.value))

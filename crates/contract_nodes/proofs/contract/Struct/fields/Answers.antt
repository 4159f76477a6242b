use mathlib.Core.Path.{◌≡◌, ap, sym, ◌∙◌}
use Prim.Native.Nat.{ℕ, ◌+◌, ◌-◌, ◌*◌, ◌/◌}
use native.Mathlib.Omega.{arith}
use Rattle.definitions.specs.Fields.{le}
use Rattle.contract_nodes.specs.Ready.{params_from, top_depth}
use Rattle.contract_nodes.specs.declared.contract.Struct.{Struct}
use Rattle.contract_nodes.proofs.Standing.{ready}
use Rattle.contract_nodes.proofs.Children.{size_fits}
use Rattle.contract_nodes.proofs.Steps.{stop_is, struct_here}
use Rattle.contract_nodes.proofs.Tops.{StructAt}
use Rattle.contract_nodes.proofs.contract.Struct.fields.Goals as goal

abbrev count : Struct → ℕ
count x = (struct_here x).0

at_of : (x : Struct) → StructAt x.contract.sheet.now x.at (count x)
at_of x = (struct_here x).1

left_is : (x : Struct) {size : ℕ} → size ≡ le 4 x.contract.sheet.now x.at → size ≡ 8 + 4 * count x
left_is x e = omega (arith, (at_of x).ends, stop_is x.contract.sheet.now x.at e)

pub read-size-requires : goal.read-size-requires
read-size-requires c = size_fits (ready {d = top_depth} c.args.self.ready)

pub overflow_sub-result : goal.overflow_sub-result
overflow_sub-result c = omega (arith, left_is c.args.self c.read-size.ensures.0)

pub invariant_of-result : goal.invariant_of-result
invariant_of-result c =
    let f = at_of c.args.self in
    record { inside = omega (arith, left_is c.args.self c.read-size.ensures.0, f.ends, f.inside) }

pub returns-clause-is : goal.returns-clause-is
returns-clause-is c =
    let x = c.args.self in
    let n : (c.read-size.result - 8) / 4 ≡ count x = omega (arith, left_is x c.read-size.ensures.0) in
    ap (params_from x.contract.sheet.now (x.at + 8)) n ∙ sym (at_of x).fields

pub returns-clause-most : goal.returns-clause-most
returns-clause-most c = omega (arith, left_is c.args.self c.read-size.ensures.0, (at_of c.args.self).few)

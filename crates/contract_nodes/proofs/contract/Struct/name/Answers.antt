use mathlib.Core.Path.{sym, ◌∙◌}
use native.Mathlib.Omega.{arith}
use Rattle.contract_nodes.proofs.Steps.{struct_here}
use Rattle.contract_nodes.proofs.contract.Struct.name.Goals as goal

pub read_u16-requires : goal.read_u16-requires
read_u16-requires c = let f = (struct_here c.args.self).1 in omega (arith, f.ends, f.inside)

pub returns : goal.returns
returns c =
    let f = (struct_here c.args.self).1 in
    c.new.ensures ∙ (c.read_u16.ensures ∙ sym f.name)

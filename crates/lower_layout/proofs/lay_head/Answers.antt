-- `lower_layout::lay_head`: the start of a function's record, field by field. Assumes nothing.
use mathlib.Core.Path.{refl, ap, ◌∙◌}
use mathlib.Core.List.{map}
use native.Mathlib.Omega.{arith}
use Rattle.definitions.specs.Lower.{own_return_type}
use Rattle.definitions.specs.Records.{write_type}
use Rattle.contract_nodes.specs.Nodes.{function_in}
use Rattle.ir.specs.Types.{as_type}
use Rattle.lower_state.proofs.Appending.{◌then◌}
use Rattle.lower_layout.proofs.Storing.{wrote, wrote_head, put_as}
use Rattle.lower_layout.proofs.Records.{params_length, head_is}
use Rattle.lower_layout.proofs.lay_head.Goals as goal

pub lay_locals-requires : goal.lay_locals-requires
lay_locals-requires c =
    let m = params_length (function_in c.args.f).params in
    omega (arith, m, c.lay_params-place.ensures.past, c.requires, c.lay_params-place.auto.out, c.write-3.auto.out, c.write-2.auto.out, c.write.auto.out, c.write_head.auto.out)

pub returns : goal.returns
returns c =
    let a = c.args in
    let f = function_in a.f in
    let t = c.from.ensures.1 ∙ ap write_type (c.own_return_type-ret.ensures ∙ ap own_return_type c.return_type.ensures) in
    put_as (head_is a.size a.id.0 f (map as_type a.locals.now))
    (wrote_head a.size 51 c.write_head.ensures refl
    then wrote 2 a.id.0 c.write.ensures (omega arith)
    then wrote 2 f.name (rw c.name.ensures at c.write-2.ensures) (omega arith)
    then put_as t (wrote 4 _ c.write-3.ensures (omega arith))
    then c.lay_params-place.ensures
    then c.lay_locals.ensures)

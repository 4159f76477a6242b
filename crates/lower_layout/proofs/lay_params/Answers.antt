-- `lower_layout::lay_params`: the parameters before i are written. Assumes nothing.
use mathlib.Core.Path.{refl, ap, ◌∙◌}
use native.Mathlib.Omega.{arith}
use lib.ListN.{length}
use Rattle.definitions.specs.Records.{write_type}
use Rattle.contract_nodes.specs.Nodes.{function_in}
use Rattle.lower_state.proofs.Appending.{◌then◌}
use Rattle.lower_layout.proofs.Storing.{wrote, put_as}
use Rattle.lower_layout.proofs.Records.{params_none, param_next, params_all, params_are}
use Rattle.lower_layout.proofs.lay_params.Goals as goal

pub loop-i-init : goal.loop-i-init
loop-i-init c =
    let e = c.enumerate-i-items.ensures in
    rw (c.into_iter-i-iterator.ensures.into_iter_gives, e.source, e.count, c.params.ensures.is) (params_none _ _ _, omega (arith, c.param_count-n.ensures.count))

pub loop-i-preserved : goal.loop-i-preserved
loop-i-preserved c =
    let s = c.in-Some.ensures.steps in
    let t = c.from.ensures.1 ∙ ap write_type c.parse_ir_type-ty.ensures in
    rw s.2
    (param_next (rw s.0.is at c.loop-i.invariant.0) (wrote 2 _ (rw s.1 at c.write-in-loop-i.ensures) refl then put_as t (wrote 4 _ (rw s.1 at c.write-in-loop-i-2.ensures) (omega arith))), omega (arith, ap length s.0.is, c.loop-i.invariant.1))

pub returns : goal.returns
returns c =
    let ps = (function_in c.args.f).params in
    let n = c.param_count-n in
    let b = rw c.in-None.ensures.steps.0 at c.loop-i.invariant in
    put_as (params_are ps) (wrote 2 _ (rw n.ensures.count at c.write.ensures) refl then params_all b.0 b.1)

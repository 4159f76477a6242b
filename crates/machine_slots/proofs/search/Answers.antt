-- `machine_slots::search`: the parameters, then what is left of the blocks. Assumes nothing.
use mathlib.Core.Path.{refl, ap, sym, ◌∙◌}
use mathlib.Core.List.{List, ◌++◌, map}
use Prim.Native.Nat.{ℕ}
use native.Mathlib.Omega.{arith}
use lib.ListN.{length-append}
use Rattle.definitions.specs.Ir.{IrType}
use Rattle.program_nodes.specs.Nodes.{ir_of}
use Rattle.machine_slots.specs.Slots.{param_id, blocks_results, value_ids}
use Rattle.ir.proofs.Exits.{exit}
use Rattle.machine_slots.proofs.Searching.{left_as, left_on, left_found, one_on, one_found, one_room, nothing_left}
use Rattle.machine_slots.proofs.Walking.{param_front}
use Rattle.machine_slots.proofs.Counting.{ids_high}
use Rattle.machine_slots.proofs.search.Goals as goal

pub loop-param-init : goal.loop-param-init
unfolding value_ids
loop-param-init c =
    rw c.into_iter-param-iterator.ensures.into_iter_gives
    (left_as (ap (λ l. map param_id l ++ blocks_results (ir_of c.args.f).blocks) (sym c.params-param-items.ensures.is)) (record { same = refl; room = omega (arith, ids_high c.args.f) }))

pub pass-requires : goal.pass-requires
pass-requires c = omega (arith, one_room c.loop-param.invariant (param_front _ c.in-Some.ensures.steps.is c.value-id.ensures))

pub returns-in_err-tally : goal.returns-in_err-tally
returns-in_err-tally c = exit c.from_residual.ensures.1 ∙ one_found c.loop-param.invariant (param_front _ c.in-Some.ensures.steps.is c.value-id.ensures) c.in_err-tally.ensures

pub loop-param-preserved : goal.loop-param-preserved
loop-param-preserved c = one_on c.loop-param.invariant (param_front _ c.in-Some.ensures.steps.is c.value-id.ensures) c.in_ok-tally.ensures

pub loop-block-init : goal.loop-block-init
loop-block-init c =
    let e = ap (λ (ps : List (ℕ × IrType)). map param_id ps ++ blocks_results (ir_of c.args.f).blocks) c.in-None.ensures.steps.0 in
    rw c.into_iter-block-iterator.ensures.into_iter_gives (left_as (e ∙ ap blocks_results (sym c.blocks-block-items.ensures.is)) c.loop-param.invariant)

pub pass_block-requires : goal.pass_block-requires
unfolding blocks_results
pass_block-requires c =
    let r = (left_as (ap blocks_results c.in-Some-block.ensures.steps.is) c.loop-block.invariant).room in
    let m = rw length-append at r in
    omega arith

pub returns-in_err-tally-2 : goal.returns-in_err-tally-2
unfolding blocks_results
returns-in_err-tally-2 c = exit c.from_residual-in_err-tally-2.ensures.1 ∙ left_found _ _ c.loop-block.invariant (ap blocks_results c.in-Some-block.ensures.steps.is) c.in_err-tally-2.ensures

pub loop-block-preserved : goal.loop-block-preserved
unfolding blocks_results
loop-block-preserved c = left_on _ c.loop-block.invariant (ap blocks_results c.in-Some-block.ensures.steps.is) c.in_ok-tally-2.ensures

pub returns : goal.returns
unfolding blocks_results
returns c = nothing_left c.loop-block.invariant (ap blocks_results c.in-None-block.ensures.steps.0)

-- `machine_slots::Tally::pass_block`: what is left of the records is passed. Assumes nothing.
use mathlib.Core.Path.{refl, ap, sym, ◌∙◌}
use native.Mathlib.Omega.{arith}
use Rattle.ir.proofs.Exits.{exit}
use Rattle.program_nodes.proofs.Takes.{an_instr}
use Rattle.machine_slots.specs.Slots.{block_results}
use Rattle.machine_slots.proofs.Searching.{left_as, one_on, one_found, one_room, nothing_left}
use Rattle.machine_slots.proofs.Walking.{no_instr, result_front, no_result}
use Rattle.machine_slots.proofs.Tally.pass_block.Goals as goal

pub loop-record-init : goal.loop-record-init
unfolding block_results
loop-record-init c = let e = ap block_results c.records-record-items.ensures.instrs in rw c.into_iter-record-iterator.ensures.into_iter_gives (left_as (sym e) (record { same = refl; room = omega arith }))

pub pass-requires : goal.pass-requires
pass-requires c = omega (arith, one_room c.loop-record.invariant (result_front (an_instr c.in-Some.ensures.steps c.in-Instr.is) c.in-Some-result.ensures), c.requires)

pub returns-in_err-tally : goal.returns-in_err-tally
returns-in_err-tally c =
    exit c.from_residual.ensures.1
    ∙ one_found c.loop-record.invariant (result_front (an_instr c.in-Some.ensures.steps c.in-Instr.is) c.in-Some-result.ensures) c.in_err-tally.ensures

pub loop-record-preserved-in-Some-result : goal.loop-record-preserved-in-Some-result
loop-record-preserved-in-Some-result c = one_on c.loop-record.invariant (result_front (an_instr c.in-Some.ensures.steps c.in-Instr.is) c.in-Some-result.ensures) c.in_ok-tally.ensures

pub loop-record-preserved : goal.loop-record-preserved
loop-record-preserved c = left_as (no_result (an_instr c.in-Some.ensures.steps c.in-Instr.is) c.in_default-result.ensures) c.loop-record.invariant

pub returns-in_default : goal.returns-in_default
unfolding block_results
returns-in_default c = nothing_left c.loop-record.invariant (ap block_results (no_instr _ _ _ c.in-Some.ensures.steps c.in_default.not-Instr))

pub returns : goal.returns
unfolding block_results
returns c = nothing_left c.loop-record.invariant (ap block_results c.in-None.ensures.steps.0.instrs)

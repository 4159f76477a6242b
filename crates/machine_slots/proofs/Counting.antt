-- A function has no more ids than bytes: an id is of a record, or of a parameter. Assumes nothing.
use mathlib.Core.Path.{◌≡◌, ap}
use mathlib.Core.List.{List}
use mathlib.Core.Option.{Option, none, some}
use Prim.Native.Nat.{ℕ, zero, suc, ◌+◌, ◌≤◌}
use native.Mathlib.Omega.{arith}
use lib.ListN.{length, length-append, length-map}
use Rattle.definitions.specs.Fields.{le}
use Rattle.definitions.specs.Records.{opt_from}
use Rattle.definitions.proofs.Sheets.Reads.{items_count}
use Rattle.program_nodes.specs.Offsets.{param_count_at, fields_at}
use Rattle.sheet.specs.Passed.{stop_of}
use Rattle.program_nodes.specs.Positions.{instrs_here, blocks_here, params_here, BlockFrom, BlocksFrom}
use Rattle.program_nodes.specs.Nodes.{ir_of}
use Rattle.program_nodes.specs.declared.program.Function.{Function}
use Rattle.program_nodes.proofs.Walk.{at_record, at_end, at_instr, at_term, instrs_step, instrs_term, instrs_end, at_blocks, no_block_lem, at_block, blocks_step, blocks_end}
use Rattle.program_nodes.proofs.Facts.{function_is}
use Rattle.machine_slots.specs.Slots.{id_or_none, block_results, blocks_results, value_ids}

one_most : (o : Option ℕ) → length (id_or_none o) ≤ 1
one_most none = omega arith
one_most (some v) = omega arith

results_low : (n : ℕ) {s : List ℕ} {q end : ℕ} → BlockFrom s q end → end ≤ q + n → length (block_results (instrs_here s q end)) + q ≤ end
unfolding block_results
results_low zero {s} {q} {end} f h =
    elim (at_record f) [
      | at_end e ↦ rw (ap block_results (instrs_end s e)) (omega arith)
      | at_term T ↦ absurd (omega (arith, T.low))
      | at_instr I ↦ absurd (omega (arith, I.low, I.high))
    ]
results_low (suc n) {s} {q} {end} f h =
    elim (at_record f) [
      | at_end e ↦ rw (ap block_results (instrs_end s e)) (omega arith)
      | at_term T ↦ rw (ap block_results (instrs_term T)) (omega (arith, T.low))
      | at_instr I ↦
          let o : Option ℕ = opt_from (le 2 s (q + fields_at)) in
          let k = results_low n I.next (omega (arith, I.low)) in
          rw (ap block_results (instrs_step I), length-append) (omega (arith, k, one_most o, I.low))
    ]

blocks_low : (n : ℕ) {s : List ℕ} {b end : ℕ} → BlocksFrom s b end → end ≤ b + n → length (blocks_results (blocks_here s b end)) + b ≤ end
unfolding blocks_results
blocks_low zero {s} {b} {end} f h =
    elim (at_blocks f) [
      | no_block_lem e ↦ rw (ap blocks_results (blocks_end s e)) (omega arith)
      | at_block B ↦ absurd (omega (arith, B.low, B.high))
    ]
blocks_low (suc n) {s} {b} {end} f h =
    elim (at_blocks f) [
      | no_block_lem e ↦ rw (ap blocks_results (blocks_end s e)) (omega arith)
      | at_block B ↦
          let k = blocks_low n B.next (omega (arith, B.low)) in
          let r = results_low (stop_of s b) B.records (omega arith) in
          rw (ap blocks_results (blocks_step B), length-append) (omega (arith, k, r))
    ]

pub ids_high : (f : Function) → length (value_ids (ir_of f)) ≤ f.stop
unfolding value_ids params_here
ids_high f =
    let F = function_is f in
    let s : List ℕ = f.program.sheet.now in
    let k = blocks_low f.stop F.blocks (omega arith) in
    let e : length (params_here s f.at) ≡ le 2 s (f.at + param_count_at) = rw length-map (items_count _ _ s _) in
    rw (length-append, length-map) (omega (arith, k, e, F.first_is))

-- `machine_slots::search`: the parameters, then what is left of the blocks. Assumes nothing.
use mathlib.Core.List.{◌++◌, map}
use Rattle.program_nodes.specs.Nodes.{ir_of, params_in, blocks_in}
use Rattle.machine_slots.specs.Slots.{id_of, none_yet, searched, param_id, blocks_results, value_ids}
use Rattle.machine_slots.proofs.Searching.{Left}
use Rattle.machine_slots.proofs.search.Given as goal

abbrev pub invariant-loop-param : goal.invariant-loop-param
invariant-loop-param l =
    Left (id_of l.v) (searched none_yet (value_ids (ir_of l.f)) (id_of l.v)) l.f.stop l.tally (map param_id (params_in l.param-iterator) ++ blocks_results (ir_of l.f).blocks)

abbrev pub invariant-loop-block : goal.invariant-loop-block
invariant-loop-block l = Left (id_of l.v) (searched none_yet (value_ids (ir_of l.f)) (id_of l.v)) l.f.stop l.tally (blocks_results (blocks_in l.block-iterator))

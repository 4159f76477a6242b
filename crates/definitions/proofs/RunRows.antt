-- The rows of `specs/RunRows.antt` hold, by computation: a declaration for what they show, so that a refusal names the first row of each that
-- fails. Assumes nothing.
use mathlib.Core.Path.{refl}
use Rattle.definitions.specs.Run.{enter, follow, step_entry, step, steps, start, run}
use Rattle.definitions.specs.RunRows.{Reaches, RowsReach, StepsTo, start_rows, enter_rows, visit_rows, operand_rows, local_rows, result_rows, lack_rows, end_rows, steps_rows, state_rows, StateRowsHold, StepsRowsHold}
use Rattle.definitions.proofs.All.{all_of}

start_rows_hold : RowsReach start_rows
unfolding enter follow step_entry step steps start run
start_rows_hold =
    all_of Reaches start_rows
    refl  -- no_block
    refl  -- first_open
    refl  -- first_listed
    refl  -- parameters
    refl  -- word_missing
    refl  -- word_too_many

enter_rows_hold : RowsReach enter_rows
unfolding enter follow step_entry step steps start run
enter_rows_hold =
    all_of Reaches enter_rows
    refl  -- jump_nowhere
    refl  -- jump_to_absent
    refl  -- jump_to_zero
    refl  -- jump_to_open
    refl  -- jump_there
    refl  -- then_nowhere
    refl  -- else_there
    refl  -- then_there
    refl  -- else_nowhere
    refl  -- then_to_open
    refl  -- else_to_open
    refl  -- then_with_one
    refl  -- else_with_zero
    refl  -- then_of_zero

visit_rows_hold : RowsReach visit_rows
unfolding enter follow step_entry step steps start run
visit_rows_hold =
    all_of Reaches visit_rows
    refl  -- leaves_block
    refl  -- leaves_by_then
    refl  -- leaves_by_else
    refl  -- comes_back
    refl  -- block_zero_second
    refl  -- visited_again
    refl  -- first_visited_again
    refl  -- same_id_first
    refl  -- same_id_open
    refl  -- same_id_as_first

operand_rows_hold : RowsReach operand_rows
unfolding enter follow step_entry step steps start run
operand_rows_hold =
    all_of Reaches operand_rows
    refl  -- const
    refl  -- binary_both
    refl  -- binary_first
    refl  -- binary_second
    refl  -- load_held
    refl  -- load_base
    refl  -- store_held
    refl  -- store_base
    refl  -- store_value
    refl  -- state_read
    refl  -- state_write_held
    refl  -- state_write_value
    refl  -- writes_local
    refl  -- write_local_value
    refl  -- call_all
    refl  -- call_nothing
    refl  -- call_first
    refl  -- call_middle
    refl  -- call_last
    refl  -- assert_held
    refl  -- assert_condition
    refl  -- poseidon_both
    refl  -- poseidon_first
    refl  -- poseidon_second
    refl  -- emit_all
    refl  -- emit_nothing
    refl  -- emit_first
    refl  -- emit_middle
    refl  -- emit_last
    refl  -- context_read

local_rows_hold : RowsReach local_rows
unfolding enter follow step_entry step steps start run
local_rows_hold =
    all_of Reaches local_rows
    refl  -- not_written
    refl  -- of_parameter
    refl  -- of_absent
    refl  -- written_before
    refl  -- next_written
    refl  -- last_written
    refl  -- written_later
    refl  -- written_first
    refl  -- written_second
    refl  -- not_declared

result_rows_hold : RowsReach result_rows
unfolding enter follow step_entry step steps start run
result_rows_hold =
    all_of Reaches result_rows
    refl  -- two_results
    refl  -- result_again
    refl  -- result_of_parameter
    refl  -- no_result
    refl  -- result_of_assert
    refl  -- result_of_void
    refl  -- assert_of_zero
    refl  -- result_read
    refl  -- older_result_read
    refl  -- reads_own_result
    refl  -- reads_zero
    refl  -- reads_absent
    refl  -- read_before_made

lack_rows_hold : RowsReach lack_rows
unfolding enter follow step_entry step steps start run
lack_rows_hold =
    all_of Reaches lack_rows
    refl  -- never_produced
    refl  -- of_another_block
    refl  -- of_this_block
    refl  -- parameter_outside
    refl  -- parameter_inside
    refl  -- parameter_again
    refl  -- local_of_another_block
    refl  -- lacks_late
    refl  -- lasts_long

end_rows_hold : RowsReach end_rows
unfolding enter follow step_entry step steps start run
end_rows_hold =
    all_of Reaches end_rows
    refl  -- branch_then_not_held
    refl  -- branch_else_not_held
    refl  -- return_not_held
    refl  -- return_held
    refl  -- return_nothing
    refl  -- unreachable
    refl  -- after_return
    refl  -- after_unreachable
    refl  -- after_lack
    refl  -- after_no_block

pub state_rows_hold : StateRowsHold
state_rows_hold = all_of RowsReach state_rows start_rows_hold enter_rows_hold visit_rows_hold operand_rows_hold local_rows_hold result_rows_hold lack_rows_hold end_rows_hold

pub steps_rows_hold : StepsRowsHold
unfolding enter follow step_entry step steps
steps_rows_hold =
    all_of StepsTo steps_rows
    refl  -- of_earlier_visit
    refl  -- enters_again
    refl  -- of_this_visit
    refl  -- enters_first
    refl  -- no_pick
    refl  -- from_end
    refl  -- from_lack

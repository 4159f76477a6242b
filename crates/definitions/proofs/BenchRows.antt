-- The rows of `specs/BenchRows.antt` hold of the definitions, by computation: a declaration for what they show, so that a refusal names the first row of each
-- that fails. Assumes nothing.
use mathlib.Core.Path.{refl}
use Rattle.definitions.specs.Bench.{binary_word, value_words, state_word, take_outside, enter_function, give_back, go_to, step_instr, step_terminator, step_next, step_block, bench_step, bench_run, bench_start, bench_program}
use Rattle.definitions.specs.BenchRows.{Tries, RowsTry, word_rows, limit_rows, order_rows, pass_rows, block_rows, outside_rows, call_rows, program_rows, memory_rows, refusal_rows}
use Rattle.definitions.proofs.All.{all_of}

pub word_rows_hold : RowsTry word_rows
unfolding binary_word value_words state_word take_outside enter_function give_back go_to step_instr step_terminator step_next step_block bench_step bench_run bench_start bench_program
word_rows_hold =
    all_of Tries word_rows
    refl  -- sum
    refl  -- greatest_sum
    refl  -- sum_wraps
    refl  -- difference
    refl  -- no_difference
    refl  -- difference_wraps
    refl  -- product
    refl  -- product_wraps
    refl  -- quotient
    refl  -- greatest_quotient
    refl  -- zero_divisor
    refl  -- equal
    refl  -- not_equal
    refl  -- not_unequal
    refl  -- unequal
    refl  -- less
    refl  -- not_less
    refl  -- less_unsigned
    refl  -- greater
    refl  -- not_greater
    refl  -- greater_unsigned
    refl  -- at_most
    refl  -- less_is_at_most
    refl  -- at_most_unsigned
    refl  -- at_least
    refl  -- not_at_least
    refl  -- at_least_unsigned

pub limit_rows_hold : RowsTry limit_rows
unfolding binary_word value_words state_word take_outside enter_function give_back go_to step_instr step_terminator step_next step_block bench_step bench_run bench_start bench_program
limit_rows_hold =
    all_of Tries limit_rows
    refl  -- no_step
    refl  -- one_step
    refl  -- limit_before_end
    refl  -- ending_step_is_one
    refl  -- one_left
    refl  -- limit_before_start_block
    refl  -- no_start_block
    refl  -- call_is_a_step
    refl  -- no_start_block_behind_call

pub order_rows_hold : RowsTry order_rows
unfolding binary_word value_words state_word take_outside enter_function give_back go_to step_instr step_terminator step_next step_block bench_step bench_run bench_start bench_program
order_rows_hold =
    all_of Tries order_rows
    refl  -- binary
    refl  -- left_unset
    refl  -- right_unset
    refl  -- load
    refl  -- load_nothing_left
    refl  -- load_base_unset
    refl  -- poseidon
    refl  -- poseidon_nothing_left
    refl  -- poseidon_left_unset
    refl  -- poseidon_right_unset
    refl  -- reads_what_was_written
    refl  -- reads_last_slot
    refl  -- reads_past_end
    refl  -- reads_negative_slot
    refl  -- local_unset
    refl  -- bool_of_seven
    refl  -- sender
    refl  -- nonce
    refl  -- block_number

pub pass_rows_hold : RowsTry pass_rows
unfolding binary_word value_words state_word take_outside enter_function give_back go_to step_instr step_terminator step_next step_block bench_step bench_run bench_start bench_program
pass_rows_hold =
    all_of Tries pass_rows
    refl  -- store
    refl  -- store_base_unset
    refl  -- store_value_unset
    refl  -- writes_last_slot
    refl  -- writes_past_end
    refl  -- writes_negative_slot
    refl  -- operand_before_slot
    refl  -- writes_local
    refl  -- writes_local_unset
    refl  -- assert_of_seven
    refl  -- assert_of_zero
    refl  -- assert_unset
    refl  -- emit
    refl  -- emit_first_unset
    refl  -- emit_last_unset

pub block_rows_hold : RowsTry block_rows
unfolding binary_word value_words state_word take_outside enter_function give_back go_to step_instr step_terminator step_next step_block bench_step bench_run bench_start bench_program
block_rows_hold =
    all_of Tries block_rows
    refl  -- zero_takes_else
    refl  -- one_takes_then
    refl  -- seven_takes_then
    refl  -- condition_unset
    refl  -- first_listed_and_first_of_id
    refl  -- words_last_across_blocks
    refl  -- first_block_again
    refl  -- returned_unset
    refl  -- returned_nothing
    refl  -- unreachable
    refl  -- missing_block
    refl  -- missing_terminator

pub outside_rows_hold : RowsTry outside_rows
unfolding binary_word value_words state_word take_outside enter_function give_back go_to step_instr step_terminator step_next step_block bench_step bench_run bench_start bench_program
outside_rows_hold =
    all_of Tries outside_rows
    refl  -- load_then_poseidon
    refl  -- poseidon_then_load
    refl  -- load_without_result
    refl  -- poseidon_without_result
    refl  -- used_up

pub call_rows_hold : RowsTry call_rows
unfolding binary_word value_words state_word take_outside enter_function give_back go_to step_instr step_terminator step_next step_block bench_step bench_run bench_start bench_program
call_rows_hold =
    all_of Tries call_rows
    refl  -- takes_returned_word
    refl  -- arguments_in_order
    refl  -- missing_argument_unset
    refl  -- other_argument_set
    refl  -- extra_argument_dropped
    refl  -- dropped_argument_is_operand
    refl  -- first_argument_unset
    refl  -- result_unset_without_word
    refl  -- callers_value_not_seen
    refl  -- callers_local_not_seen
    refl  -- ends_inside

pub program_rows_hold : RowsTry program_rows
unfolding binary_word value_words state_word take_outside enter_function give_back go_to step_instr step_terminator step_next step_block bench_step bench_run bench_start bench_program
program_rows_hold =
    all_of Tries program_rows
    refl  -- own_words_after_call
    refl  -- calls_in_calls
    refl  -- from_set_to_unset
    refl  -- first_position
    refl  -- first_function_with_id
    refl  -- position_is_no_id
    refl  -- missing_function

pub memory_rows_hold : RowsTry memory_rows
unfolding binary_word value_words state_word take_outside enter_function give_back go_to step_instr step_terminator step_next step_block bench_step bench_run bench_start bench_program
memory_rows_hold =
    all_of Tries memory_rows
    refl  -- one_parameter
    refl  -- one_parameter_short
    refl  -- one_local
    refl  -- one_local_short
    refl  -- results_of_all_blocks
    refl  -- results_of_all_blocks_short
    refl  -- short_even_with_limit_zero
    refl  -- short_before_start_block
    refl  -- given_back_at_return
    refl  -- short_at_third_open
    refl  -- short_at_second_open
    refl  -- operands_before_memory
    refl  -- sixteen_open
    refl  -- sixteenth_goes_on
    refl  -- sixteenth_short
    refl  -- operands_before_seventeenth

pub refusal_rows_hold : RowsTry refusal_rows
unfolding binary_word value_words state_word take_outside enter_function give_back go_to step_instr step_terminator step_next step_block bench_step bench_run bench_start bench_program
refusal_rows_hold =
    all_of Tries refusal_rows
    refl  -- position_absent
    refl  -- argument_missing
    refl  -- argument_too_many
    refl  -- position_before_memory
    refl  -- count_before_memory_and_limit

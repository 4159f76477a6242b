-- The rows of `specs/BenchSheetRows.antt` hold of the definitions, by computation. Assumes nothing.
use mathlib.Core.Path.{refl}
use mathlib.Core.List.{List}
use Prim.Native.Nat.{ℕ}
use Rattle.definitions.specs.Fields.{le, bytes}
use Rattle.definitions.specs.Grammar.{rows}
use Rattle.definitions.specs.Records.{type_from, ok_type, opt_from, write_type, write_item, size_of, ok_item, read_item, write_items, ok_items, read_items, write_value, field_end, ok_field, past, read_value, write_values, past_all, fields_end, read_values, row_in, row_fields, after, may_end, start_if, start_row, start_at, and_then, check_rest, records_from, check_records, write_record, write_tree, read_node, trees_from, read_records}
use Rattle.definitions.specs.Lower.{fresh_value, with_block, fresh_block, with_local, fresh_local, push_instr, set_terminator, switch_to, current_block_terminated, terminate_if_open, set_scopes, push_value, need_value, lower_call, lower_expr, lower_expr_value, three_blocks, init_local, lower_body, for_header, for_step, unless_terminated, lower_return, lower_stmt, lower_params, lower_function, lower_functions, lower_contract}
use Rattle.definitions.specs.Verify.{define_params, define_result, define_results, define_blocks, check_value_refs, verify_instr, verify_instrs, verify_terminator, verify_block, verify_blocks, verify_function, verify_functions, verify_program}
use Rattle.definitions.specs.ContractSheet.{expr_of, stmt_of, function_of, contract_of, read_contract, refusal3, count_trees, over, limit_tree, refusal4}
use Rattle.definitions.specs.ProgramSheet.{write_program, read_program, refusal40}
use Rattle.definitions.specs.Answers.{lower_sheet, verify_sheet}
use Rattle.definitions.specs.Bench.{binary_word, value_words, state_word, take_outside, enter_function, give_back, go_to, step_instr, step_terminator, step_next, step_block, bench_step, bench_run, bench_start, bench_program, bench_sheet}
use Rattle.definitions.specs.ReadsRows.{Equal}
use Rattle.definitions.specs.BenchSheetRows.{SheetTries, bench_sheet_rows, BenchSheetRowsHold, OverlongSheet, LoweredTries, lowered_rows, LoweredRowsHold, Reached, reached_rows, ReachedRowsHold, SlotsApart, number_rows, NumberRowsHold}
use Rattle.definitions.proofs.All.{all_of}

pub bench_sheet_rows_hold : BenchSheetRowsHold
unfolding le bytes rows type_from ok_type opt_from write_type write_item size_of ok_item read_item write_items ok_items read_items write_value field_end ok_field past read_value write_values past_all fields_end read_values row_in row_fields after may_end start_if start_row start_at and_then check_rest records_from check_records read_node trees_from read_records define_params define_result define_results define_blocks check_value_refs verify_instr verify_instrs verify_terminator verify_block verify_blocks verify_function verify_functions verify_program read_program refusal40 verify_sheet binary_word value_words state_word take_outside enter_function give_back go_to step_instr step_terminator step_next step_block bench_step bench_run bench_start bench_program bench_sheet
bench_sheet_rows_hold =
    all_of SheetTries bench_sheet_rows
    refl  -- returned
    refl  -- limit_reached
    refl  -- context_words
    refl  -- short
    refl  -- argument_missing
    refl  -- position_absent
    refl  -- verifier_before_bench
    refl  -- five_details
    refl  -- no_bytes

pub overlong_sheet : OverlongSheet
unfolding verify_sheet bench_sheet
overlong_sheet = refl

pub lowered_rows_hold : LoweredRowsHold
unfolding le bytes rows type_from ok_type opt_from write_type write_item size_of ok_item read_item write_items ok_items read_items write_value field_end ok_field past read_value write_values past_all fields_end read_values row_in row_fields after may_end start_if start_row start_at and_then check_rest records_from check_records write_record write_tree read_node trees_from read_records fresh_value with_block fresh_block with_local fresh_local push_instr set_terminator switch_to current_block_terminated terminate_if_open set_scopes push_value need_value lower_call lower_expr lower_expr_value three_blocks init_local lower_body for_header for_step unless_terminated lower_return lower_stmt lower_params lower_function lower_functions lower_contract define_params define_result define_results define_blocks check_value_refs verify_instr verify_instrs verify_terminator verify_block verify_blocks verify_function verify_functions verify_program expr_of stmt_of function_of contract_of read_contract refusal3 count_trees over limit_tree refusal4 write_program read_program refusal40 lower_sheet verify_sheet binary_word value_words state_word take_outside enter_function give_back go_to step_instr step_terminator step_next step_block bench_step bench_run bench_start bench_program bench_sheet
lowered_rows_hold =
    all_of LoweredTries lowered_rows
    refl  -- calls_across
    refl  -- P11-unset

pub reached_rows_hold : ReachedRowsHold
unfolding binary_word value_words state_word take_outside enter_function give_back go_to step_instr step_terminator step_next step_block bench_step bench_run bench_start
reached_rows_hold =
    all_of Reached reached_rows
    refl  -- words_made
    refl  -- in_call
    refl  -- given_back
    refl  -- state_written
    refl  -- jumped
    refl  -- stops
    refl  -- stays_stopped

pub slots_apart : SlotsApart
unfolding state_word
slots_apart = record { negative = λ m. refl; greatest = λ m. refl }

pub number_rows_hold : NumberRowsHold
number_rows_hold =
    all_of (Equal {A = List ℕ}) number_rows
    refl  -- returned_word
    refl  -- returned_nothing
    refl  -- zero_divisor
    refl  -- list_used_up
    refl  -- slot_absent
    refl  -- seventeenth
    refl  -- store
    refl  -- unreachable
    refl  -- no_start_block
    refl  -- unset
    refl  -- limit_reached
    refl  -- memory_after

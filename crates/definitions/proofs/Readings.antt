-- The readings of document 01 hold of the definitions, by computation. Assumes nothing.
use mathlib.Core.Path.{refl}
use Rattle.definitions.specs.Fields.{le, bytes}
use Rattle.definitions.specs.Grammar.{rows}
use Rattle.definitions.specs.Records.{type_from, ok_type, opt_from, write_type, write_item, size_of, ok_item, read_item, write_items, ok_items, read_items, write_value, field_end, ok_field, past, read_value, write_values, past_all, fields_end, read_values, row_in, row_fields, after, may_end, start_if, start_row, start_at, and_then, check_rest, records_from, check_records, write_record, write_tree, read_node, trees_from, read_records}
use Rattle.definitions.specs.Lower.{fresh_value, with_block, fresh_block, with_local, fresh_local, push_instr, set_terminator, switch_to, current_block_terminated, terminate_if_open, set_scopes, push_value, need_value, lower_call, lower_expr, lower_expr_value, three_blocks, init_local, lower_body, for_header, for_step, unless_terminated, lower_return, lower_stmt, lower_params, lower_function, lower_functions, lower_contract}
use Rattle.definitions.specs.Verify.{define_params, define_result, define_results, define_blocks, check_value_refs, verify_instr, verify_instrs, verify_terminator, verify_block, verify_blocks, verify_function, verify_functions, verify_program}
use Rattle.definitions.specs.ContractSheet.{expr_of, stmt_of, function_of, contract_of, read_contract, refusal3, count_trees, over, limit_tree, refusal4}
use Rattle.definitions.specs.ProgramSheet.{write_program, read_program, refusal40}
use Rattle.definitions.specs.Answers.{lower_sheet, verify_sheet}
use Rattle.definitions.specs.Readings.{Answered, readings, ReadingsHold}
use Rattle.definitions.proofs.All.{all_of}

pub readings_hold : ReadingsHold
unfolding le bytes rows type_from ok_type opt_from write_type write_item size_of ok_item read_item write_items ok_items read_items write_value field_end ok_field past read_value write_values past_all fields_end read_values row_in row_fields after may_end start_if start_row start_at and_then check_rest records_from check_records write_record write_tree read_node trees_from read_records fresh_value with_block fresh_block with_local fresh_local push_instr set_terminator switch_to current_block_terminated terminate_if_open set_scopes push_value need_value lower_call lower_expr lower_expr_value three_blocks init_local lower_body for_header for_step unless_terminated lower_return lower_stmt lower_params lower_function lower_functions lower_contract define_params define_result define_results define_blocks check_value_refs verify_instr verify_instrs verify_terminator verify_block verify_blocks verify_function verify_functions verify_program expr_of stmt_of function_of contract_of read_contract refusal3 count_trees over limit_tree refusal4 write_program read_program refusal40 lower_sheet verify_sheet
readings_hold =
    all_of Answered readings
    refl  -- 1
    refl  -- 2
    refl  -- 3a
    refl  -- 3b
    refl  -- 3c
    refl  -- 4a
    refl  -- 4b
    refl  -- 5
    refl  -- 6a
    refl  -- 6b
    refl  -- 7a
    refl  -- 7b
    refl  -- 8a
    refl  -- 8b
    refl  -- 10a
    refl  -- 10b
    refl  -- 12a
    refl  -- 12b
    refl  -- 13a
    refl  -- 13b
    refl  -- 14a
    refl  -- 14b
    refl  -- 15

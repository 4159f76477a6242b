-- P1 to P12 hold of the definitions, by computation. Assumes nothing.
use mathlib.Core.Path.{refl}
use Rattle.definitions.specs.Fields.{le, bytes}
use Rattle.definitions.specs.Grammar.{rows}
use Rattle.definitions.specs.Records.{type_from, ok_type, opt_from, write_type, write_item, size_of, ok_item, read_item, write_items, ok_items, read_items, write_value, field_end, ok_field, past, read_value, write_values, past_all, fields_end, read_values, row_in, row_fields, after, may_end, start_if, start_row, start_at, and_then, check_rest, records_from, check_records, write_record, write_tree, read_node, trees_from, read_records}
use Rattle.definitions.specs.Lower.{fresh_value, with_block, fresh_block, with_local, fresh_local, push_instr, set_terminator, switch_to, current_block_terminated, terminate_if_open, set_scopes, push_value, need_value, lower_call, lower_expr, lower_expr_value, three_blocks, init_local, lower_body, for_header, for_step, unless_terminated, lower_return, lower_stmt, lower_params, lower_function, lower_functions, lower_contract}
use Rattle.definitions.specs.Verify.{define_params, define_result, define_results, define_blocks, check_value_refs, verify_instr, verify_instrs, verify_terminator, verify_block, verify_blocks, verify_function, verify_functions, verify_program}
use Rattle.definitions.specs.ContractSheet.{expr_of, stmt_of, function_of, contract_of, read_contract, refusal3, count_trees, over, limit_tree, refusal4}
use Rattle.definitions.specs.ProgramSheet.{write_program, read_program, refusal40}
use Rattle.definitions.specs.Answers.{lower_sheet, verify_sheet}
use Rattle.definitions.specs.Rows.{Holds, proof_sheets, RowsHold}
use Rattle.definitions.proofs.All.{all_of}

pub rows_hold : RowsHold
unfolding le bytes rows type_from ok_type opt_from write_type write_item size_of ok_item read_item write_items ok_items read_items write_value field_end ok_field past read_value write_values past_all fields_end read_values row_in row_fields after may_end start_if start_row start_at and_then check_rest records_from check_records write_record write_tree read_node trees_from read_records fresh_value with_block fresh_block with_local fresh_local push_instr set_terminator switch_to current_block_terminated terminate_if_open set_scopes push_value need_value lower_call lower_expr lower_expr_value three_blocks init_local lower_body for_header for_step unless_terminated lower_return lower_stmt lower_params lower_function lower_functions lower_contract define_params define_result define_results define_blocks check_value_refs verify_instr verify_instrs verify_terminator verify_block verify_blocks verify_function verify_functions verify_program expr_of stmt_of function_of contract_of read_contract refusal3 count_trees over limit_tree refusal4 write_program read_program refusal40 lower_sheet verify_sheet
rows_hold =
    all_of Holds proof_sheets
    refl  -- P1
    refl  -- P2
    refl  -- P3
    refl  -- P4
    refl  -- P5
    refl  -- P6
    refl  -- P7
    refl  -- P8-StorageWrite
    refl  -- P8-Assign
    refl  -- P9
    refl  -- P10
    refl  -- P11
    refl  -- P12

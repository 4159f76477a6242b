-- The rows of statements, functions and contracts of the body check hold of the definitions, by computation. Assumes nothing.
use mathlib.Core.Path.{refl}
use Rattle.definitions.specs.Fields.{le}
use Rattle.definitions.specs.Grammar.{rows}
use Rattle.definitions.specs.Records.{type_from, ok_type, opt_from, size_of, ok_item, read_item, ok_items, read_items, field_end, ok_field, past, read_value, past_all, fields_end, read_values, row_in, row_fields, after, may_end, start_if, start_row, start_at, and_then, check_rest, records_from, check_records, read_node, trees_from, read_records}
use Rattle.definitions.specs.Analyze.{ident_type, access_type, check_field, check_args, call_type, analyze_expr, analyze_return, analyze_stmt, analyze_function, analyze_functions, analyze}
use Rattle.definitions.specs.ContractSheet.{expr_of, stmt_of, function_of, contract_of, read_contract, refusal3, count_trees, over, limit_tree, refusal4}
use Rattle.definitions.specs.Answers.{analyze_sheet}
use Rattle.definitions.specs.AnalyzeRows.{AnalyzesTo, analyzed, AnalyzeRowsHold}
use Rattle.definitions.proofs.All.{all_of}

pub analyze_rows_hold : AnalyzeRowsHold
unfolding le rows type_from ok_type opt_from size_of ok_item read_item ok_items read_items field_end ok_field past read_value past_all fields_end read_values row_in row_fields after may_end start_if start_row start_at and_then check_rest records_from check_records read_node trees_from read_records ident_type access_type check_field check_args call_type analyze_expr analyze_return analyze_stmt analyze_function analyze_functions analyze expr_of stmt_of function_of contract_of read_contract refusal3 count_trees over limit_tree refusal4 analyze_sheet
analyze_rows_hold =
    all_of AnalyzesTo analyzed
    refl  -- A0
    refl  -- A1
    refl  -- A1b
    refl  -- A2
    refl  -- A3
    refl  -- A3b
    refl  -- A3c
    refl  -- A3d
    refl  -- A3e
    refl  -- A3f
    refl  -- A14
    refl  -- A14b
    refl  -- A15
    refl  -- A16
    refl  -- A17
    refl  -- A18
    refl  -- A19
    refl  -- A20
    refl  -- A21
    refl  -- A14c
    refl  -- A15b
    refl  -- A15c
    refl  -- A15d
    refl  -- A22
    refl  -- A23

-- The rows of expressions of the body check hold of the definitions, by computation. Assumes nothing.
use mathlib.Core.Path.{refl}
use Rattle.definitions.specs.Fields.{le}
use Rattle.definitions.specs.Grammar.{rows}
use Rattle.definitions.specs.Records.{type_from, ok_type, opt_from, size_of, ok_item, read_item, ok_items, read_items, field_end, ok_field, past, read_value, past_all, fields_end, read_values, row_in, row_fields, after, may_end, start_if, start_row, start_at, and_then, check_rest, records_from, check_records, read_node, trees_from, read_records}
use Rattle.definitions.specs.Analyze.{ident_type, access_type, check_field, check_args, call_type, analyze_expr, analyze_return, analyze_stmt, analyze_function, analyze_functions, analyze}
use Rattle.definitions.specs.ContractSheet.{expr_of, stmt_of, function_of, contract_of, read_contract, refusal3, count_trees, over, limit_tree, refusal4}
use Rattle.definitions.specs.Answers.{analyze_sheet}
use Rattle.definitions.specs.AnalyzeRows.{AnalyzesTo}
use Rattle.definitions.specs.AnalyzeExprRows.{analyzed_exprs, AnalyzeExprRowsHold}
use Rattle.definitions.proofs.All.{all_of}

pub analyze_expr_rows_hold : AnalyzeExprRowsHold
unfolding le rows type_from ok_type opt_from size_of ok_item read_item ok_items read_items field_end ok_field past read_value past_all fields_end read_values row_in row_fields after may_end start_if start_row start_at and_then check_rest records_from check_records read_node trees_from read_records ident_type access_type check_field check_args call_type analyze_expr analyze_return analyze_stmt analyze_function analyze_functions analyze expr_of stmt_of function_of contract_of read_contract refusal3 count_trees over limit_tree refusal4 analyze_sheet
analyze_expr_rows_hold =
    all_of AnalyzesTo analyzed_exprs
    refl  -- A4
    refl  -- A5
    refl  -- A5b
    refl  -- A6
    refl  -- A7
    refl  -- A7b
    refl  -- A7c
    refl  -- A8
    refl  -- A8b
    refl  -- A9
    refl  -- A10
    refl  -- A10b
    refl  -- A10c
    refl  -- A10d
    refl  -- A11
    refl  -- A12
    refl  -- A12b
    refl  -- A13
    refl  -- A13b
    refl  -- U1
    refl  -- U2
    refl  -- A5c
    refl  -- A10e
    refl  -- A10f
    refl  -- A7d
    refl  -- A11b

-- The rows of `specs/Meaning.antt` hold, by computation. Assumes nothing.
use Prim.Native.Nat.{ℕ}
use mathlib.Core.Path.{◌≡◌, refl, ap, sym}
use mathlib.Core.Option.{Option, none, some}
use mathlib.Core.List.{List, [], ◌∷◌}
use native.Mathlib.Omega.{arith}
use Rattle.definitions.specs.All.{All, acons}
use Rattle.definitions.specs.Result.{Result, err, ok}
use Rattle.definitions.specs.Fields.{le, bytes}
use Rattle.definitions.specs.Grammar.{rows}
use Rattle.definitions.specs.Records.{type_from, ok_type, opt_from, write_type, write_item, size_of, ok_item, read_item, write_items, ok_items, read_items, write_value, field_end, ok_field, past, read_value, write_values, past_all, fields_end, read_values, row_in, row_fields, after, may_end, start_if, start_row, start_at, and_then, check_rest, records_from, check_records, write_record, write_tree, read_node, trees_from, read_records}
use Rattle.definitions.specs.Ir.{IrType}
use Rattle.definitions.specs.Lower.{fresh_value, with_block, fresh_block, with_local, fresh_local, push_instr, set_terminator, switch_to, current_block_terminated, terminate_if_open, set_scopes, push_value, need_value, lower_call, lower_expr, lower_expr_value, three_blocks, init_local, lower_body, for_header, for_step, unless_terminated, lower_return, lower_stmt, lower_params, lower_function, lower_functions, lower_contract}
use Rattle.definitions.specs.Verify.{define_params, define_result, define_results, define_blocks, check_value_refs, verify_instr, verify_instrs, verify_terminator, verify_block, verify_blocks, verify_function, verify_functions, verify_program}
use Rattle.definitions.specs.ContractSheet.{expr_of, stmt_of, function_of, contract_of, read_contract, refusal3, count_trees, over, limit_tree, refusal4}
use Rattle.definitions.specs.ProgramSheet.{write_program, read_program, refusal40}
use Rattle.definitions.specs.Answers.{Refusal, Answer, lower_sheet, verify_sheet}
use Rattle.definitions.specs.Run.{State, at, ended, lacks, enter, follow, step_entry, step, steps, start, run}
use Rattle.definitions.specs.Rows.{SheetRow}
use Rattle.definitions.specs.RunRows.{OfAny}
use Rattle.definitions.specs.ReadsRows.{Equal}
use Rattle.definitions.specs.Meaning.{going_on, has_ended, has_lacked, no_function, Ran, Runs, run_rows, RunRowsHold, LackingProgramLacks, wrong_pair, WrongRowsRefused}
use Rattle.definitions.proofs.All.{all_of}

pub run_rows_hold : RunRowsHold
unfolding le bytes rows type_from ok_type opt_from write_type write_item size_of ok_item read_item write_items ok_items read_items write_value field_end ok_field past read_value write_values past_all fields_end read_values row_in row_fields after may_end start_if start_row start_at and_then check_rest records_from check_records write_record write_tree read_node trees_from read_records fresh_value with_block fresh_block with_local fresh_local push_instr set_terminator switch_to current_block_terminated terminate_if_open set_scopes push_value need_value lower_call lower_expr lower_expr_value three_blocks init_local lower_body for_header for_step unless_terminated lower_return lower_stmt lower_params lower_function lower_functions lower_contract define_params define_result define_results define_blocks check_value_refs verify_instr verify_instrs verify_terminator verify_block verify_blocks verify_function verify_functions verify_program expr_of stmt_of function_of contract_of read_contract refusal3 count_trees over limit_tree refusal4 write_program read_program refusal40 lower_sheet verify_sheet enter follow step_entry step steps start run
run_rows_hold =
    all_of Runs run_rows
    refl  -- returns
    refl  -- empty_program
    refl  -- goes_on
    refl  -- leaves_while
    refl  -- leaves_loop
    refl  -- assigns
    refl  -- let_itself
    refl  -- closed_scope

pub lacking_program_lacks : LackingProgramLacks
unfolding le bytes rows type_from ok_type opt_from write_type write_item size_of ok_item read_item write_items ok_items read_items write_value field_end ok_field past read_value write_values past_all fields_end read_values row_in row_fields after may_end start_if start_row start_at and_then check_rest records_from check_records write_record write_tree read_node trees_from read_records fresh_value with_block fresh_block with_local fresh_local push_instr set_terminator switch_to current_block_terminated terminate_if_open set_scopes push_value need_value lower_call lower_expr lower_expr_value three_blocks init_local lower_body for_header for_step unless_terminated lower_return lower_stmt lower_params lower_function lower_functions lower_contract define_params define_result define_results define_blocks check_value_refs verify_instr verify_instrs verify_terminator verify_block verify_blocks verify_function verify_functions verify_program expr_of stmt_of function_of contract_of read_contract refusal3 count_trees over limit_tree refusal4 write_program read_program refusal40 lower_sheet verify_sheet enter follow step_entry step steps start run
lacking_program_lacks = refl

-- two things are not equal if a number tells them apart
apart : {A : Type 0} (f : A → ℕ) {a b : A} → a ≡ b → f a ≡ 0 → f b ≡ 1 → ⊥
apart f {a} {b} e p q = omega (arith, ap f e, p, q)

refused : Answer → ℕ
refused (ok b) = 0
refused (err r) = 1

absent : Option Answer → ℕ
absent (some a) = 0
absent none = 1

outcome : State → ℕ
outcome (at place) = 2
outcome ended = 1
outcome lacks = 0

lacked_in : Result Refusal Ran → ℕ
lacked_in (err r) = 0
lacked_in (ok r) = elim r.stands [ going_on ↦ 0 | has_ended ↦ 0 | has_lacked ↦ 1 | no_function ↦ 0 ]

head_of : {A : Type 0} {P : A → Type 0} {a : A} {l : List A} → All P (a ∷ l) → P a
head_of (acons p h) = p

tail_of : {A : Type 0} {P : A → Type 0} {a : A} {l : List A} → All P (a ∷ l) → All P l
tail_of (acons p h) = h

pair_refused : Equal wrong_pair → ⊥
pair_refused h = apart (λ (n : ℕ). n) h refl refl

pub wrong_rows_refused : WrongRowsRefused
unfolding refused absent outcome lacked_in le bytes rows type_from ok_type opt_from write_type write_item size_of ok_item read_item write_items ok_items read_items write_value field_end ok_field past read_value write_values past_all fields_end read_values row_in row_fields after may_end start_if start_row start_at and_then check_rest records_from check_records write_record write_tree read_node trees_from read_records fresh_value with_block fresh_block with_local fresh_local push_instr set_terminator switch_to current_block_terminated terminate_if_open set_scopes push_value need_value lower_call lower_expr lower_expr_value three_blocks init_local lower_body for_header for_step unless_terminated lower_return lower_stmt lower_params lower_function lower_functions lower_contract define_params define_result define_results define_blocks check_value_refs verify_instr verify_instrs verify_terminator verify_block verify_blocks verify_function verify_functions verify_program expr_of stmt_of function_of contract_of read_contract refusal3 count_trees over limit_tree refusal4 write_program read_program refusal40 lower_sheet verify_sheet enter follow step_entry step steps start run
wrong_rows_refused = record {
  sheet = λ h. apart (λ (r : SheetRow). refused r.lowered) h refl refl;
  verified = λ h. apart (λ (r : SheetRow). absent r.verified) h refl refl;
  reading = λ h. apart refused (sym h) refl refl;
  run = λ h. apart lacked_in h refl refl;
  state = λ h. apart (λ (f : OfAny). outcome (f 0 0 IrType.U64 [])) h refl refl;
  steps = λ h. apart (λ (f : OfAny). outcome (f 0 0 IrType.U64 [])) h refl refl;
  pair = pair_refused;
  first = λ h. pair_refused (head_of h);
  second = λ h. pair_refused (head_of (tail_of h));
}

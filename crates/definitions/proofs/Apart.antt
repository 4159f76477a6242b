-- Lowering never gives 51, and the rows of both answers hold by computation. Assumes nothing.
use Prim.Native.Nat.{ℕ}
use mathlib.Core.Path.{◌≡◌, refl, ap}
use mathlib.Core.Bool.{Bool, true, false, ◌&&◌}
use mathlib.Core.List.{List, [], ◌∷◌}
use lib.Dec.{leb}
use lib.ListN.{length}
use native.Mathlib.Omega.{arith}
use Rattle.definitions.specs.Fields.{le, bytes}
use Rattle.definitions.specs.Grammar.{rows}
use Rattle.definitions.specs.Records.{type_from, ok_type, opt_from, write_type, write_item, size_of, ok_item, read_item, write_items, ok_items, read_items, write_value, field_end, ok_field, past, read_value, write_values, past_all, fields_end, read_values, row_in, row_fields, after, may_end, start_if, start_row, start_at, and_then, check_rest, records_from, check_records, write_record, write_tree, read_node, trees_from, read_records}
use Rattle.definitions.specs.Lower.{fresh_value, with_block, fresh_block, with_local, fresh_local, push_instr, set_terminator, switch_to, current_block_terminated, terminate_if_open, set_scopes, push_value, need_value, lower_call, lower_expr, lower_expr_value, three_blocks, init_local, lower_body, for_header, for_step, unless_terminated, lower_return, lower_stmt, lower_params, lower_function, lower_functions, lower_contract}
use Rattle.definitions.specs.Analyze.{ident_type, access_type, check_field, check_args, call_type, analyze_expr, analyze_return, analyze_stmt, analyze_function, analyze_functions, analyze}
use Rattle.definitions.specs.ContractSheet.{expr_of, stmt_of, function_of, contract_of, read_contract, refusal3, count_trees, over, limit_tree, refusal4}
use Rattle.definitions.specs.ProgramSheet.{write_program}
use Rattle.definitions.specs.Result.{Result, err, ok, ◌>>=◌, ◌>>◌, map_err, check}
use Rattle.definitions.specs.Ir.{IrProgram}
use Rattle.definitions.specs.Lower as lower
use Rattle.definitions.specs.Records as records
use Rattle.definitions.specs.Answers.{Refusal, refusal, Answer, refuse_at, lower_refusal, check_contract, analyze_sheet, lower_sheet}
use Rattle.definitions.specs.Apart.{Never51, RulesOutChecking, AnswersBoth, returned, apart, ApartHold}
use Rattle.definitions.proofs.All.{all_of}

-- a refusal, if it is one, has another number
abbrev Other : {A : Type 0} → Result Refusal A → Type 0
Other (ok a) = Unit {0}
Other (err r) = r.number ≡ 51 → ⊥

bind : {A B : Type 0} (r : Result Refusal A) (k : A → Result Refusal B) → Other r → ((a : A) → Other (k a)) → Other (r >>= k)
bind (ok a) k h g = g a
bind (err x) k h g = h

next : {A B : Type 0} (r : Result Refusal A) (k : Result Refusal B) → Other r → Other k → Other (r >> k)
next (ok a) k h g = g
next (err x) k h g = h

checks : (t : Bool) (f g : records.Verdict) → Other (check t (refusal 1 []) >> (refuse_at 3 f >> refuse_at 4 g))
checks false f g = λ q. omega arith
checks true (records.Bad p) g = λ q. omega arith
checks true records.Good (records.Bad p) = λ q. omega arith
checks true records.Good records.Good = tt

fits : (t : Bool) (b : List ℕ) → Other (check t (refusal 31 []) >> ok b)
fits true b = tt
fits false b = λ q. omega arith

walk : (e : lower.LoweringError) → (lower_refusal e).number ≡ 51 → ⊥
walk (lower.LoweringError.UndefinedVariable n) q = omega arith
walk (lower.LoweringError.UndefinedFunction n) q = omega arith
walk (lower.LoweringError.UnresolvedType s) q = omega arith
walk lower.LoweringError.FieldOfNonStruct q = omega arith
walk (lower.LoweringError.NoSuchField s f) q = omega arith
walk lower.LoweringError.StructLiteral q = omega arith
walk lower.LoweringError.MappingRead q = omega arith
walk lower.LoweringError.MappingWrite q = omega arith
walk lower.LoweringError.VoidAsValue q = omega arith
walk lower.LoweringError.PoseidonArguments q = omega arith
walk lower.LoweringError.MerkleProof q = omega arith
walk (lower.LoweringError.TooManyBlocksOrLocals i) q = omega arith

walked : {A : Type 0} (r : Result lower.LoweringError A) → Other (map_err lower_refusal r)
walked (ok a) = tt
walked (err e) = walk e

abbrev written : (room : ℕ) → IrProgram → Answer
written room p = check (leb (length (write_program p)) 32768 && leb (length (write_program p)) room) (refusal 31 []) >> ok (write_program p)

lowered : (s : List ℕ) (room : ℕ) → Other (lower_sheet s room)
unfolding lower_sheet
lowered s room =
    next (check_contract s) (map_err lower_refusal (lower.lower_contract (read_contract s)) >>= written room)
    (checks (leb (length s) 32768) (refusal3 s) (refusal4 s))
    (bind (map_err lower_refusal (lower.lower_contract (read_contract s))) (written room) (walked (lower.lower_contract (read_contract s))) (λ p. fits (leb (length (write_program p)) 32768 && leb (length (write_program p)) room) (write_program p)))

refused : (a : Answer) (details : List ℕ) → Other a → a ≡ err (refusal 51 details) → ⊥
refused (ok b) details h e = absurd (let z : ◌≡◌ {A = ℕ} 0 1 = cc in omega arith)
refused (err r) details h e = h (let z : r ≡ refusal 51 details = cc in ap (λ (x : Refusal). x.number) z)

pub never_51 : Never51
never_51 s room details = refused (lower_sheet s room) details (lowered s room)

pub apart_hold : ApartHold
unfolding le bytes rows type_from ok_type opt_from write_type write_item size_of ok_item read_item write_items ok_items read_items write_value field_end ok_field past read_value write_values past_all fields_end read_values row_in row_fields after may_end start_if start_row start_at and_then check_rest records_from check_records write_record write_tree read_node trees_from read_records fresh_value with_block fresh_block with_local fresh_local push_instr set_terminator switch_to current_block_terminated terminate_if_open set_scopes push_value need_value lower_call lower_expr lower_expr_value three_blocks init_local lower_body for_header for_step unless_terminated lower_return lower_stmt lower_params lower_function lower_functions lower_contract expr_of stmt_of function_of contract_of read_contract refusal3 count_trees over limit_tree refusal4 write_program lower_sheet ident_type access_type check_field check_args call_type analyze_expr analyze_return analyze_stmt analyze_function analyze_functions analyze analyze_sheet
apart_hold =
    all_of AnswersBoth apart
    refl  -- arm_let
    refl  -- returned

-- at the second row's sheet
pub rules_out_checking : RulesOutChecking
unfolding le bytes rows type_from ok_type opt_from write_type write_item size_of ok_item read_item write_items ok_items read_items write_value field_end ok_field past read_value write_values past_all fields_end read_values row_in row_fields after may_end start_if start_row start_at and_then check_rest records_from check_records write_record write_tree read_node trees_from read_records fresh_value with_block fresh_block with_local fresh_local push_instr set_terminator switch_to current_block_terminated terminate_if_open set_scopes push_value need_value lower_call lower_expr lower_expr_value three_blocks init_local lower_body for_header for_step unless_terminated lower_return lower_stmt lower_params lower_function lower_functions lower_contract expr_of stmt_of function_of contract_of read_contract refusal3 count_trees over limit_tree refusal4 write_program lower_sheet ident_type access_type check_field check_args call_type analyze_expr analyze_return analyze_stmt analyze_function analyze_functions analyze analyze_sheet
rules_out_checking never = never returned.sheet 0 (22 ∷ 3 ∷ []) refl

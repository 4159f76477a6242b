-- What is checked of an instruction and of a terminator, and of their parts. Helpers of contracts: no public promise cites them. Assumes nothing: these are definitions.
use Rattle.std.specs.Prelude.{ℕ, ◌≡◌, ◌&&◌, length, Result, Option}
use Rattle.definitions.specs.Result.{◌>>=◌, map_err, check, Done}
use Rattle.definitions.specs.Ir.{eq_type, Instruction, Terminator, contains}
use Rattle.definitions.specs.Ir as ir
use Rattle.definitions.specs.Verify as rules
use Rattle.definitions.specs.Verify.{Checked, Defined, check_value_ref, check_block_ref, check_local_ref, return_matches, returned_type, block_ids, verify_instr, verify_terminator}
use Rattle.ir.specs.Types.{as_type}
use Rattle.ir.specs.Answers.{option_of, result_of}
use Rattle.ir.specs.declared.IrType.{IrType}
use Rattle.ir.specs.declared.ValueId.{ValueId}
use Rattle.program_nodes.specs.Nodes.{ir_of, ids_of_all, value_of, definitions_of}
use Rattle.program_nodes.specs.declared.program.Function.{Function}
use Rattle.verify_state.specs.Errors.{error_of}
use Rattle.verify_state.specs.Promises.{SameTable}
use Rattle.verify_state.specs.declared.VerifyError.{VerifyError}

-- r is what the table of f says of the value v
pub record Finds (f : Function) (v : ℕ) (r : Result IrType VerifyError) : Type 0 where
  pub finds : (ds : Defined) → SameTable ds (definitions_of f) → result_of error_of as_type r ≡ map_err (λ (x : rules.VerifyError). (f.name.0, x)) (check_value_ref v ds)

-- what is checked of f's references to a function, a local and a block
abbrev pub function_check : Function → ℕ → Checked Done
function_check f g = check (contains g (ids_of_all f.program)) (rules.VerifyError.UndefinedFunction g)

abbrev pub local_check : Function → ℕ → Checked Done
local_check f l = check_local_ref l (length (ir_of f).locals)

abbrev pub target_check : Function → ℕ → Checked Done
target_check f b = check_block_ref b (block_ids (ir_of f).blocks)

-- of an instruction of f, and of the operands of a binary one
abbrev pub instr_check : Function → Instruction → Defined → Checked Done
instr_check f i ds = verify_instr i ds (ids_of_all f.program) (length (ir_of f).locals)

unfoldable pub operands_check : IrType → (l r : ℕ) → Defined → Checked Done
operands_check ty l r ds = do
  lhs_ty ← check_value_ref l ds
  rhs_ty ← check_value_ref r ds
  check (eq_type lhs_ty (as_type ty) && eq_type rhs_ty (as_type ty)) (rules.VerifyError.OperandTypeMismatch lhs_ty rhs_ty)

-- of a terminator of f, of what a return gives, and of a branch's value: defined, and a Bool
abbrev pub term_check : Function → Terminator → Defined → Checked Done
term_check f t ds = verify_terminator t (ir_of f).ret_ty ds (block_ids (ir_of f).blocks)

unfoldable pub return_check : Function → Option ValueId → Defined → Checked Done
return_check f v ds = do
  got_ty ← returned_type (option_of value_of v) ds
  check (return_matches (ir_of f).ret_ty got_ty) (rules.VerifyError.ReturnTypeMismatch (ir_of f).ret_ty got_ty)

unfoldable pub condition_check : ℕ → Defined → Checked Done
condition_check v ds = do
  cond_ty ← check_value_ref v ds
  check (eq_type cond_ty ir.IrType.BoolT) (rules.VerifyError.BranchConditionNotBool v cond_ty)

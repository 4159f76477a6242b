-- Verifying (`ir/verify.rs`). Assumes nothing: these are definitions.
use Rattle.std.specs.Prelude.{ℕ, List, [], ◌∷◌, map, Bool, true, false, ◌&&◌, not, eqb, ltb, length}
use Rattle.std.proofs.Math.Option.{Option, none, some}
use Rattle.definitions.specs.Result.{Result, err, ok, ◌>>=◌, ◌>>◌, ok_or_else, map_err, Done, check}
use Rattle.definitions.specs.Ir.{IrType, eq_type, Instruction, result_type, Terminator, InstrNode, BasicBlock, IrFunction, IrProgram, contains}
use Rattle.definitions.specs.InstrTable.{kind_of}

-- `ResultOnNone` takes the place of a panic: a result id on an instruction that gives no result. It has the instruction's kind.
pub data VerifyError : Type 0 where
  UndefinedValue : (value : ℕ) → VerifyError
  DuplicateValueDef : (value : ℕ) → VerifyError
  UndefinedBlock : (block : ℕ) → VerifyError
  MissingTerminator : (block : ℕ) → VerifyError
  ReturnTypeMismatch : (expected : IrType) (got : Option IrType) → VerifyError
  BranchConditionNotBool : (value : ℕ) (actual_ty : IrType) → VerifyError
  OperandTypeMismatch : (lhs_ty rhs_ty : IrType) → VerifyError
  UndefinedLocal : (local : ℕ) → VerifyError
  UndefinedFunction : (function : ℕ) → VerifyError
  ResultOnNone : (kind : ℕ) → VerifyError

abbrev pub Checked : Type 0 → Type 0
Checked A = Result VerifyError A

-- `defined`: each defined value with its type, the newest first
abbrev pub Defined : Type 0
Defined = List (ℕ × IrType)

abbrev pub defined_type : ℕ → Defined → Option IrType
defined_type v [] = none
defined_type v (d ∷ ds) = elim (eqb d.0 v) [ true ↦ some d.1 | false ↦ defined_type v ds ]

abbrev pub insert : ℕ → IrType → Defined → Checked Defined
insert v t ds = elim (defined_type v ds) [ some u ↦ err (VerifyError.DuplicateValueDef v) | none ↦ ok ((v, t) ∷ ds) ]

-- the parameters, then the results of all instructions
unfoldable pub define_params : List (ℕ × IrType) → Defined → Checked Defined
define_params [] ds = ok ds
define_params ((v, t) ∷ ps) ds = do
  ds ← insert v t ds
  define_params ps ds

unfoldable pub define_result : Instruction → Option ℕ → Defined → Checked Defined
define_result i none ds = ok ds
define_result i (some v) ds = do
  t ← ok_or_else (result_type i) (VerifyError.ResultOnNone (kind_of i))
  insert v t ds

unfoldable pub define_results : List InstrNode → Defined → Checked Defined
define_results [] ds = ok ds
define_results (n ∷ ns) ds = do
  ds ← define_result n.instr n.result ds
  define_results ns ds

unfoldable pub define_blocks : List BasicBlock → Defined → Checked Defined
define_blocks [] ds = ok ds
define_blocks (b ∷ bs) ds = do
  ds ← define_results b.instrs ds
  define_blocks bs ds

-- `check_value_ref`, `check_block_ref`, `check_local_ref`
abbrev pub check_value_ref : ℕ → Defined → Checked IrType
check_value_ref v ds = ok_or_else (defined_type v ds) (VerifyError.UndefinedValue v)

unfoldable pub check_value_refs : List ℕ → Defined → Checked Done
check_value_refs [] ds = ok tt
check_value_refs (v ∷ vs) ds = do
  check_value_ref v ds
  check_value_refs vs ds

abbrev pub check_block_ref : ℕ → List ℕ → Checked Done
check_block_ref b valid_blocks = check (contains b valid_blocks) (VerifyError.UndefinedBlock b)

abbrev pub check_local_ref : ℕ → ℕ → Checked Done
check_local_ref l local_count = check (ltb l local_count) (VerifyError.UndefinedLocal l)

-- `verify_instr`
unfoldable pub verify_instr : Instruction → Defined → List ℕ → ℕ → Checked Done
verify_instr (Instruction.Const t v) ds valid_fids local_count = ok tt
verify_instr (Instruction.Binary op t l r) ds valid_fids local_count = do
  lhs_ty ← check_value_ref l ds
  rhs_ty ← check_value_ref r ds
  check (eq_type lhs_ty t && eq_type rhs_ty t) (VerifyError.OperandTypeMismatch lhs_ty rhs_ty)
verify_instr (Instruction.Load t b o) ds valid_fids local_count = check_value_refs (b ∷ []) ds
verify_instr (Instruction.Store b o v) ds valid_fids local_count = check_value_refs (b ∷ v ∷ []) ds
verify_instr (Instruction.StateRead t s) ds valid_fids local_count = ok tt
verify_instr (Instruction.StateWrite s v) ds valid_fids local_count = check_value_refs (v ∷ []) ds
verify_instr (Instruction.ReadLocal l t) ds valid_fids local_count = check_local_ref l local_count
verify_instr (Instruction.WriteLocal l v) ds valid_fids local_count = do
  check_local_ref l local_count
  check_value_refs (v ∷ []) ds
verify_instr (Instruction.Call f a t) ds valid_fids local_count = do
  check (contains f valid_fids) (VerifyError.UndefinedFunction f)
  check_value_refs a ds
verify_instr (Instruction.Assert c) ds valid_fids local_count = check_value_refs (c ∷ []) ds
verify_instr (Instruction.Poseidon l r) ds valid_fids local_count = check_value_refs (l ∷ r ∷ []) ds
verify_instr (Instruction.Emit e a) ds valid_fids local_count = check_value_refs a ds
verify_instr (Instruction.ContextRead k) ds valid_fids local_count = ok tt

unfoldable pub verify_instrs : List InstrNode → Defined → List ℕ → ℕ → Checked Done
verify_instrs [] ds valid_fids local_count = ok tt
verify_instrs (n ∷ ns) ds valid_fids local_count = do
  verify_instr n.instr ds valid_fids local_count
  verify_instrs ns ds valid_fids local_count

-- the return types that fit: none for Void, and otherwise the same
abbrev pub return_matches : IrType → Option IrType → Bool
return_matches expected none = eq_type expected IrType.Void
return_matches expected (some got) = not (eq_type expected IrType.Void) && eq_type expected got

abbrev pub returned_type : Option ℕ → Defined → Checked (Option IrType)
returned_type none ds = ok none
returned_type (some v) ds = do
  t ← check_value_ref v ds
  ok (some t)

unfoldable pub verify_terminator : Terminator → IrType → Defined → List ℕ → Checked Done
verify_terminator (Terminator.Jump b) ret_ty ds valid_blocks = check_block_ref b valid_blocks
verify_terminator (Terminator.Branch v b e) ret_ty ds valid_blocks = do
  cond_ty ← check_value_ref v ds
  check (eq_type cond_ty IrType.BoolT) (VerifyError.BranchConditionNotBool v cond_ty)
  check_block_ref b valid_blocks
  check_block_ref e valid_blocks
verify_terminator (Terminator.Return v) ret_ty ds valid_blocks = do
  got_ty ← returned_type v ds
  check (return_matches ret_ty got_ty) (VerifyError.ReturnTypeMismatch ret_ty got_ty)
verify_terminator Terminator.Unreachable ret_ty ds valid_blocks = ok tt

abbrev pub block_ids : List BasicBlock → List ℕ
block_ids bs = map (λ (b : BasicBlock). b.id) bs

-- `verify_block`
unfoldable pub verify_block : BasicBlock → IrFunction → Defined → List ℕ → Checked Done
verify_block b f ds valid_fids = do
  verify_instrs b.instrs ds valid_fids (length f.locals)
  t ← ok_or_else b.terminator (VerifyError.MissingTerminator b.id)
  verify_terminator t f.ret_ty ds (block_ids f.blocks)

unfoldable pub verify_blocks : List BasicBlock → IrFunction → Defined → List ℕ → Checked Done
verify_blocks [] f ds valid_fids = ok tt
verify_blocks (b ∷ bs) f ds valid_fids = do
  verify_block b f ds valid_fids
  verify_blocks bs f ds valid_fids

-- `verify_function`
unfoldable pub verify_function : IrFunction → List ℕ → Checked Done
verify_function f valid_fids = do
  ds ← define_params f.params []
  ds ← define_blocks f.blocks ds
  verify_blocks f.blocks f ds valid_fids

-- `verify_program`: an error with the name of its function (`in_function`)
abbrev pub function_ids : List IrFunction → List ℕ
function_ids fs = map (λ (f : IrFunction). f.id) fs

unfoldable pub verify_functions : List IrFunction → List ℕ → Result (ℕ × VerifyError) Done
verify_functions [] valid_fids = ok tt
verify_functions (f ∷ fs) valid_fids = do
  map_err (λ (x : VerifyError). (f.name, x)) (verify_function f valid_fids)
  verify_functions fs valid_fids

unfoldable pub verify_program : IrProgram → Result (ℕ × VerifyError) Done
verify_program p = verify_functions p.functions (function_ids p.functions)

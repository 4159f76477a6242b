-- Lowering (`ir/lower.rs`), with refusal 30 where a function's 257th block or local would be made. Assumes nothing: these are definitions.
use Rattle.std.specs.Prelude.{ℕ, suc, ◌*◌, List, [], ◌∷◌, ◌++◌, Bool, true, false, eqb, ltb, length}
use Rattle.std.proofs.Math.Option.{Option, none, some}
use Rattle.definitions.specs.Result.{Result, err, ok, ◌>>=◌, ok_or_else}
use Rattle.definitions.specs.Names.{empty, u64, bool, field, void, poseidon, verify_merkle_proof, msg_sender, msg_nonce, block_number, by_name, last_named, first_named}
use Rattle.definitions.specs.Ast.{BinOp, Expr, Exprs, enil, econs, OptExpr, absent, present, Stmt, Stmts, snil, scons, OptStmts, no_else, else_do, StorageField, Struct, Param, Function, Contract}
use Rattle.definitions.specs.Ir.{IrType, Instruction, binary_type, unless_void, result_type, Terminator, InstrNode, BasicBlock, IrFunction, IrProgram, find, update}
use Rattle.definitions.specs.Sema.{function_named}
use Rattle.definitions.specs.Sema

-- The Rust's `UnsupportedNode` is told apart by its text; `TypeMismatch` and `InternalError` are never raised.
pub data LoweringError : Type 0 where
  UnresolvedType : (name : ℕ) → LoweringError
  UndefinedVariable : (name : ℕ) → LoweringError
  UndefinedFunction : (name : ℕ) → LoweringError
  FieldOfNonStruct : LoweringError
  NoSuchField : (struct field : ℕ) → LoweringError
  StructLiteral MappingRead MappingWrite : LoweringError
  VoidAsValue : LoweringError
  PoseidonArguments MerkleProof : LoweringError
  TooManyBlocksOrLocals : (function : ℕ) → LoweringError

abbrev pub Lowering : Type 0 → Type 0
Lowering A = Result LoweringError A

-- `parse_ir_type`: a parameter's type and a function's own return type
abbrev pub parse_ir_type : ℕ → IrType
parse_ir_type n =
    by_name n ((u64, IrType.U64) ∷ (bool, IrType.BoolT) ∷ (field, IrType.FieldT) ∷ (void, IrType.Void) ∷ (empty, IrType.Void) ∷ []) (IrType.Struct n)

abbrev pub own_return_type : Option ℕ → IrType
own_return_type none = IrType.Void
own_return_type (some n) = parse_ir_type n

-- `storage_slots` and `struct_field_order`
abbrev pub storage_named : Contract → ℕ → Option (ℕ × StorageField)
storage_named K n = last_named (λ (f : StorageField). f.name) 0 K.storage n

abbrev pub struct_named : Contract → ℕ → Option (ℕ × Struct)
struct_named K n = last_named (λ (s : Struct). s.name) 0 K.structs n

abbrev pub field_position : List Param → ℕ → Option ℕ
field_position fs n = first_named (λ (f : Param). f.name) 0 fs n

-- FnCtx. A scope has its entries newest first, and the scopes stand innermost first.
abbrev pub Scope : Type 0
Scope = List (ℕ × ℕ × IrType)

pub record FnCtx : Type 0 where
  pub fid : ℕ
  pub next_value : ℕ
  pub next_block : ℕ
  pub blocks : List BasicBlock
  pub current_block : ℕ
  pub scopes : List Scope
  pub locals : List IrType

abbrev pub empty_block : ℕ → BasicBlock
empty_block k = record { id = k; instrs = []; terminator = none }

-- `FnCtx::new`
abbrev pub new_ctx : ℕ → FnCtx
new_ctx f = record { fid = f; next_value = 0; next_block = 1; blocks = empty_block 0 ∷ []; current_block = 0; scopes = [] ∷ []; locals = [] }

-- `fresh_value`, the new id being the old `next_value`
unfoldable pub fresh_value : FnCtx → FnCtx
fresh_value c = record { fid = c.fid; next_value = suc c.next_value; next_block = c.next_block; blocks = c.blocks; current_block = c.current_block; scopes = c.scopes; locals = c.locals }

-- `fresh_block`, up to 256
unfoldable pub with_block : FnCtx → FnCtx
with_block c = record { fid = c.fid; next_value = c.next_value; next_block = suc c.next_block; blocks = c.blocks ++ (empty_block c.next_block ∷ []); current_block = c.current_block; scopes = c.scopes; locals = c.locals }

unfoldable pub fresh_block : FnCtx → Lowering (FnCtx × ℕ)
fresh_block c = elim (ltb c.next_block 256) [ false ↦ err (LoweringError.TooManyBlocksOrLocals c.fid) | true ↦ ok (with_block c, c.next_block) ]

-- `fresh_local`, up to 256
unfoldable pub with_local : IrType → FnCtx → FnCtx
with_local t c = record { fid = c.fid; next_value = c.next_value; next_block = c.next_block; blocks = c.blocks; current_block = c.current_block; scopes = c.scopes; locals = c.locals ++ (t ∷ []) }

unfoldable pub fresh_local : IrType → FnCtx → Lowering (FnCtx × ℕ)
fresh_local t c = elim (ltb (length c.locals) 256) [ false ↦ err (LoweringError.TooManyBlocksOrLocals c.fid) | true ↦ ok (with_local t c, length c.locals) ]

-- `push_instr`: the result id, if there is a result, is the old `next_value`
abbrev pub add_instr : InstrNode → BasicBlock → BasicBlock
add_instr n b = record { id = b.id; instrs = b.instrs ++ (n ∷ []); terminator = b.terminator }

abbrev pub result_id : Option IrType → ℕ → Option ℕ
result_id none v = none
result_id (some t) v = some v

abbrev pub after_result : Option IrType → ℕ → ℕ
after_result none v = v
after_result (some t) v = suc v

unfoldable pub push_instr : Instruction → FnCtx → FnCtx
push_instr i c = record { fid = c.fid; next_value = after_result (result_type i) c.next_value; next_block = c.next_block; blocks = update c.current_block (add_instr (record { result = result_id (result_type i) c.next_value; instr = i })) c.blocks; current_block = c.current_block; scopes = c.scopes; locals = c.locals }

-- `set_terminator`
abbrev pub put_terminator : Terminator → BasicBlock → BasicBlock
put_terminator t b = record { id = b.id; instrs = b.instrs; terminator = some t }

unfoldable pub set_terminator : Terminator → FnCtx → FnCtx
set_terminator t c = record { fid = c.fid; next_value = c.next_value; next_block = c.next_block; blocks = update c.current_block (put_terminator t) c.blocks; current_block = c.current_block; scopes = c.scopes; locals = c.locals }

-- `switch_to`
unfoldable pub switch_to : ℕ → FnCtx → FnCtx
switch_to k c = record { fid = c.fid; next_value = c.next_value; next_block = c.next_block; blocks = c.blocks; current_block = k; scopes = c.scopes; locals = c.locals }

-- `current_block_terminated`
abbrev pub is_terminated : Option BasicBlock → Bool
is_terminated none = false
is_terminated (some b) = elim b.terminator [ none ↦ false | some t ↦ true ]

unfoldable pub current_block_terminated : FnCtx → Bool
current_block_terminated c = is_terminated (find c.current_block c.blocks)

-- `if !ctx.current_block_terminated() { ctx.set_terminator(t) }`
unfoldable pub terminate_if_open : Terminator → FnCtx → FnCtx
terminate_if_open t c = elim (current_block_terminated c) [ true ↦ c | false ↦ set_terminator t c ]

-- `push_scope`, `pop_scope`, `define_local`, `lookup_local`
unfoldable pub set_scopes : List Scope → FnCtx → FnCtx
set_scopes s c = record { fid = c.fid; next_value = c.next_value; next_block = c.next_block; blocks = c.blocks; current_block = c.current_block; scopes = s; locals = c.locals }

abbrev pub popped : List Scope → List Scope
popped [] = []
popped (s ∷ ss) = ss

abbrev pub defined : ℕ → ℕ → IrType → List Scope → List Scope
defined n l t [] = []
defined n l t (s ∷ ss) = ((n, l, t) ∷ s) ∷ ss

abbrev pub push_scope : Scope → FnCtx → FnCtx
push_scope s c = set_scopes (s ∷ c.scopes) c

abbrev pub pop_scope : FnCtx → FnCtx
pop_scope c = set_scopes (popped c.scopes) c

abbrev pub define_local : ℕ → ℕ → IrType → FnCtx → FnCtx
define_local n l t c = set_scopes (defined n l t c.scopes) c

abbrev pub in_scope : ℕ → Scope → Option (ℕ × IrType)
in_scope n [] = none
in_scope n (e ∷ es) = elim (eqb e.0 n) [ true ↦ some (e.1, e.2) | false ↦ in_scope n es ]

abbrev pub lookup_local : ℕ → List Scope → Option (ℕ × IrType)
lookup_local n [] = none
lookup_local n (s ∷ ss) = elim (in_scope n s) [ some e ↦ some e | none ↦ lookup_local n ss ]

-- EXPRESSIONS. A value is its id and its type; an expression gives none if it is a call that returns nothing.
abbrev pub Value : Type 0
Value = ℕ × IrType

abbrev pub Lowered : Type 0
Lowered = FnCtx × Option Value

-- an instruction whose result is the expression's value, of type t
unfoldable pub push_value : Instruction → IrType → FnCtx → Lowered
push_value i t c = (push_instr i c, some (c.next_value, t))

-- what `lower_expr_value` asks of an expression
unfoldable pub need_value : Lowered → Lowering (FnCtx × Value)
need_value p = elim p.1 [ none ↦ err LoweringError.VoidAsValue | some v ↦ ok (p.0, v) ]

abbrev pub struct_name_of : IrType → Option ℕ
struct_name_of IrType.U64 = none
struct_name_of IrType.BoolT = none
struct_name_of IrType.FieldT = none
struct_name_of (IrType.Struct n) = some n
struct_name_of IrType.Void = none

-- the callees that `lower_call` knows by name, in the order in which it asks
pub data Callee : Type 0 where
  context_fn : (kind : ℕ) → Callee
  poseidon_fn merkle_proof_fn user_fn : Callee

abbrev pub callee : ℕ → Callee
callee n = by_name n ((msg_sender, context_fn 0) ∷ (msg_nonce, context_fn 1) ∷ (block_number, context_fn 2) ∷ (poseidon, poseidon_fn) ∷ (verify_merkle_proof, merkle_proof_fn) ∷ []) user_fn

abbrev pub two_of : List ℕ → Option (ℕ × ℕ)
two_of [] = none
two_of (a ∷ []) = none
two_of (a ∷ b ∷ []) = some (a, b)
two_of (a ∷ b ∷ c ∷ l) = none

abbrev pub count : Exprs → ℕ
count enil = 0
count (econs e es) = suc (count es)

abbrev pub result_value : Option IrType → ℕ → Option Value
result_value none v = none
result_value (some t) v = some (v, t)

-- `lower_call`, given how many arguments there are and how they are lowered
unfoldable pub lower_call : Contract → Callee → ℕ → ℕ → (FnCtx → Lowering (FnCtx × List ℕ)) → FnCtx → Lowering Lowered
lower_call K (context_fn k) n many lower_arguments c = ok (push_value (Instruction.ContextRead k) IrType.U64 c)
lower_call K poseidon_fn n many lower_arguments c =
    elim (eqb many 2) [
      | false ↦ err LoweringError.PoseidonArguments
      | true ↦ do
        (c, args) ← lower_arguments c
        (lhs, rhs) ← ok_or_else (two_of args) LoweringError.PoseidonArguments
        ok (push_value (Instruction.Poseidon lhs rhs) IrType.U64 c)
    ]
lower_call K merkle_proof_fn n many lower_arguments c = err LoweringError.MerkleProof
lower_call K user_fn n many lower_arguments c = do
  (fid, f) ← ok_or_else (function_named K n) (LoweringError.UndefinedFunction n)
  (c, args) ← lower_arguments c
  ok (push_instr (Instruction.Call fid args (Sema.return_type f.return_type)) c, result_value (unless_void (Sema.return_type f.return_type)) c.next_value)

unfoldable mutual
  -- `lower_expr`
  pub lower_expr : Contract → Expr → FnCtx → Lowering Lowered
  lower_expr K (Expr.Int p v) c = ok (push_value (Instruction.Const IrType.U64 v) IrType.U64 c)
  lower_expr K (Expr.Ident p n) c = do
    (local, ty) ← ok_or_else (lookup_local n c.scopes) (LoweringError.UndefinedVariable n)
    ok (push_value (Instruction.ReadLocal local ty) ty c)
  lower_expr K (Expr.Binary p op l r) c = do
    (c, (lhs, ty)) ← lower_expr K l c >>= need_value
    (c, (rhs, _)) ← lower_expr K r c >>= need_value
    ok (push_value (Instruction.Binary op ty lhs rhs) (binary_type op ty) c)
  lower_expr K (Expr.StorageRead p n) c = do
    (slot, _) ← ok_or_else (storage_named K n) (LoweringError.UndefinedVariable n)
    ok (push_value (Instruction.StateRead IrType.U64 slot) IrType.U64 c)
  lower_expr K (Expr.Call p n args) c = lower_call K (callee n) n (count args) (λ d. lower_args K args d) c
  lower_expr K (Expr.FieldAccess p f e) c = do
    (c, (base, ty)) ← lower_expr K e c >>= need_value
    s ← ok_or_else (struct_name_of ty) LoweringError.FieldOfNonStruct
    (_, decl) ← ok_or_else (struct_named K s) (LoweringError.UnresolvedType s)
    i ← ok_or_else (field_position decl.fields f) (LoweringError.NoSuchField s f)
    ok (push_value (Instruction.Load IrType.U64 base (i * 8)) IrType.U64 c)
  lower_expr K (Expr.StructLiteral p n fs) c = err LoweringError.StructLiteral
  lower_expr K (Expr.MappingRead p n e) c = err LoweringError.MappingRead

  -- the arguments of a call or an event, from left to right
  pub lower_args : Contract → Exprs → FnCtx → Lowering (FnCtx × List ℕ)
  lower_args K enil c = ok (c, [])
  lower_args K (econs e es) c = do
    (c, (v, _)) ← lower_expr K e c >>= need_value
    (c, vs) ← lower_args K es c
    ok (c, v ∷ vs)

-- `lower_expr_value`
unfoldable pub lower_expr_value : Contract → Expr → FnCtx → Lowering (FnCtx × Value)
lower_expr_value K e c = lower_expr K e c >>= need_value

-- STATEMENTS
-- three blocks in a row, as an `if` and both loops make them
unfoldable pub three_blocks : FnCtx → Lowering (FnCtx × ℕ × ℕ × ℕ)
three_blocks c = do
  (c, first) ← fresh_block c
  (c, second) ← fresh_block c
  (c, third) ← fresh_block c
  ok (c, first, second, third)

-- a new local to which a value is written at once
unfoldable pub init_local : IrType → ℕ → FnCtx → Lowering (FnCtx × ℕ)
init_local t v c = do
  (c, local) ← fresh_local t c
  ok (push_instr (Instruction.WriteLocal local v) c, local)

-- an arm or a body: block k, in a scope of its own that begins with s; `finish` ends it once the scope is closed
unfoldable pub lower_body : ℕ → Scope → (FnCtx → Lowering FnCtx) → (FnCtx → FnCtx) → FnCtx → Lowering FnCtx
lower_body k s body finish c = do
  c ← body (push_scope s (switch_to k c))
  ok (finish (pop_scope c))

-- the test of a `for` in its header, and the branch
unfoldable pub for_header : ℕ → ℕ → ℕ → ℕ → FnCtx → FnCtx
for_header loop_local end_local body exit c =
    let c₁ = push_instr (Instruction.ReadLocal loop_local IrType.U64) c in
    let c₂ = push_instr (Instruction.ReadLocal end_local IrType.U64) c₁ in
    let c₃ = push_instr (Instruction.Binary BinOp.Lt IrType.U64 c.next_value c₁.next_value) c₂ in
    set_terminator (Terminator.Branch c₂.next_value body exit) c₃

-- `i += 1` and the jump back, if the body's end is open
unfoldable pub for_step : ℕ → ℕ → FnCtx → FnCtx
for_step loop_local header c = elim (current_block_terminated c) [
  | true ↦ c
  | false ↦
      let c₁ = push_instr (Instruction.ReadLocal loop_local IrType.U64) c in
      let c₂ = push_instr (Instruction.Const IrType.U64 1) c₁ in
      let c₃ = push_instr (Instruction.Binary BinOp.Add IrType.U64 c.next_value c₁.next_value) c₂ in
      set_terminator (Terminator.Jump header) (push_instr (Instruction.WriteLocal loop_local c₂.next_value) c₃)
]

-- a statement in a terminated block is skipped
unfoldable pub unless_terminated : (FnCtx → Lowering FnCtx) → FnCtx → Lowering FnCtx
unless_terminated body c = elim (current_block_terminated c) [ true ↦ ok c | false ↦ body c ]

unfoldable pub lower_return : Contract → OptExpr → FnCtx → Lowering FnCtx
lower_return K absent c = ok (set_terminator (Terminator.Return none) c)
lower_return K (present e) c = do
  (c, (v, _)) ← lower_expr_value K e c
  ok (set_terminator (Terminator.Return (some v)) c)

unfoldable mutual
  -- `lower_stmt`, in a block that is not terminated
  pub lower_stmt : Contract → Stmt → FnCtx → Lowering FnCtx
  lower_stmt K (Stmt.Let p n e) c = do
    (c, (v, ty)) ← lower_expr_value K e c
    (c, local) ← init_local ty v c
    ok (define_local n local ty c)
  lower_stmt K (Stmt.Assign p n e) c = do
    (c, (v, _)) ← lower_expr_value K e c
    (local, _) ← ok_or_else (lookup_local n c.scopes) (LoweringError.UndefinedVariable n)
    ok (push_instr (Instruction.WriteLocal local v) c)
  lower_stmt K (Stmt.Constrain p e) c = do
    (c, (v, _)) ← lower_expr_value K e c
    ok (push_instr (Instruction.Assert v) c)
  lower_stmt K (Stmt.StorageWrite p n e) c = do
    (slot, _) ← ok_or_else (storage_named K n) (LoweringError.UndefinedVariable n)
    (c, (v, _)) ← lower_expr_value K e c
    ok (push_instr (Instruction.StateWrite slot v) c)
  lower_stmt K (Stmt.If p cond pt then_body else_body) c = do
    (c, (v, _)) ← lower_expr_value K cond c
    (c, then_block, else_block, merge_block) ← three_blocks c
    c ← lower_body then_block [] (λ d. lower_stmts K then_body d) (terminate_if_open (Terminator.Jump merge_block)) (set_terminator (Terminator.Branch v then_block else_block) c)
    c ← lower_body else_block [] (λ d. lower_else K else_body d) (terminate_if_open (Terminator.Jump merge_block)) c
    ok (switch_to merge_block c)
  lower_stmt K (Stmt.While p cond pb body) c = do
    (c, header, body_block, exit) ← three_blocks c
    (c, (v, _)) ← lower_expr_value K cond (switch_to header (set_terminator (Terminator.Jump header) c))
    c ← lower_body body_block [] (λ d. lower_stmts K body d) (terminate_if_open (Terminator.Jump header)) (set_terminator (Terminator.Branch v body_block exit) c)
    ok (switch_to exit c)
  lower_stmt K (Stmt.For p var start end pb body) c = do
    (c, (start_val, _)) ← lower_expr_value K start c
    (c, (end_val, _)) ← lower_expr_value K end c
    (c, loop_local) ← init_local IrType.U64 start_val c
    (c, end_local) ← init_local IrType.U64 end_val c
    (c, header, body_block, exit) ← three_blocks c
    c ← lower_body body_block ((var, loop_local, IrType.U64) ∷ []) (λ d. lower_stmts K body d) (for_step loop_local header) (for_header loop_local end_local body_block exit (switch_to header (set_terminator (Terminator.Jump header) c)))
    ok (switch_to exit c)
  lower_stmt K (Stmt.Return p e) c = lower_return K e c
  lower_stmt K (Stmt.Emit p n args) c = do
    (c, vs) ← lower_args K args c
    ok (push_instr (Instruction.Emit n vs) c)
  lower_stmt K (Stmt.ExprStmt p e) c = do
    (c, _) ← lower_expr K e c
    ok c
  lower_stmt K (Stmt.MappingWrite p n k e) c = err LoweringError.MappingWrite

  pub lower_stmts : Contract → Stmts → FnCtx → Lowering FnCtx
  lower_stmts K snil c = ok c
  lower_stmts K (scons s ss) c = do
    c ← unless_terminated (λ d. lower_stmt K s d) c
    lower_stmts K ss c

  pub lower_else : Contract → OptStmts → FnCtx → Lowering FnCtx
  lower_else K no_else c = ok c
  lower_else K (else_do p ss) c = lower_stmts K ss c

-- FUNCTIONS AND CONTRACTS
-- per parameter one value, one local and one write, in order
unfoldable pub lower_params : List Param → FnCtx → Lowering (FnCtx × List Value)
lower_params [] c = ok (c, [])
lower_params (p ∷ ps) c = do
  (d, local) ← init_local (parse_ir_type p.ty) c.next_value (fresh_value c)
  (d, params) ← lower_params ps (define_local p.name local (parse_ir_type p.ty) d)
  ok (d, (c.next_value, parse_ir_type p.ty) ∷ params)

abbrev pub ir_function : ℕ → Function → List Value → FnCtx → IrFunction
ir_function i f ps c = record { id = i; name = f.name; params = ps; ret_ty = own_return_type f.return_type; blocks = c.blocks; locals = c.locals }

-- `lower_function`. The blocks are made, and kept, in the order of their ids.
unfoldable pub lower_function : Contract → ℕ → Function → Lowering IrFunction
lower_function K i f = do
  (c, params) ← lower_params f.params (new_ctx i)
  c ← lower_stmts K f.body c
  ok (ir_function i f params (terminate_if_open (Terminator.Return none) c))

unfoldable pub lower_functions : Contract → ℕ → List Function → Lowering (List IrFunction)
lower_functions K i [] = ok []
lower_functions K i (f ∷ fs) = do
  g ← lower_function K i f
  gs ← lower_functions K (suc i) fs
  ok (g ∷ gs)

-- `function_names.insert`: a row for each distinct name in order of first appearance, with the last id
abbrev pub set_name : ℕ → ℕ → List (ℕ × ℕ) → List (ℕ × ℕ)
set_name n i [] = (n, i) ∷ []
set_name n i (r ∷ rs) = elim (eqb r.0 n) [ true ↦ (n, i) ∷ rs | false ↦ r ∷ set_name n i rs ]

abbrev pub function_names : ℕ → List Function → List (ℕ × ℕ) → List (ℕ × ℕ)
function_names i [] rs = rs
function_names i (f ∷ fs) rs = function_names (suc i) fs (set_name f.name i rs)

-- `lower_contract`
unfoldable pub lower_contract : Contract → Lowering IrProgram
lower_contract K = do
  fs ← lower_functions K 0 K.functions
  ok (record { functions = fs; function_names = function_names 0 K.functions [] })

-- Expressions into the log, with the names that are held. Untrusted: see Log.
use Rattle.std.specs.Prelude.{ℕ, ◌*◌, List, [], ◌∷◌, true, false, eqb}
use Rattle.std.proofs.Math.Option.{Option, none, some}
use Rattle.definitions.specs.Result.{err, ok, ◌>>=◌, ok_or_else}
use Rattle.definitions.specs.Ast.{BinOp, Expr, Exprs, enil, econs, Contract}
use Rattle.definitions.specs.Ir.{IrType, Instruction, binary_type, unless_void}
use Rattle.definitions.specs.Lower.{LoweringError, Lowering, Value, Callee, context_fn, poseidon_fn, merkle_proof_fn, user_fn, callee, two_of, count, result_value, in_scope, struct_name_of, storage_named, struct_named, field_position}
use Rattle.definitions.specs.Sema.{function_named}
use Rattle.definitions.specs.Sema
use Rattle.lower_walk.specs.Log.{Log, log_instr}
use Rattle.lower_walk.specs.Held.{Held, names}

-- the log after an expression, and its value, if it gives one
abbrev pub Walked : Type 0
Walked = Log × Option Value

unfoldable pub push_value : Instruction → IrType → Log → Walked
push_value i t c = (log_instr i c, some (c.value, t))

unfoldable pub need_value : Walked → Lowering (Log × Value)
need_value p = elim p.1 [ none ↦ err LoweringError.VoidAsValue | some v ↦ ok (p.0, v) ]

-- a name that is held
unfoldable pub walk_ident : Held → ℕ → Log → Lowering Walked
walk_ident es n c = do
  (local, ty) ← ok_or_else (in_scope n (names es)) (LoweringError.UndefinedVariable n)
  ok (push_value (Instruction.ReadLocal local ty) ty c)

unfoldable pub walk_storage_read : Contract → ℕ → Log → Lowering Walked
walk_storage_read K n c = do
  (slot, _) ← ok_or_else (storage_named K n) (LoweringError.UndefinedVariable n)
  ok (push_value (Instruction.StateRead IrType.U64 slot) IrType.U64 c)

-- the offset of the field f in a value of type ty
unfoldable pub field_offset : Contract → IrType → ℕ → Lowering ℕ
field_offset K ty f = do
  s ← ok_or_else (struct_name_of ty) LoweringError.FieldOfNonStruct
  (_, decl) ← ok_or_else (struct_named K s) (LoweringError.UnresolvedType s)
  i ← ok_or_else (field_position decl.fields f) (LoweringError.NoSuchField s f)
  ok (i * 8)

-- the field f of the value `base` of type ty
unfoldable pub walk_field : Contract → ℕ → ℕ → IrType → Log → Lowering Walked
walk_field K f base ty c = do
  offset ← field_offset K ty f
  ok (push_value (Instruction.Load IrType.U64 base offset) IrType.U64 c)

-- an operator on two values, the left of type t
abbrev pub push_binary : BinOp → IrType → (l r : ℕ) → Log → Walked
push_binary op t l r c = push_value (Instruction.Binary op t l r) (binary_type op t) c

-- a call of a function, its arguments' values being known
unfoldable pub walk_user_call : ℕ → IrType → List ℕ → Log → Walked
walk_user_call fid ty args c = (log_instr (Instruction.Call fid args ty) c, result_value (unless_void ty) c.value)

-- what a name stands for in a call: a read of the context, the hash of two values, a function of the contract
pub data Called : Type 0 where
  context : (kind : ℕ) → Called
  poseidon_call : Called
  user_call : (function : ℕ) → IrType → Called

unfoldable pub resolve_user : Contract → ℕ → Lowering Called
resolve_user K n = do
  (fid, f) ← ok_or_else (function_named K n) (LoweringError.UndefinedFunction n)
  ok (user_call fid (Sema.return_type f.return_type))

abbrev pub resolve_fn : Contract → Callee → ℕ → ℕ → Lowering Called
resolve_fn K (context_fn k) n many = ok (context k)
resolve_fn K poseidon_fn n many = elim (eqb many 2) [ false ↦ err LoweringError.PoseidonArguments | true ↦ ok poseidon_call ]
resolve_fn K merkle_proof_fn n many = err LoweringError.MerkleProof
resolve_fn K user_fn n many = resolve_user K n

-- what the name n stands for in a call with so many arguments
unfoldable pub resolve : Contract → ℕ → ℕ → Lowering Called
resolve K n many = resolve_fn K (callee n) n many

-- the call, its arguments' values being known
abbrev pub finish_call : Called → List ℕ → Log → Lowering Walked
finish_call (context k) args c = ok (push_value (Instruction.ContextRead k) IrType.U64 c)
finish_call poseidon_call args c = do
  (lhs, rhs) ← ok_or_else (two_of args) LoweringError.PoseidonArguments
  ok (push_value (Instruction.Poseidon lhs rhs) IrType.U64 c)
finish_call (user_call f t) args c = ok (walk_user_call f t args c)

-- the arguments of what is called, which a read of the context ignores
abbrev pub arguments_of : Called → (Log → Lowering (Log × List ℕ)) → Log → Lowering (Log × List ℕ)
arguments_of (context k) walk_arguments c = ok (c, [])
arguments_of called walk_arguments c = walk_arguments c

-- what is left of a call, once it is known what is called: its arguments, and the call itself
abbrev pub with_arguments : Called → (Log → Lowering (Log × List ℕ)) → Log → Lowering Walked
with_arguments called walk_arguments c = do
  (c, args) ← arguments_of called walk_arguments c
  finish_call called args c

unfoldable pub walk_call : Contract → ℕ → ℕ → (Log → Lowering (Log × List ℕ)) → Log → Lowering Walked
walk_call K n many walk_arguments c = do
  called ← resolve K n many
  with_arguments called walk_arguments c

unfoldable mutual
  pub walk_expr : Contract → Held → Expr → Log → Lowering Walked
  walk_expr K es (Expr.Int p v) c = ok (push_value (Instruction.Const IrType.U64 v) IrType.U64 c)
  walk_expr K es (Expr.Ident p n) c = walk_ident es n c
  walk_expr K es (Expr.Binary p op l r) c = do
    (c, (lhs, ty)) ← walk_expr K es l c >>= need_value
    (c, (rhs, _)) ← walk_expr K es r c >>= need_value
    ok (push_binary op ty lhs rhs c)
  walk_expr K es (Expr.StorageRead p n) c = walk_storage_read K n c
  walk_expr K es (Expr.Call p n args) c = walk_call K n (count args) (λ d. walk_args K es args d) c
  walk_expr K es (Expr.FieldAccess p f e) c = do
    (c, (base, ty)) ← walk_expr K es e c >>= need_value
    walk_field K f base ty c
  walk_expr K es (Expr.StructLiteral p n fs) c = err LoweringError.StructLiteral
  walk_expr K es (Expr.MappingRead p n e) c = err LoweringError.MappingRead

  pub walk_args : Contract → Held → Exprs → Log → Lowering (Log × List ℕ)
  walk_args K es enil c = ok (c, [])
  walk_args K es (econs e more) c = do
    (c, (v, _)) ← walk_expr K es e c >>= need_value
    (c, vs) ← walk_args K es more c
    ok (c, v ∷ vs)

unfoldable pub walk_expr_value : Contract → Held → Expr → Log → Lowering (Log × Value)
walk_expr_value K es e c = walk_expr K es e c >>= need_value

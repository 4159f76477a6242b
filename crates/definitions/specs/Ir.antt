-- The intermediate program (`ir/mod.rs`). Ids are numbers. Assumes nothing: these are definitions.
use Rattle.std.specs.Prelude.{ℕ, List, [], ◌∷◌, Bool, true, false, ◌&&◌, eqb}
use Rattle.std.proofs.Math.Option.{Option, none, some}
use Rattle.definitions.specs.Ast.{BinOp}

pub data IrType : Type 0 where
  U64 BoolT FieldT : IrType
  Struct : (name : ℕ) → IrType
  Void : IrType

-- a type as document 01 numbers it: tag, and name
abbrev pub tag_of : IrType → ℕ
tag_of IrType.U64 = 0
tag_of IrType.BoolT = 1
tag_of IrType.FieldT = 2
tag_of (IrType.Struct n) = 3
tag_of IrType.Void = 4

abbrev pub name_of : IrType → ℕ
name_of IrType.U64 = 0
name_of IrType.BoolT = 0
name_of IrType.FieldT = 0
name_of (IrType.Struct n) = n
name_of IrType.Void = 0

-- `==`
abbrev pub eq_type : IrType → IrType → Bool
eq_type a b = eqb (tag_of a) (tag_of b) && eqb (name_of a) (name_of b)

pub data Effect : Type 0 where
  Pure MemoryRead MemoryWrite StateRead StateWrite ContextRead Event Call : Effect

-- `Binary` stands for ten of the Rust's variants: Add, Sub, Mul, Div, IrEq, IrNe, Lt, Gt, Le and Ge.
-- An offset (i64) and a slot (i32) are the numbers of their 8 and 4 bytes; a context is 0 Sender, 1 Nonce or 2 BlockHeight.
pub data Instruction : Type 0 where
  Const : (ty : IrType) (value : ℕ) → Instruction
  Binary : (op : BinOp) (ty : IrType) (lhs rhs : ℕ) → Instruction
  Load : (ty : IrType) (base offset : ℕ) → Instruction
  Store : (base offset value : ℕ) → Instruction
  StateRead : (ty : IrType) (slot : ℕ) → Instruction
  StateWrite : (slot value : ℕ) → Instruction
  ReadLocal : (local : ℕ) (ty : IrType) → Instruction
  WriteLocal : (local value : ℕ) → Instruction
  Call : (function : ℕ) (args : List ℕ) (ret_ty : IrType) → Instruction
  Assert : (condition : ℕ) → Instruction
  Poseidon : (lhs rhs : ℕ) → Instruction
  Emit : (event : ℕ) (args : List ℕ) → Instruction
  ContextRead : (kind : ℕ) → Instruction

-- what an operator gives on operands of a type
abbrev pub binary_type : BinOp → IrType → IrType
binary_type BinOp.Add t = t
binary_type BinOp.Sub t = t
binary_type BinOp.Mul t = t
binary_type BinOp.Div t = t
binary_type BinOp.Eq t = IrType.BoolT
binary_type BinOp.Neq t = IrType.BoolT
binary_type BinOp.Lt t = IrType.BoolT
binary_type BinOp.Gt t = IrType.BoolT
binary_type BinOp.Lte t = IrType.BoolT
binary_type BinOp.Gte t = IrType.BoolT

-- a call gives its type, unless that is Void
abbrev pub unless_void : IrType → Option IrType
unless_void IrType.U64 = some IrType.U64
unless_void IrType.BoolT = some IrType.BoolT
unless_void IrType.FieldT = some IrType.FieldT
unless_void (IrType.Struct n) = some (IrType.Struct n)
unless_void IrType.Void = none

-- `result_type`
abbrev pub result_type : Instruction → Option IrType
result_type (Instruction.Const t v) = some t
result_type (Instruction.Binary op t l r) = some (binary_type op t)
result_type (Instruction.Load t b o) = some t
result_type (Instruction.Store b o v) = none
result_type (Instruction.StateRead t s) = some t
result_type (Instruction.StateWrite s v) = none
result_type (Instruction.ReadLocal l t) = some t
result_type (Instruction.WriteLocal l v) = none
result_type (Instruction.Call f a t) = unless_void t
result_type (Instruction.Assert c) = none
result_type (Instruction.Poseidon l r) = some IrType.U64
result_type (Instruction.Emit e a) = none
result_type (Instruction.ContextRead k) = some IrType.U64

-- `effect`
abbrev pub effect : Instruction → Effect
effect (Instruction.Const t v) = Effect.Pure
effect (Instruction.Binary op t l r) = Effect.Pure
effect (Instruction.Load t b o) = Effect.MemoryRead
effect (Instruction.Store b o v) = Effect.MemoryWrite
effect (Instruction.StateRead t s) = Effect.StateRead
effect (Instruction.StateWrite s v) = Effect.StateWrite
effect (Instruction.ReadLocal l t) = Effect.Pure
effect (Instruction.WriteLocal l v) = Effect.MemoryWrite
effect (Instruction.Call f a t) = Effect.Call
effect (Instruction.Assert c) = Effect.Pure
effect (Instruction.Poseidon l r) = Effect.Pure
effect (Instruction.Emit e a) = Effect.Event
effect (Instruction.ContextRead k) = Effect.ContextRead

-- the values that an instruction reads, in order
abbrev pub operands : Instruction → List ℕ
operands (Instruction.Const t v) = []
operands (Instruction.Binary op t l r) = l ∷ r ∷ []
operands (Instruction.Load t b o) = b ∷ []
operands (Instruction.Store b o v) = b ∷ v ∷ []
operands (Instruction.StateRead t s) = []
operands (Instruction.StateWrite s v) = v ∷ []
operands (Instruction.ReadLocal l t) = []
operands (Instruction.WriteLocal l v) = v ∷ []
operands (Instruction.Call f a t) = a
operands (Instruction.Assert c) = c ∷ []
operands (Instruction.Poseidon l r) = l ∷ r ∷ []
operands (Instruction.Emit e a) = a
operands (Instruction.ContextRead k) = []

-- the local that it reads, and the one that it writes
abbrev pub local_read : Instruction → List ℕ
local_read (Instruction.Const t v) = []
local_read (Instruction.Binary op t l r) = []
local_read (Instruction.Load t b o) = []
local_read (Instruction.Store b o v) = []
local_read (Instruction.StateRead t s) = []
local_read (Instruction.StateWrite s v) = []
local_read (Instruction.ReadLocal l t) = l ∷ []
local_read (Instruction.WriteLocal l v) = []
local_read (Instruction.Call f a t) = []
local_read (Instruction.Assert c) = []
local_read (Instruction.Poseidon l r) = []
local_read (Instruction.Emit e a) = []
local_read (Instruction.ContextRead k) = []

abbrev pub local_written : Instruction → List ℕ
local_written (Instruction.Const t v) = []
local_written (Instruction.Binary op t l r) = []
local_written (Instruction.Load t b o) = []
local_written (Instruction.Store b o v) = []
local_written (Instruction.StateRead t s) = []
local_written (Instruction.StateWrite s v) = []
local_written (Instruction.ReadLocal l t) = []
local_written (Instruction.WriteLocal l v) = l ∷ []
local_written (Instruction.Call f a t) = []
local_written (Instruction.Assert c) = []
local_written (Instruction.Poseidon l r) = []
local_written (Instruction.Emit e a) = []
local_written (Instruction.ContextRead k) = []

pub data Terminator : Type 0 where
  Jump : (target : ℕ) → Terminator
  Branch : (condition then_block else_block : ℕ) → Terminator
  Return : (value : Option ℕ) → Terminator
  Unreachable : Terminator

pub record InstrNode : Type 0 where
  pub result : Option ℕ
  pub instr : Instruction

pub record BasicBlock : Type 0 where
  pub id : ℕ
  pub instrs : List InstrNode
  pub terminator : Option Terminator

pub record IrFunction : Type 0 where
  pub id : ℕ
  pub name : ℕ
  pub params : List (ℕ × IrType)
  pub ret_ty : IrType
  pub blocks : List BasicBlock
  pub locals : List IrType

pub record IrProgram : Type 0 where
  pub functions : List IrFunction
  pub function_names : List (ℕ × ℕ)

-- the first block with an id, and the blocks with that one changed
abbrev pub find : ℕ → List BasicBlock → Option BasicBlock
find k [] = none
find k (b ∷ bs) = elim (eqb b.id k) [ true ↦ some b | false ↦ find k bs ]

abbrev pub update : ℕ → (BasicBlock → BasicBlock) → List BasicBlock → List BasicBlock
update k f [] = []
update k f (b ∷ bs) = elim (eqb b.id k) [ true ↦ f b ∷ bs | false ↦ b ∷ update k f bs ]

-- `contains` of a set of ids
abbrev pub contains : ℕ → List ℕ → Bool
contains n [] = false
contains n (x ∷ xs) = elim (eqb x n) [ true ↦ true | false ↦ contains n xs ]

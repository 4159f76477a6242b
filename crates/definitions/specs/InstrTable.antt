-- One row for each of the 22 instruction kinds: its number on a sheet, what its result is, its effect and what it reads
-- (document 01, "Names and types" and "Program sheet"). `proofs/InstrTable.antt` shows that the rows are `Ir`'s definitions.
-- Assumes nothing: these are definitions.
use Rattle.std.specs.Prelude.{ℕ, List, [], ◌∷◌, true, false, eqb}
use Rattle.std.proofs.Math.Option.{Option, none, some}
use Rattle.definitions.specs.Ast.{BinOp}
use Rattle.definitions.specs.Ir.{IrType, Effect, Instruction, unless_void}

-- the type of the result: the instruction's own, its own unless that is Void, Bool, U64, or no result
pub data ResultRule : Type 0 where
  own own_unless_void bool u64 nothing : ResultRule

-- how many values it reads: none, one, two, or a list of them
pub data Reads : Type 0 where
  no_value one_value two_values value_list : Reads

pub record KindRow : Type 0 where
  pub kind : ℕ
  pub result : ResultRule
  pub effect : Effect
  pub reads : Reads

abbrev row : ℕ → ResultRule → Effect → Reads → KindRow
row k r e o = record { kind = k; result = r; effect = e; reads = o }

abbrev pub kind_rows : List KindRow
kind_rows =
    row 60 ResultRule.own Effect.Pure Reads.no_value ∷  -- Const
    row 61 ResultRule.own Effect.Pure Reads.two_values ∷  -- Add
    row 62 ResultRule.own Effect.Pure Reads.two_values ∷  -- Sub
    row 63 ResultRule.own Effect.Pure Reads.two_values ∷  -- Mul
    row 64 ResultRule.own Effect.Pure Reads.two_values ∷  -- Div
    row 65 ResultRule.bool Effect.Pure Reads.two_values ∷  -- IrEq
    row 66 ResultRule.bool Effect.Pure Reads.two_values ∷  -- IrNe
    row 67 ResultRule.bool Effect.Pure Reads.two_values ∷  -- Lt
    row 68 ResultRule.bool Effect.Pure Reads.two_values ∷  -- Le
    row 69 ResultRule.bool Effect.Pure Reads.two_values ∷  -- Gt
    row 70 ResultRule.bool Effect.Pure Reads.two_values ∷  -- Ge
    row 71 ResultRule.own Effect.MemoryRead Reads.one_value ∷  -- Load
    row 72 ResultRule.nothing Effect.MemoryWrite Reads.two_values ∷  -- Store
    row 73 ResultRule.own Effect.StateRead Reads.no_value ∷  -- StateRead
    row 74 ResultRule.nothing Effect.StateWrite Reads.one_value ∷  -- StateWrite
    row 75 ResultRule.own Effect.Pure Reads.no_value ∷  -- ReadLocal
    row 76 ResultRule.nothing Effect.MemoryWrite Reads.one_value ∷  -- WriteLocal
    row 77 ResultRule.own_unless_void Effect.Call Reads.value_list ∷  -- Call
    row 78 ResultRule.nothing Effect.Pure Reads.one_value ∷  -- Assert
    row 79 ResultRule.u64 Effect.Pure Reads.two_values ∷  -- Poseidon
    row 80 ResultRule.nothing Effect.Event Reads.value_list ∷  -- Emit
    row 81 ResultRule.u64 Effect.ContextRead Reads.no_value ∷ []  -- ContextRead

-- the row of a kind
abbrev kind_row_in : ℕ → List KindRow → Option KindRow
kind_row_in k [] = none
kind_row_in k (r ∷ rs) = elim (eqb k r.kind) [ true ↦ some r | false ↦ kind_row_in k rs ]

unfoldable pub kind_row : ℕ → Option KindRow
kind_row k = kind_row_in k kind_rows

-- the kind of an instruction, in `Instruction`'s order: Lt, Le, Gt, Ge, where `BinOp` has Lt, Gt, Lte, Gte
abbrev pub binary_kind : BinOp → ℕ
binary_kind BinOp.Add = 61
binary_kind BinOp.Sub = 62
binary_kind BinOp.Mul = 63
binary_kind BinOp.Div = 64
binary_kind BinOp.Eq = 65
binary_kind BinOp.Neq = 66
binary_kind BinOp.Lt = 67
binary_kind BinOp.Lte = 68
binary_kind BinOp.Gt = 69
binary_kind BinOp.Gte = 70

abbrev pub kind_of : Instruction → ℕ
kind_of (Instruction.Const t v) = 60
kind_of (Instruction.Binary op t l r) = binary_kind op
kind_of (Instruction.Load t b o) = 71
kind_of (Instruction.Store b o v) = 72
kind_of (Instruction.StateRead t s) = 73
kind_of (Instruction.StateWrite s v) = 74
kind_of (Instruction.ReadLocal l t) = 75
kind_of (Instruction.WriteLocal l v) = 76
kind_of (Instruction.Call f a t) = 77
kind_of (Instruction.Assert c) = 78
kind_of (Instruction.Poseidon l r) = 79
kind_of (Instruction.Emit e a) = 80
kind_of (Instruction.ContextRead k) = 81

-- the result's type by the rule, for an instruction of type t
abbrev pub type_by : ResultRule → IrType → Option IrType
type_by ResultRule.own t = some t
type_by ResultRule.own_unless_void t = unless_void t
type_by ResultRule.bool t = some IrType.BoolT
type_by ResultRule.u64 t = some IrType.U64
type_by ResultRule.nothing t = none

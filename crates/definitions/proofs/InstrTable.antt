-- The 22 rows are what `Ir` says of the instructions, and each kind has its row. Assumes nothing.
use Prim.Native.Nat.{ℕ, ◌+◌}
use mathlib.Core.Path.{◌≡◌, refl}
use mathlib.Core.List.{List, [], ◌∷◌, map}
use mathlib.Core.Option.{some}
use mathlib.Core.Bool.{Bool, true}
use lib.Dec.{eqb}
use lib.ListN.{length}
use Rattle.definitions.specs.Ast.{BinOp}
use Rattle.definitions.specs.Ir.{IrType, Instruction, result_type, effect, operands}
use Rattle.definitions.specs.InstrTable.{Reads, KindRow, kind_rows, kind_row, kind_of, type_by}

-- the type that an instruction has, where it has one
abbrev pub own_type : Instruction → IrType
own_type (Instruction.Const t v) = t
own_type (Instruction.Binary op t l r) = t
own_type (Instruction.Load t b o) = t
own_type (Instruction.Store b o v) = IrType.Void
own_type (Instruction.StateRead t s) = t
own_type (Instruction.StateWrite s v) = IrType.Void
own_type (Instruction.ReadLocal l t) = t
own_type (Instruction.WriteLocal l v) = IrType.Void
own_type (Instruction.Call f a t) = t
own_type (Instruction.Assert c) = IrType.Void
own_type (Instruction.Poseidon l r) = IrType.Void
own_type (Instruction.Emit e a) = IrType.Void
own_type (Instruction.ContextRead k) = IrType.Void

-- as many values are read as the row says
abbrev reads_as : Reads → ℕ → Bool
reads_as Reads.no_value n = eqb n 0
reads_as Reads.one_value n = eqb n 1
reads_as Reads.two_values n = eqb n 2
reads_as Reads.value_list n = true

-- the row of an instruction's kind, with its result's type, its effect and the count of its operands
pub data HasRow (i : Instruction) : Type 0 where
  row : {r : KindRow} → kind_row (kind_of i) ≡ some r → type_by r.result (own_type i) ≡ result_type i → r.effect ≡ effect i → reads_as r.reads (length (operands i)) ≡ true → HasRow i

pub row_of : (i : Instruction) → HasRow i
unfolding kind_row
row_of (Instruction.Const t v) = row refl refl refl refl
row_of (Instruction.Binary BinOp.Add t l r) = row refl refl refl refl
row_of (Instruction.Binary BinOp.Sub t l r) = row refl refl refl refl
row_of (Instruction.Binary BinOp.Mul t l r) = row refl refl refl refl
row_of (Instruction.Binary BinOp.Div t l r) = row refl refl refl refl
row_of (Instruction.Binary BinOp.Eq t l r) = row refl refl refl refl
row_of (Instruction.Binary BinOp.Neq t l r) = row refl refl refl refl
row_of (Instruction.Binary BinOp.Lt t l r) = row refl refl refl refl
row_of (Instruction.Binary BinOp.Lte t l r) = row refl refl refl refl
row_of (Instruction.Binary BinOp.Gt t l r) = row refl refl refl refl
row_of (Instruction.Binary BinOp.Gte t l r) = row refl refl refl refl
row_of (Instruction.Load t b o) = row refl refl refl refl
row_of (Instruction.Store b o v) = row refl refl refl refl
row_of (Instruction.StateRead t s) = row refl refl refl refl
row_of (Instruction.StateWrite s v) = row refl refl refl refl
row_of (Instruction.ReadLocal l t) = row refl refl refl refl
row_of (Instruction.WriteLocal l v) = row refl refl refl refl
row_of (Instruction.Call f a t) = row refl refl refl refl
row_of (Instruction.Assert c) = row refl refl refl refl
row_of (Instruction.Poseidon l r) = row refl refl refl refl
row_of (Instruction.Emit e a) = row refl refl refl refl
row_of (Instruction.ContextRead k) = row refl refl refl refl

-- the kinds are 60 to 81, in order
abbrev from : ℕ → List KindRow → List ℕ
from k [] = []
from k (r ∷ rs) = k ∷ from (k + 1) rs

pub kinds_in_order : map (λ (r : KindRow). r.kind) kind_rows ≡ from 60 kind_rows
kinds_in_order = refl

pub kinds_count : length kind_rows ≡ 22
kinds_count = refl

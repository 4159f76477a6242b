-- The kinds of instructions, and the numbers that are read as contexts. Assumes nothing.
use mathlib.Core.Path.{◌≡◌, refl, sym}
use mathlib.Core.Logic.{◌⊎◌, inl, inr}
use mathlib.Core.Bool.{true}
use mathlib.Core.List.{List}
use Prim.Native.Nat.{ℕ, ◌+◌, ◌≤◌}
use native.Mathlib.Omega.{arith}
use lib.Dec.{eqb}
use borrow.Author.Tests.{eqb-true, eqb-false}
use Rattle.std.specs.Prelude.{Result, Ok, Err, IsOk}
use Rattle.definitions.specs.Ast.{BinOp}
use Rattle.definitions.specs.Fields.{le}
use Rattle.definitions.specs.InstrTable.{binary_kind}
use Rattle.definitions.specs.Ir as ir
use Rattle.definitions.proofs.Results.{by_test}
use Rattle.format.specs.Contexts.{IsContextKind}
use Rattle.format.specs.declared.kinds.UnknownKind.{UnknownKind}
use Rattle.format.specs.declared.program.ContextKind.{ContextKind}
use Rattle.format.specs.declared.program.ContextKind.TheVariants as context
use Rattle.program_nodes.specs.Offsets.{own_at, left_at, right_at}
use Rattle.program_nodes.specs.Positions.{type_here, instr_here, has_type, type_offset}
use Rattle.format.specs.Kinds.{instr_number}
use Rattle.format.specs.declared.kinds.Instruction.{Instruction}
use Rattle.format.specs.declared.kinds.Instruction.TheVariants as instr

-- a binary instruction, by its operator
pub binary_here : (s : List ℕ) (q stop : ℕ) (op : BinOp) → instr_here (binary_kind op) s q stop ≡ ir.Instruction.Binary op (type_here s (q + own_at)) (le 2 s (q + left_at)) (le 2 s (q + right_at))
unfolding instr_here
binary_here s q stop BinOp.Add = refl
binary_here s q stop BinOp.Sub = refl
binary_here s q stop BinOp.Mul = refl
binary_here s q stop BinOp.Div = refl
binary_here s q stop BinOp.Eq = refl
binary_here s q stop BinOp.Neq = refl
binary_here s q stop BinOp.Lt = refl
binary_here s q stop BinOp.Gt = refl
binary_here s q stop BinOp.Lte = refl
binary_here s q stop BinOp.Gte = refl

-- CONTEXTS: the numbers up to 2 are read, and as what they stand for
pub context_ok : (n : ℕ) (r : Result ContextKind UnknownKind) → IsContextKind n r → n ≤ 2 → IsOk r
context_ok n (Ok k) h l = refl
context_ok n (Err e) h l = absurd (by_test (eqb n 0) (λ z. h context.MsgSender (sym (eqb-true _ _ z))) (λ z.
    by_test (eqb n 1) (λ y. h context.MsgNonce (sym (eqb-true _ _ y))) (λ y.
    h context.BlockNumber (let a = eqb-false _ _ z in let b = eqb-false _ _ y in omega arith))))

-- THE TYPE among an instruction's fields: behind an id for ReadLocal and Call, and first for the others that have one
pub type_second : (k : Instruction) → (k ≡ instr.ReadLocal) ⊎ (k ≡ instr.Call) → type_offset (instr_number k) ≡ own_at + 2
type_second k (inl e) = rw e
type_second k (inr e) = rw e

pub type_first : (k : Instruction) → has_type (instr_number k) ≡ true → (k ≡ instr.ReadLocal → ⊥) → (k ≡ instr.Call → ⊥) → type_offset (instr_number k) ≡ own_at
type_first instr.Const t n m = refl
type_first instr.Add t n m = refl
type_first instr.Sub t n m = refl
type_first instr.Mul t n m = refl
type_first instr.Div t n m = refl
type_first instr.IrEq t n m = refl
type_first instr.IrNe t n m = refl
type_first instr.Lt t n m = refl
type_first instr.Le t n m = refl
type_first instr.Gt t n m = refl
type_first instr.Ge t n m = refl
type_first instr.Load t n m = refl
type_first instr.Store t n m = refl
type_first instr.StateRead t n m = refl
type_first instr.StateWrite t n m = cc
type_first instr.ReadLocal t n m = absurd (n refl)
type_first instr.WriteLocal t n m = cc
type_first instr.Call t n m = absurd (m refl)
type_first instr.Assert t n m = cc
type_first instr.Poseidon t n m = cc
type_first instr.Emit t n m = cc
type_first instr.ContextRead t n m = cc

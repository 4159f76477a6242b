-- Programs whose numbers fit their fields. Assumes nothing: these are definitions for proofs, that no promise cites.
use Prim.Native.Nat.{ℕ, ◌^◌, ◌<◌, ◌≤◌}
use mathlib.Core.Option.{Option, none, some}
use lib.ListN.{length}
use Rattle.definitions.specs.All.{All}
use Rattle.definitions.specs.Ir.{IrType, name_of, Instruction, Terminator, InstrNode, BasicBlock, IrFunction, IrProgram}
use Rattle.definitions.specs.ProgramSheet.{write_program}

abbrev pub Id : ℕ → Type 0
Id n = n < 65535

abbrev pub FitsType : IrType → Type 0
FitsType t = name_of t < 65535

abbrev pub FitsOpt : Option ℕ → Type 0
FitsOpt none = Unit {0}
FitsOpt (some n) = n < 65535

abbrev pub FitsInstr : Instruction → Type 0
FitsInstr (Instruction.Const t v) = FitsType t × (v < 256 ^ 8)
FitsInstr (Instruction.Binary op t l r) = FitsType t × Id l × Id r
FitsInstr (Instruction.Load t b o) = FitsType t × Id b × (o < 256 ^ 8)
FitsInstr (Instruction.Store b o v) = Id b × (o < 256 ^ 8) × Id v
FitsInstr (Instruction.StateRead t s) = FitsType t × (s < 256 ^ 4)
FitsInstr (Instruction.StateWrite s v) = (s < 256 ^ 4) × Id v
FitsInstr (Instruction.ReadLocal l t) = Id l × FitsType t
FitsInstr (Instruction.WriteLocal l v) = Id l × Id v
FitsInstr (Instruction.Call f a t) = Id f × All Id a × FitsType t
FitsInstr (Instruction.Assert c) = Id c
FitsInstr (Instruction.Poseidon l r) = Id l × Id r
FitsInstr (Instruction.Emit e a) = Id e × All Id a
FitsInstr (Instruction.ContextRead k) = k ≤ 2

abbrev pub FitsTerm : Option Terminator → Type 0
FitsTerm none = Unit {0}
FitsTerm (some (Terminator.Jump b)) = Id b
FitsTerm (some (Terminator.Branch c a b)) = Id c × Id a × Id b
FitsTerm (some (Terminator.Return v)) = FitsOpt v
FitsTerm (some Terminator.Unreachable) = Unit {0}

pub record FitsNode (n : InstrNode) : Type 0 where
  pub result : FitsOpt n.result
  pub instr : FitsInstr n.instr

pub record FitsBlock (b : BasicBlock) : Type 0 where
  pub id : Id b.id
  pub instrs : All FitsNode b.instrs
  pub terminator : FitsTerm b.terminator

pub record FitsFunction (f : IrFunction) : Type 0 where
  pub id : Id f.id
  pub name : Id f.name
  pub params : All (λ (p : ℕ × IrType). Id p.0 × FitsType p.1) f.params
  pub param_count : length f.params < 65536
  pub ret_ty : FitsType f.ret_ty
  pub blocks : All FitsBlock f.blocks
  pub locals : All FitsType f.locals
  pub local_count : length f.locals < 65536

pub record Fits (p : IrProgram) : Type 0 where
  pub functions : All FitsFunction p.functions
  pub function_names : All (λ (n : ℕ × ℕ). Id n.0 × Id n.1) p.function_names
  pub long : length (write_program p) < 256 ^ 4

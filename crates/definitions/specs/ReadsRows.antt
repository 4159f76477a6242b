-- What each kind of instruction and of terminator reads and writes, whatever its fields are, and the tests that Run makes of lists, each beside
-- what it is (document 01, "Run (demand 3)"). `proofs/ReadsRows.antt` shows that they are equal. Assumes nothing: these are definitions.
use Rattle.std.specs.Prelude.{ℕ, ◌≡◌, List, [], ◌∷◌, Bool, true, false}
use Rattle.std.proofs.Math.Option.{none, some}
use Rattle.definitions.specs.All.{All}
use Rattle.definitions.specs.Ast.{BinOp}
use Rattle.definitions.specs.Ir.{IrType, Instruction, operands, local_read, local_written, Terminator}
use Rattle.definitions.specs.Run.{all_held, all_written, is_first, term_reads}

-- an instruction's operands, the local that it reads, the local that it writes
pub record Use : Type 0 where
  pub reads : List ℕ
  pub local_reads : List ℕ
  pub local_writes : List ℕ

abbrev pub use_of : Instruction → Use
use_of i = record { reads = operands i; local_reads = local_read i; local_writes = local_written i }

-- values alone
abbrev pub values : List ℕ → Use
values vs = record { reads = vs; local_reads = []; local_writes = [] }

pub record InstructionsUse : Type 0 where
  pub const : (t : IrType) (v : ℕ) → use_of (Instruction.Const t v) ≡ values []
  pub binary : (op : BinOp) (t : IrType) (l r : ℕ) → use_of (Instruction.Binary op t l r) ≡ values (l ∷ r ∷ [])
  pub load : (t : IrType) (b o : ℕ) → use_of (Instruction.Load t b o) ≡ values (b ∷ [])
  pub store : (b o v : ℕ) → use_of (Instruction.Store b o v) ≡ values (b ∷ v ∷ [])
  pub state_read : (t : IrType) (s : ℕ) → use_of (Instruction.StateRead t s) ≡ values []
  pub state_write : (s v : ℕ) → use_of (Instruction.StateWrite s v) ≡ values (v ∷ [])
  pub read_local : (l : ℕ) (t : IrType) → use_of (Instruction.ReadLocal l t) ≡ record { reads = []; local_reads = l ∷ []; local_writes = [] }
  pub write_local : (l v : ℕ) → use_of (Instruction.WriteLocal l v) ≡ record { reads = v ∷ []; local_reads = []; local_writes = l ∷ [] }
  pub call : (f : ℕ) (a : List ℕ) (t : IrType) → use_of (Instruction.Call f a t) ≡ values a
  pub assert : (c : ℕ) → use_of (Instruction.Assert c) ≡ values (c ∷ [])
  pub poseidon : (l r : ℕ) → use_of (Instruction.Poseidon l r) ≡ values (l ∷ r ∷ [])
  pub emit : (e : ℕ) (a : List ℕ) → use_of (Instruction.Emit e a) ≡ values a
  pub context_read : (k : ℕ) → use_of (Instruction.ContextRead k) ≡ values []

pub record TerminatorsRead : Type 0 where
  pub jump : (k : ℕ) → term_reads (Terminator.Jump k) ≡ []
  pub branch : (v t e : ℕ) → term_reads (Terminator.Branch v t e) ≡ v ∷ []
  pub return_none : term_reads (Terminator.Return none) ≡ []
  pub return_some : (v : ℕ) → term_reads (Terminator.Return (some v)) ≡ v ∷ []
  pub unreachable : term_reads Terminator.Unreachable ≡ []

-- a pair of equals
abbrev pub Equal : {A : Type 0} → A × A → Type 0
Equal r = r.0 ≡ r.1

-- all of a list, whatever stands first; no block is the first of none
abbrev pub test_rows : List (Bool × Bool)
test_rows =
    (all_held (1 ∷ 2 ∷ []) ((1, 10) ∷ []), false) ∷  -- second_not_held
    (all_held (2 ∷ 1 ∷ []) ((1, 10) ∷ []), false) ∷  -- first_not_held
    (all_held (1 ∷ 2 ∷ []) ((2, 20) ∷ (1, 10) ∷ []), true) ∷  -- both_held
    (all_written (1 ∷ 2 ∷ []) (1 ∷ []), false) ∷  -- second_not_written
    (all_written (2 ∷ 1 ∷ []) (1 ∷ []), false) ∷  -- first_not_written
    (all_written (1 ∷ 2 ∷ []) (2 ∷ 1 ∷ []), true) ∷  -- both_written
    (is_first 0 [], false) ∷ []  -- first_of_none

abbrev pub TestRowsHold : Type 0
TestRowsHold = All Equal test_rows

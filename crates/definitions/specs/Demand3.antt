-- DEMAND 3, as one statement: what lowering writes is the contract's program, which never lacks anything in a run, and is verified
-- but for types.
-- Assumes nothing: these are definitions. `proofs/Demand3.antt` proves it.
use Rattle.std.specs.Prelude.{ℕ, ◌≡◌, ◌⊎◌, length}
use mathlib.Core.List.{List, Memᴰ}
use Rattle.definitions.specs.Result.{err, ok}
use Rattle.definitions.specs.Fields.{Bytes}
use Rattle.definitions.specs.Ir.{IrFunction, IrProgram}
use Rattle.definitions.specs.Lower.{lower_contract}
use Rattle.definitions.specs.Run.{Pick, lacks, run}
use Rattle.definitions.specs.ContractSheet.{read_contract}
use Rattle.definitions.specs.ProgramSheet.{read_program}
use Rattle.definitions.specs.Answers.{Answer, lower_sheet, verify_sheet}

-- No run of any function lacks, whatever the words of its parameters and whatever the picks.
abbrev pub NeverLacks : IrProgram → Type 0
NeverLacks p =
    (f : IrFunction) → Memᴰ f p.functions
    → (words : List ℕ) → length words ≡ length f.params
    → (picks : List Pick) → run f words picks ≡ lacks → ⊥

-- Acceptance, or 45, 46 or 47.
abbrev pub AcceptedOr45to47 : Answer → Type 0
AcceptedOr45to47 (ok out) = Unit {0}
AcceptedOr45to47 (err r) = (r.number ≡ 45) ⊎ (r.number ≡ 46) ⊎ (r.number ≡ 47)

-- What holds of the bytes b that lowering accepted the contract sheet s with. The program that is read from b is the one that
-- lowering makes of the contract on s; the runs and the verifier are about this program.
pub record Demand3Of (s b : List ℕ) : Type 0 where
  pub lowered : lower_contract (read_contract s) ≡ ok (read_program b)
  pub runs : NeverLacks (read_program b)
  pub verifies : AcceptedOr45to47 (verify_sheet b)

-- Demand 3 of a lowering: for every list of bytes and every room.
abbrev pub Demand3For : (List ℕ → ℕ → Answer) → Type 0
Demand3For lowering = (s : List ℕ) → Bytes s → (room : ℕ) (b : List ℕ) → lowering s room ≡ ok b → Demand3Of s b

abbrev pub Demand3 : Type 0
Demand3 = Demand3For lower_sheet

-- What demand 3 rules out, a row for each part of it: a weaker statement would let one of these by. `proofs/RulesOut.antt` shows that
-- each is ruled out. Assumes nothing: these are definitions.
use Rattle.std.specs.Prelude.{ℕ, ◌≡◌, List, [], ◌∷◌}
use Rattle.std.proofs.Math.Option.{none, some}
use Rattle.definitions.specs.All.{All}
use Rattle.definitions.specs.Result.{err, ok}
use Rattle.definitions.specs.Ir.{IrType, Terminator, BasicBlock, IrFunction, IrProgram}
use Rattle.definitions.specs.ProgramSheet.{read_program}
use Rattle.definitions.specs.Answers.{Answer, refusal, verify_sheet}
use Rattle.definitions.specs.Demand3.{Demand3Of}
use Rattle.definitions.specs.Rows.{P1, P2}

abbrev bytes_of : Answer → List ℕ
bytes_of (ok b) = b
bytes_of (err r) = []

-- a program whose second function lacks, after two steps: it returns its parameter outside its first block
abbrev only : ℕ → Terminator → BasicBlock
only k t = record { id = k; instrs = []; terminator = some t }

abbrev pub lacking_second : IrFunction
lacking_second = record { id = 1; name = 12; params = (0, IrType.U64) ∷ []; ret_ty = IrType.U64; blocks = only 0 (Terminator.Jump 1) ∷ only 1 (Terminator.Return (some 0)) ∷ []; locals = [] }

abbrev pub lacking_later : IrProgram
lacking_later = record {
  functions = record { id = 0; name = 11; params = []; ret_ty = IrType.Void; blocks = only 0 (Terminator.Return none) ∷ []; locals = [] } ∷ lacking_second ∷ [];
  function_names = [];
}

-- the verifier's numbers, but for 45, 46 and 47
abbrev pub other_numbers : List ℕ
other_numbers = 1 ∷ 40 ∷ 41 ∷ 42 ∷ 43 ∷ 44 ∷ 48 ∷ 49 ∷ 50 ∷ []

abbrev pub NotVerified : ℕ → Type 0
NotVerified n = (s b details : List ℕ) → verify_sheet b ≡ err (refusal n details) → Demand3Of s b → ⊥

pub record RulesOut : Type 0 where
  -- the program of another contract: P2's for P1's sheet. The verifier accepts it, and no run of it lacks.
  pub lowered : Demand3Of P1.sheet (bytes_of P2.lowered) → ⊥
  -- bytes that are read as the program above
  pub runs : (s b : List ℕ) → read_program b ≡ lacking_later → Demand3Of s b → ⊥
  -- bytes that the verifier refuses with another number
  pub verifies : All NotVerified other_numbers

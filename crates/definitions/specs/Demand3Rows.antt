-- The statement of demand 3, tried: programs of which `NeverLacks` is false, each for one cause alone, and programs of which it is true; the
-- answers that `AcceptedOr45to47` takes; what `Demand3` gives, with nothing folded. No code computes these statements: a weaker one is
-- refused here and in RulesOut.antt. `proofs/Demand3Rows.antt` shows that they hold. Assumes nothing: these are definitions.
use Rattle.std.specs.Prelude.{ℕ, zero, suc, ◌<◌, ◌≤◌, ◌≡◌, length}
use mathlib.Core.List.{List, [], ◌∷◌, ◌++◌, Memᴰ}
use Rattle.std.proofs.Math.Option.{some}
use Rattle.definitions.specs.All.{All}
use Rattle.definitions.specs.Result.{err, ok}
use Rattle.definitions.specs.Fields.{Bytes}
use Rattle.definitions.specs.Ir.{IrType, Terminator, InstrNode, BasicBlock, IrFunction, IrProgram}
use Rattle.definitions.specs.Lower.{lower_contract}
use Rattle.definitions.specs.ContractSheet.{read_contract, write_contract, refusal3, NothingOverlooked}
use Rattle.definitions.specs.Run.{then_way, else_way, Pick, lacks, run}
use Rattle.definitions.specs.ProgramSheet.{read_program, write_program, refusal40, NothingOverlookedInPrograms}
use Rattle.definitions.specs.Records.{Verdict, Good, ReadsAll}
use Rattle.definitions.specs.Answers.{Refusal, refusal, Answer, lower_sheet, verify_sheet}
use Rattle.definitions.specs.Demand3.{NeverLacks, AcceptedOr45to47, Demand3For, Demand3}
use Rattle.definitions.specs.RunRows.{block, gives, seven, function_made, ends, five, six}

-- ---- PROGRAMS THAT LACK: the function that does, with what stands before and behind it, the words and the picks
pub record Lacking : Type 0 where
  pub before : List IrFunction
  pub function : IrFunction
  pub behind : List IrFunction
  pub words : List ℕ
  pub picks : List Pick

abbrev pub program_with : List IrFunction → IrProgram
program_with fs = record { functions = fs; function_names = [] }

-- the run lacks, and so the program does not never lack
pub record Refuted (l : Lacking) : Type 0 where
  pub fits : length l.words ≡ length l.function.params
  pub run_lacks : run l.function l.words l.picks ≡ lacks
  pub refuted : NeverLacks (program_with (l.before ++ (l.function ∷ l.behind))) → ⊥

abbrev pub plain : List BasicBlock → List (ℕ × IrType) → IrFunction
plain bs ps = function_made bs ps 3 11 IrType.U64 (IrType.U64 ∷ [])

-- a function that ends at once, one that reads a value which is never made
abbrev pub fine : IrFunction
fine = plain (ends 0 ∷ []) []

abbrev reads_nothing_made : IrFunction
reads_nothing_made = plain (block 0 [] (Terminator.Return (some 7)) ∷ []) []

abbrev the_only : Lacking
the_only = record { before = []; function = reads_nothing_made; behind = []; words = []; picks = (0, then_way) ∷ [] }

abbrev the_first : Lacking
the_first = record { before = []; function = reads_nothing_made; behind = fine ∷ fine ∷ []; words = []; picks = (0, then_way) ∷ [] }

abbrev the_second : Lacking
the_second = record { before = fine ∷ []; function = reads_nothing_made; behind = fine ∷ []; words = []; picks = (0, then_way) ∷ [] }

abbrev the_last : Lacking
the_last = record { before = fine ∷ fine ∷ []; function = reads_nothing_made; behind = []; words = []; picks = (0, then_way) ∷ [] }

-- with two parameters, so that there are words to give
abbrev with_parameters : Lacking
with_parameters = record { before = []; function = plain (block 0 [] (Terminator.Return (some 7)) ∷ []) (five ∷ six ∷ []); behind = []; words = 50 ∷ 60 ∷ []; picks = (0, then_way) ∷ [] }

-- before any pick: there is no block
abbrev at_once : Lacking
at_once = record { before = []; function = plain [] []; behind = []; words = []; picks = [] }

-- on the then way alone, on the else way alone, on the one and then the other
abbrev branching : ℕ → ℕ → List BasicBlock → IrFunction
branching t e bs = plain (block 0 (gives 7 seven ∷ []) (Terminator.Branch 7 t e) ∷ bs) []

abbrev on_then : Lacking
on_then = record { before = []; function = branching 9 1 (ends 1 ∷ []); behind = []; words = []; picks = (0, else_way) ∷ (0, then_way) ∷ [] }

abbrev on_else : Lacking
on_else = record { before = []; function = branching 1 9 (ends 1 ∷ []); behind = []; words = []; picks = (0, then_way) ∷ (0, else_way) ∷ [] }

abbrev on_then_and_else : Lacking
on_then_and_else = record {
  before = [];
  function = branching 1 2 (block 1 (gives 8 seven ∷ []) (Terminator.Branch 8 2 9) ∷ ends 2 ∷ []);
  behind = [];
  words = [];
  picks = (0, then_way) ∷ (0, then_way) ∷ (0, then_way) ∷ (0, else_way) ∷ [];
}

-- after 100 picks and not before
abbrev consts : ℕ → List InstrNode
consts zero = []
consts (suc n) = gives 8 seven ∷ consts n

abbrev then_always : ℕ → List Pick
then_always zero = []
then_always (suc n) = (0, then_way) ∷ then_always n

abbrev after_many : Lacking
after_many = record { before = []; function = plain (block 0 (consts 100) (Terminator.Return (some 7)) ∷ []) []; behind = []; words = []; picks = then_always 101 }

abbrev pub lacking_programs : List Lacking
lacking_programs = the_only ∷ the_first ∷ the_second ∷ the_last ∷ with_parameters ∷ at_once ∷ on_then ∷ on_else ∷ on_then_and_else ∷ after_many ∷ []

abbrev pub LackingRefuted : Type 0
LackingRefuted = All Refuted lacking_programs

-- PROGRAMS THAT NEVER LACK: no function, one that ends at once, one that would lack were its parameter given no word
abbrev pub reads_parameter : IrFunction
reads_parameter = plain (block 0 [] (Terminator.Return (some 5)) ∷ []) (five ∷ [])

abbrev pub never_lacking : List IrProgram
never_lacking = program_with [] ∷ program_with (fine ∷ []) ∷ program_with (reads_parameter ∷ []) ∷ []

abbrev pub NeverLackingHold : Type 0
NeverLackingHold = All NeverLacks never_lacking

-- ---- ANSWERS that are taken, whatever the details (RulesOut.antt has those that are not)
abbrev pub taken_answers : List Answer
taken_answers = ok [] ∷ ok (1 ∷ 2 ∷ []) ∷ err (refusal 45 []) ∷ err (refusal 46 (44 ∷ [])) ∷ err (refusal 47 (11 ∷ 0 ∷ [])) ∷ []

abbrev pub TakenAnswers : Type 0
TakenAnswers = All AcceptedOr45to47 taken_answers

-- ---- WHAT DEMAND 3 GIVES of bytes that a lowering, whichever it is, accepts into any room, with nothing folded: the program that is read is the
-- one that lowering makes, no run of any function of it lacks, and a refusal of the verifier is 45, 46 or 47. Of `lower_sheet` each of these could
-- be shown without the statement; of any lowering nothing but the statement gives it, so that a weaker one does not pass here.
abbrev pub GivesProgram : Type 0
GivesProgram =
    (lowering : List ℕ → ℕ → Answer) → Demand3For lowering
    → (s : List ℕ) → All (λ (x : ℕ). x < 256) s → (room : ℕ) (b : List ℕ) → lowering s room ≡ ok b
    → lower_contract (read_contract s) ≡ ok (read_program b)

abbrev pub GivesRuns : Type 0
GivesRuns =
    (lowering : List ℕ → ℕ → Answer) → Demand3For lowering
    → (s : List ℕ) → All (λ (x : ℕ). x < 256) s → (room : ℕ) (b : List ℕ) → lowering s room ≡ ok b
    → (f : IrFunction) → Memᴰ f (read_program b).functions
    → (words : List ℕ) → length words ≡ length f.params
    → (picks : List Pick) → run f words picks ≡ lacks → ⊥

abbrev pub GivesAnswer : Type 0
GivesAnswer =
    (lowering : List ℕ → ℕ → Answer) → Demand3For lowering
    → (s : List ℕ) → All (λ (x : ℕ). x < 256) s → (room : ℕ) (b : List ℕ) → lowering s room ≡ ok b
    → (r : Refusal) → verify_sheet b ≡ err r → (45 ≤ r.number) × (r.number ≤ 47)

-- demand 3 is that of `lower_sheet`
abbrev pub OfLowerSheet : Type 0
OfLowerSheet = Demand3 → Demand3For lower_sheet

-- WHAT THE OTHER TWO STATEMENTS GIVE, whatever the check, the reading and the writing are; and that they are those of 3 and of 40
abbrev pub GivesSheet : Type 1
GivesSheet =
    (A : Type 0) (check : List ℕ → Verdict) (read : List ℕ → A) (write : A → List ℕ) → ReadsAll check read write
    → (s : List ℕ) → All (λ (x : ℕ). x < 256) s → check s ≡ Good → write (read s) ≡ s

abbrev pub GivesContractSheet : Type 0
GivesContractSheet = NothingOverlooked → (s : List ℕ) → All (λ (x : ℕ). x < 256) s → refusal3 s ≡ Good → write_contract (read_contract s) ≡ s

abbrev pub GivesProgramSheet : Type 0
GivesProgramSheet = NothingOverlookedInPrograms → (s : List ℕ) → All (λ (x : ℕ). x < 256) s → refusal40 s ≡ Good → write_program (read_program s) ≡ s

-- `Bytes` is what it says: each member, the first or another, is below 256
pub record BytesSay : Type 0 where
  pub below : (s : List ℕ) → All (λ (x : ℕ). x < 256) s → Bytes s
  pub first : Bytes (256 ∷ 0 ∷ []) → ⊥
  pub later : Bytes (0 ∷ 255 ∷ 256 ∷ []) → ⊥

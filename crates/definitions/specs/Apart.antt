-- LOWERING AND THE BODY CHECK (document 02, order 1): "Lowering keeps to the signatures and never gives 51." Nothing more is promised between the two: the rows are
-- a contract that passes one and is refused by the other, and the reverse. proofs/Apart.antt shows both. Assumes nothing: these are definitions.
use Rattle.std.specs.Prelude.{ℕ, ◌≡◌, List, [], ◌∷◌}
use Rattle.definitions.specs.All.{All}
use Rattle.definitions.specs.Result.{Result, err, ok, ◌>>◌}
use Rattle.definitions.specs.Answers.{Refusal, refusal, Answer, analyze_sheet, lower_sheet, length_of}

-- whatever the sheet, the room and the details
abbrev pub Never51For : (lowering : List ℕ → ℕ → Answer) → Type 0
Never51For lowering = (s : List ℕ) (room : ℕ) (details : List ℕ) → lowering s room ≡ err (refusal 51 details) → ⊥

abbrev pub Never51 : Type 0
Never51 = Never51For lower_sheet

-- a wrong lowering that it rules out: one that checks the bodies first
abbrev pub checked_first : List ℕ → ℕ → Answer
checked_first s room = analyze_sheet s >> lower_sheet s room

abbrev pub RulesOutChecking : Type 0
RulesOutChecking = Never51For checked_first → ⊥

-- a sheet and the room for its program, the body check's answer, and lowering's: the program sheet's length, or the refusal
pub record BothAnswers : Type 0 where
  pub sheet : List ℕ
  pub room : ℕ
  pub analyzed : Answer
  pub lowered : Result Refusal ℕ

abbrev pub both_of : List ℕ → (room : ℕ) → BothAnswers
both_of s room = record { sheet = s; room = room; analyzed = analyze_sheet s; lowered = length_of (lower_sheet s room) }

abbrev pub AnswersBoth : BothAnswers → Type 0
AnswersBoth r = both_of r.sheet r.room ≡ r

-- if 1 { let x = 1; } x; "A Let inside an If arm stays known afterwards here, unlike in lowering."
abbrev arm_let : BothAnswers
arm_let = record {
  sheet = (
      0x54 ∷ 0x00 ∷ 0x00 ∷ 0x00 ∷ 0x01 ∷ 0x00 ∷ 0x0A ∷ 0x00 ∷  -- contract
      0x4C ∷ 0x00 ∷ 0x00 ∷ 0x00 ∷ 0x04 ∷ 0x00 ∷ 0x0B ∷ 0x00 ∷ 0xFF ∷ 0xFF ∷ 0x00 ∷ 0x00 ∷ 0x00 ∷ 0x00 ∷  -- function
      0x30 ∷ 0x00 ∷ 0x00 ∷ 0x00 ∷ 0x0F ∷ 0x00 ∷  -- If
      0x0E ∷ 0x00 ∷ 0x00 ∷ 0x00 ∷ 0x1E ∷ 0x00 ∷ 0x01 ∷ 0x00 ∷ 0x00 ∷ 0x00 ∷ 0x00 ∷ 0x00 ∷ 0x00 ∷ 0x00 ∷  -- Int
      0x1C ∷ 0x00 ∷ 0x00 ∷ 0x00 ∷ 0x05 ∷ 0x00 ∷  -- block
      0x16 ∷ 0x00 ∷ 0x00 ∷ 0x00 ∷ 0x0A ∷ 0x00 ∷ 0x0C ∷ 0x00 ∷  -- Let
      0x0E ∷ 0x00 ∷ 0x00 ∷ 0x00 ∷ 0x1E ∷ 0x00 ∷ 0x01 ∷ 0x00 ∷ 0x00 ∷ 0x00 ∷ 0x00 ∷ 0x00 ∷ 0x00 ∷ 0x00 ∷  -- Int
      0x0E ∷ 0x00 ∷ 0x00 ∷ 0x00 ∷ 0x14 ∷ 0x00 ∷  -- Expr
      0x08 ∷ 0x00 ∷ 0x00 ∷ 0x00 ∷ 0x1F ∷ 0x00 ∷ 0x0C ∷ 0x00 ∷ []  -- Ident
      );
  room = 0;
  analyzed = ok [];
  lowered = err (refusal 10 (12 ∷ []));
}

-- a u64 returned where a bool is to be: the verifier's answer to what is lowered is 45
abbrev pub returned : BothAnswers
returned = record {
  sheet = (
      0x2A ∷ 0x00 ∷ 0x00 ∷ 0x00 ∷ 0x01 ∷ 0x00 ∷ 0x0A ∷ 0x00 ∷  -- contract
      0x22 ∷ 0x00 ∷ 0x00 ∷ 0x00 ∷ 0x04 ∷ 0x00 ∷ 0x0B ∷ 0x00 ∷ 0x02 ∷ 0x00 ∷ 0x00 ∷ 0x00 ∷ 0x00 ∷ 0x00 ∷  -- function
      0x14 ∷ 0x00 ∷ 0x00 ∷ 0x00 ∷ 0x12 ∷ 0x00 ∷  -- Return
      0x0E ∷ 0x00 ∷ 0x00 ∷ 0x00 ∷ 0x1E ∷ 0x00 ∷ 0x01 ∷ 0x00 ∷ 0x00 ∷ 0x00 ∷ 0x00 ∷ 0x00 ∷ 0x00 ∷ 0x00 ∷ []  -- Int
      );
  room = 70;
  analyzed = err (refusal 51 (22 ∷ 3 ∷ []));
  lowered = ok 70;
}

abbrev pub apart : List BothAnswers
apart = arm_let ∷ returned ∷ []

abbrev pub ApartHold : Type 0
ApartHold = All AnswersBoth apart

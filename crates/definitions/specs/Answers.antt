-- The operations' answers (document 01, "What each number means"), in its order: 1, 3, 4, the walk, 31; and 1, 40, the walk; and of the body check
-- (document 02, order 1) 1, 3, 4, 51.
-- Assumes nothing: these are definitions.
use Rattle.std.specs.Prelude.{ℕ, zero, suc, List, [], ◌∷◌, ◌&&◌, leb, length}
use Rattle.std.proofs.Math.Option.{Option, none, some}
use Rattle.definitions.specs.Result.{Result, err, ok, ◌>>=◌, ◌>>◌, map_err, Done, check}
use Rattle.definitions.specs.Ir.{IrType, tag_of, name_of}
use Rattle.definitions.specs.Lower.{LoweringError, lower_contract}
use Rattle.definitions.specs.Analyze.{SemaError, analyze}
use Rattle.definitions.specs.Verify.{VerifyError, verify_program}
use Rattle.definitions.specs.Records.{Verdict, Good, Bad}
use Rattle.definitions.specs.ContractSheet.{read_contract, refusal3, refusal4}
use Rattle.definitions.specs.ProgramSheet.{write_program, read_program, refusal40}

-- a refusal: its number, and its details in order
pub record Refusal : Type 0 where
  pub number : ℕ
  pub details : List ℕ

abbrev pub refusal : ℕ → List ℕ → Refusal
refusal k ds = record { number = k; details = ds }

-- acceptance has what is written out
abbrev pub Answer : Type 0
Answer = Result Refusal (List ℕ)

-- an answer's numbers: a refusal's own number, then its details; acceptance has none
abbrev pub numbers_of : {A : Type 0} → Result Refusal A → List ℕ
numbers_of (ok a) = []
numbers_of (err r) = r.number ∷ r.details

-- what an output of n places holds: the list from its start, then zeros
abbrev pub padded : (n : ℕ) → List ℕ → List ℕ
padded zero l = []
padded (suc n) [] = 0 ∷ padded n []
padded (suc n) (x ∷ l) = x ∷ padded n l

-- 3, 4 and 40 have the place
abbrev pub refuse_at : ℕ → Verdict → Result Refusal Done
refuse_at k Good = ok tt
refuse_at k (Bad place) = err (refusal k (place ∷ []))

abbrev pub lower_refusal : LoweringError → Refusal
lower_refusal (LoweringError.UndefinedVariable n) = refusal 10 (n ∷ [])
lower_refusal (LoweringError.UndefinedFunction n) = refusal 11 (n ∷ [])
lower_refusal (LoweringError.UnresolvedType s) = refusal 12 (s ∷ [])
lower_refusal LoweringError.FieldOfNonStruct = refusal 13 []
lower_refusal (LoweringError.NoSuchField s f) = refusal 14 (s ∷ f ∷ [])
lower_refusal LoweringError.StructLiteral = refusal 15 []
lower_refusal LoweringError.MappingRead = refusal 16 []
lower_refusal LoweringError.MappingWrite = refusal 17 []
lower_refusal LoweringError.VoidAsValue = refusal 18 []
lower_refusal LoweringError.PoseidonArguments = refusal 19 []
lower_refusal LoweringError.MerkleProof = refusal 20 []
lower_refusal (LoweringError.TooManyBlocksOrLocals i) = refusal 30 (i ∷ [])

-- what lowering asks of a sheet before the walk: 1, 3, 4
abbrev pub check_contract : List ℕ → Result Refusal Done
check_contract s = do
  check (leb (length s) 32768) (refusal 1 [])
  refuse_at 3 (refusal3 s)
  refuse_at 4 (refusal4 s)

-- 51: "with the place .. and the number, 1 to 13, of its error text in the order of `sema.rs`"
abbrev pub sema_refusal : SemaError → Refusal
sema_refusal (SemaError.AssignMismatch p expected got) = refusal 51 (p ∷ 1 ∷ [])
sema_refusal (SemaError.UndefinedVariable p n) = refusal 51 (p ∷ 2 ∷ [])
sema_refusal (SemaError.ReturnMismatch p expected got) = refusal 51 (p ∷ 3 ∷ [])
sema_refusal (SemaError.UndefinedIdentifier p n) = refusal 51 (p ∷ 4 ∷ [])
sema_refusal (SemaError.NoSuchField p s f) = refusal 51 (p ∷ 5 ∷ [])
sema_refusal (SemaError.FieldOfNonStruct p) = refusal 51 (p ∷ 6 ∷ [])
sema_refusal (SemaError.FieldMismatch p f) = refusal 51 (p ∷ 7 ∷ [])
sema_refusal (SemaError.UnknownField p f) = refusal 51 (p ∷ 8 ∷ [])
sema_refusal (SemaError.UndefinedStruct p n) = refusal 51 (p ∷ 9 ∷ [])
sema_refusal (SemaError.ArgumentCount p n expected got) = refusal 51 (p ∷ 10 ∷ [])
sema_refusal (SemaError.ArgumentMismatch p i n) = refusal 51 (p ∷ 11 ∷ [])
sema_refusal (SemaError.UndefinedFunction p n) = refusal 51 (p ∷ 12 ∷ [])
sema_refusal (SemaError.BinaryMismatch p) = refusal 51 (p ∷ 13 ∷ [])

-- the body check of a sheet: "51 if the body check finds an error, after 1, 3 and 4". It writes nothing.
unfoldable pub analyze_sheet : List ℕ → Answer
analyze_sheet s = do
  check_contract s
  map_err sema_refusal (analyze (read_contract s))
  ok []

-- lowering a sheet, with an output of `room` bytes lent
unfoldable pub lower_sheet : List ℕ → (room : ℕ) → Answer
lower_sheet s room = do
  check_contract s
  p ← map_err lower_refusal (lower_contract (read_contract s))
  check (leb (length (write_program p)) 32768 && leb (length (write_program p)) room) (refusal 31 [])
  ok (write_program p)

-- what the operation answers: the sheet's length, or the refusal
abbrev pub length_of : Answer → Result Refusal ℕ
length_of (ok b) = ok (length b)
length_of (err r) = err r

-- the numbers that are handed out for it: 0 and the sheet's length, or the refusal's own number, then its details
abbrev pub length_numbers : Result Refusal ℕ → List ℕ
length_numbers (ok n) = 0 ∷ n ∷ []
length_numbers (err r) = r.number ∷ r.details

abbrev pub lowered_numbers : Answer → List ℕ
lowered_numbers a = length_numbers (length_of a)

-- what it leaves in an output of n bytes: the sheet and then zeros, or zeros
abbrev pub output_of : Answer → (n : ℕ) → List ℕ
output_of (ok b) n = padded n b
output_of (err r) n = padded n []

-- a type that was got, or none
abbrev pub got_tag : Option IrType → ℕ
got_tag none = 65535
got_tag (some t) = tag_of t

abbrev pub got_name : Option IrType → ℕ
got_name none = 0
got_name (some t) = name_of t

-- the function's name f comes first
abbrev pub verify_refusal : ℕ × VerifyError → Refusal
verify_refusal (f, VerifyError.UndefinedValue v) = refusal 41 (f ∷ v ∷ [])
verify_refusal (f, VerifyError.DuplicateValueDef v) = refusal 42 (f ∷ v ∷ [])
verify_refusal (f, VerifyError.UndefinedBlock b) = refusal 43 (f ∷ b ∷ [])
verify_refusal (f, VerifyError.MissingTerminator b) = refusal 44 (f ∷ b ∷ [])
verify_refusal (f, VerifyError.ReturnTypeMismatch e g) = refusal 45 (f ∷ tag_of e ∷ name_of e ∷ got_tag g ∷ got_name g ∷ [])
verify_refusal (f, VerifyError.BranchConditionNotBool v t) = refusal 46 (f ∷ v ∷ tag_of t ∷ name_of t ∷ [])
verify_refusal (f, VerifyError.OperandTypeMismatch l r) = refusal 47 (f ∷ tag_of l ∷ name_of l ∷ tag_of r ∷ name_of r ∷ [])
verify_refusal (f, VerifyError.UndefinedLocal l) = refusal 48 (f ∷ l ∷ [])
verify_refusal (f, VerifyError.UndefinedFunction g) = refusal 49 (f ∷ g ∷ [])
verify_refusal (f, VerifyError.ResultOnNone k) = refusal 50 (f ∷ k ∷ [])

-- verifying a sheet, which writes nothing
unfoldable pub verify_sheet : List ℕ → Answer
verify_sheet s = do
  check (leb (length s) 32768) (refusal 1 [])
  refuse_at 40 (refusal40 s)
  map_err verify_refusal (verify_program (read_program s))
  ok []

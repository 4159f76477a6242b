-- DEMAND 3 holds. Assumes nothing.
use mathlib.Core.Path.{◌≡◌, refl, ap, sym, ◌∙◌, subst}
use mathlib.Core.Logic.{inl, inr}
use mathlib.Core.Bool.{◌&&◌}
use mathlib.Core.List.{[]}
use Prim.Native.Nat.{ℕ, ◌≤◌}
use lib.Dec.{leb}
use lib.ListN.{length}
use borrow.Author.Tests.{leb-true, le-leb}
use Rattle.definitions.specs.Result.{Result, err, ok, ◌>>=◌, ◌>>◌, map_err, Done}
use Rattle.definitions.specs.Ir.{IrProgram}
use Rattle.definitions.specs.Lower.{Lowering, lower_contract}
use Rattle.definitions.specs.Verify.{VerifyError, verify_program}
use Rattle.definitions.specs.Records.{Verdict, Good, Bad, check_records}
use Rattle.definitions.specs.ContractSheet.{read_contract, refusal3, refusal4}
use Rattle.definitions.specs.ProgramSheet.{write_program}
use Rattle.definitions.specs.Answers.{Refusal, refusal, refuse_at, lower_refusal, verify_refusal, check_contract, lower_sheet, verify_sheet}
use Rattle.definitions.specs.Demand3.{NeverLacks, AcceptedOr45to47, Demand3Of, Demand3}
use Rattle.definitions.proofs.Results.{ok_inj, err_ok, taking_then, taking_check, both_true}
use Rattle.definitions.proofs.Sheets.Passed.{fine}
use Rattle.definitions.proofs.Runs.Functions.{run_never_lacks}
use Rattle.definitions.proofs.Runs.Verifies.{Typing, Expected, verifier_expected}
use Rattle.definitions.proofs.Programs.Fits.{Fits}
use Rattle.definitions.proofs.Programs.RoundTrip.{form, round_trip}
use Rattle.definitions.proofs.Programs.Lowered.{lowered_fits}
use Rattle.definitions.proofs.Contracts.Bounds.{Small}
use Rattle.definitions.proofs.Contracts.Small.{sheet_small}

-- THE VERIFIER'S HALF: an error of typing is 45, 46 or 47
typing_number : (f : ℕ) (x : VerifyError) → Typing x → AcceptedOr45to47 (err (verify_refusal (f, x)))
typing_number f (VerifyError.UndefinedValue v) t = absurd t
typing_number f (VerifyError.DuplicateValueDef v) t = absurd t
typing_number f (VerifyError.UndefinedBlock b) t = absurd t
typing_number f (VerifyError.MissingTerminator b) t = absurd t
typing_number f (VerifyError.ReturnTypeMismatch e g) t = inl refl
typing_number f (VerifyError.BranchConditionNotBool v a) t = inr (inl refl)
typing_number f (VerifyError.OperandTypeMismatch l r) t = inr (inr refl)
typing_number f (VerifyError.UndefinedLocal l) t = absurd t
typing_number f (VerifyError.UndefinedFunction g) t = absurd t
typing_number f (VerifyError.ResultOnNone k) t = absurd t

answered : (r : Result (ℕ × VerifyError) Done) → Expected r → AcceptedOr45to47 (map_err verify_refusal r >> ok [])
answered (ok u) e = tt
answered (err x) e = typing_number x.0 x.1 e

verified : (p : IrProgram) → Fits p → length (write_program p) ≤ 32768 → Expected (verify_program p) → AcceptedOr45to47 (verify_sheet (write_program p))
unfolding verify_sheet
verified p f l e = rw (le-leb (length (write_program p)) 32768 l, form p f, round_trip p f) (answered (verify_program p) e)

-- what was accepted, taken apart
accepted_form : (k : ℕ) (f : Verdict) {B G : Type 0} (r : Result Refusal B) {b : B} → (refuse_at k f >> r) ≡ ok b → (f ≡ Good → r ≡ ok b → G) → G
accepted_form k Good r e rest = rest refl e
accepted_form k (Bad p) r e rest = absurd (err_ok e)

good_form : (k : ℕ) (f : Verdict) {u : Done} → refuse_at k f ≡ ok u → f ≡ Good
good_form k Good e = refl
good_form k (Bad p) e = absurd (err_ok e)

accepted_walk : (r : Lowering IrProgram) {B G : Type 0} (k : IrProgram → Result Refusal B) {b : B} → (map_err lower_refusal r >>= k) ≡ ok b → ((p : IrProgram) → r ≡ ok p → k p ≡ ok b → G) → G
accepted_walk (ok p) k e rest = rest p refl e
accepted_walk (err x) k e rest = absurd (err_ok e)

pub demand3 : Demand3
unfolding lower_sheet refusal3 check_records read_contract
demand3 s h room b e =
    taking_then (check_contract s) _ e λ _ e₁ e₃.
    taking_check (leb (length s) 32768) (refusal 1 []) _ e₁ λ _ e₂.
    accepted_form 3 (refusal3 s) _ e₂ λ g q.
    let g' : refusal4 s ≡ Good = good_form 4 (refusal4 s) q in
    accepted_walk (lower_contract (read_contract s)) _ e₃ λ p l e₄.
    taking_check (leb (length (write_program p)) 32768 && leb (length (write_program p)) room) (refusal 31 []) _ e₄ λ t e₅.
    let small : Small (read_contract s) = sheet_small s _ h (fine _ s 0 (length s) _ g) g' in
    let short : length (write_program p) ≤ 32768 = leb-true _ _ (both_true _ _ t) in
    let f : Fits p = lowered_fits (read_contract s) p small l short in
    subst (Demand3Of s) (ok_inj e₅) (record {
      lowered = l ∙ ap ok (sym (round_trip p f));
      runs = subst NeverLacks (sym (round_trip p f)) (run_never_lacks (read_contract s) p l);
      verifies = verified p f short (verifier_expected (read_contract s) p l);
    })

-- From lowering's answer to its line: a sheet that was accepted fits, and stands at the start of the output; a refusal has its numbers.
-- Assumes nothing.
use mathlib.Core.Path.{◌≡◌, refl, sym, ap, subst}
use mathlib.Core.Bool.{◌&&◌}
use mathlib.Core.List.{List, []}
use Prim.Native.Nat.{ℕ, ◌≤◌}
use native.Mathlib.Omega.{arith}
use borrow.Author.Tests.{leb-true}
use lib.Dec.{leb}
use lib.ListN.{length, take}
use Rattle.definitions.specs.Result.{Result, err, ok, map_err}
use Rattle.definitions.specs.Lower.{lower_contract}
use Rattle.definitions.specs.ContractSheet.{read_contract}
use Rattle.definitions.specs.ProgramSheet.{write_program}
use Rattle.definitions.specs.Answers.{Answer, Refusal, refusal, check_contract, lower_refusal, lower_sheet, length_of, length_numbers, output_of}
use Rattle.definitions.specs.Lines.{line_of, lowered_line}
use Rattle.definitions.proofs.Results.{ok_inj, err_ok, taking, taking_then, taking_check, both_true, take_padded}

-- an accepted sheet has 32,768 bytes at most
pub fits : (s : List ℕ) (room : ℕ) (b : List ℕ) → lower_sheet s room ≡ ok b → length b ≤ 32768
unfolding lower_sheet
fits s room b e =
    taking_then (check_contract s) _ e λ _ _ e₁.
    taking (map_err lower_refusal (lower_contract (read_contract s))) _ e₁ λ p _ e₂.
    taking_check (leb (length (write_program p)) 32768 && leb (length (write_program p)) room) (refusal 31 []) _ e₂ λ t e₃.
    subst (λ (l : List ℕ). length l ≤ 32768) (ok_inj e₃) (leb-true _ _ (both_true _ _ t))

-- ACCEPTED
pub accepted_fits : (s : List ℕ) (room n : ℕ) → ok n ≡ length_of (lower_sheet s room) → n ≤ 32768
accepted_fits s room n e = go (lower_sheet s room) refl e
  where
    go : (a : Answer) → lower_sheet s room ≡ a → ok n ≡ length_of a → n ≤ 32768
    go (ok b) q e = let k : n ≡ length b = ok_inj e in let h : length b ≤ 32768 = fits s room b q in omega arith
    go (err x) q e = absurd (err_ok (sym e))

pub accepted_line_is : (a : Answer) (out : List ℕ) (size n : ℕ) → n ≤ size → ok n ≡ length_of a → out ≡ output_of a size → lowered_line (ok (take n out)) ≡ lowered_line a
accepted_line_is (ok b) out size n h e q =
    let k : n ≡ length b = ok_inj e in
    let there : take n out ≡ b = rw (q, k) (take_padded size b (omega arith)) in
    ap (λ (l : List ℕ). lowered_line (ok l)) there
accepted_line_is (err x) out size n h e q = absurd (err_ok (sym e))

-- REFUSED
pub refused_line_is : (a : Answer) (x : Refusal) → err x ≡ length_of a → line_of (length_numbers (err x)) ≡ lowered_line a
refused_line_is (ok b) x e = absurd (err_ok e)
refused_line_is (err y) x e = ap (λ (o : Result Refusal ℕ). line_of (length_numbers o)) e

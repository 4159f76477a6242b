-- The check of a contract sheet: how it ends, and what a sheet that passed has passed. Assumes nothing.
use mathlib.Core.Path.{◌≡◌, refl}
use mathlib.Core.Bool.{Bool, true, false}
use mathlib.Core.List.{List, [], ◌∷◌}
use Prim.Native.Nat.{ℕ, ◌≤◌}
use lib.Dec.{leb}
use lib.ListN.{length}
use borrow.Author.Tests.{le-leb, leb-true}
use Rattle.definitions.specs.Result.{err, ok, ◌>>◌, check}
use Rattle.definitions.specs.Records.{Verdict, Good, Bad}
use Rattle.definitions.specs.ContractSheet.{refusal3, refusal4}
use Rattle.definitions.specs.Answers.{refusal, refuse_at, check_contract}
use Rattle.sheet.specs.Passed.{ContractPassed}

module _ (s : List ℕ) (h : length s ≤ 32768) where
  pub malformed : {p : ℕ} → Bad p ≡ refusal3 s → err (refusal 3 (p ∷ [])) ≡ check_contract s
  malformed e = rw (le-leb (length s) 32768 h, ← e)

  module _ (e : Good ≡ refusal3 s) where
    pub over_limit : {p : ℕ} → Bad p ≡ refusal4 s → err (refusal 4 (p ∷ [])) ≡ check_contract s
    over_limit f = rw (le-leb (length s) 32768 h, ← e, ← f)

    pub within : Good ≡ refusal4 s → ok tt ≡ check_contract s
    within f = rw (le-leb (length s) 32768 h, ← e, ← f)

pub passed : (s : List ℕ) → check_contract s ≡ ok tt → ContractPassed s
passed s e = go (leb (length s) 32768) (refusal3 s) (refusal4 s) refl refl refl e
  where
    go : (b : Bool) (f l : Verdict) → leb (length s) 32768 ≡ b → refusal3 s ≡ f → refusal4 s ≡ l
        → (check b (refusal 1 []) >> (refuse_at 3 f >> refuse_at 4 l)) ≡ ok tt → ContractPassed s
    go false f l p q r z = absurd cc
    go true (Bad x) l p q r z = absurd cc
    go true Good (Bad x) p q r z = absurd cc
    go true Good Good p q r z = record { short = leb-true (length s) 32768 p; form = q; limits = r }

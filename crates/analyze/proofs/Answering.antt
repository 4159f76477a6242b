-- From the checks and the bodies to the answer. Assumes nothing.
use mathlib.Core.Path.{◌≡◌, refl, sym, ap}
use mathlib.Core.List.{List, []}
use Prim.Native.Nat.{ℕ}
use Rattle.definitions.specs.Result.{err, ok, ◌>>◌, Done}
use Rattle.definitions.specs.Answers.{Refusal, check_contract, analyze_sheet}
use Rattle.definitions.specs.ContractSheet.{read_contract}
use Rattle.analyze_walk.specs.Stops.{Checking}
use Rattle.analyze_walk.proofs.Stops.{stops}
use Rattle.analyze.specs.Whole.{check_bodies}

-- a check stopped it
pub stopped : (s : List ℕ) {x : Refusal} → err x ≡ check_contract s → err x ≡ analyze_sheet s
unfolding analyze_sheet
stopped s e = rw (sym e) refl

-- the checks of the sheet passed, and the bodies of the contract, which is the sheet's, came to b
pub passed : (s : List ℕ) {s₁ : List ℕ} {b : Checking Done} → ok tt ≡ check_contract s → s₁ ≡ s → b ≡ check_bodies (read_contract s₁) → (b >> ok []) ≡ analyze_sheet s
unfolding analyze_sheet
passed s e q h = rw (sym e, stops (read_contract s), ← q) (ap (λ (a : Checking Done). a >> ok []) h)

-- What a sheet holds behind its first 32,769 bytes does not change the verifier's answer: a program may stop reading there. Assumes nothing.
use mathlib.Core.Path.{◌≡◌}
use mathlib.Core.List.{List, []}
use Prim.Native.Nat.{ℕ, ◌<◌}
use borrow.Author.Tests.{lt-leb}
use lib.ListN.{length, take}
use Rattle.definitions.specs.Result.{err}
use Rattle.definitions.specs.Answers.{verify_sheet, refusal}
use Rattle.line_text.proofs.Cut.{cuts}

long_verified : (s : List ℕ) → 32768 < length s → verify_sheet s ≡ err (refusal 1 [])
unfolding verify_sheet
long_verified s h = rw (lt-leb (length s) 32768 h)

pub cut_verified : (s : List ℕ) (n : ℕ) → 32768 < n → verify_sheet (take n s) ≡ verify_sheet s
cut_verified = cuts verify_sheet (err (refusal 1 [])) long_verified

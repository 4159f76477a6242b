-- What a sheet holds behind its first 32,769 bytes does not change the body check's answer: a program may stop reading there. Assumes nothing.
use mathlib.Core.Path.{◌≡◌}
use mathlib.Core.List.{List, []}
use Prim.Native.Nat.{ℕ, ◌<◌}
use borrow.Author.Tests.{lt-leb}
use lib.ListN.{length, take}
use Rattle.definitions.specs.Result.{err}
use Rattle.definitions.specs.Answers.{analyze_sheet, refusal}
use Rattle.line_text.proofs.Cut.{cuts}

long_analyzed : (s : List ℕ) → 32768 < length s → analyze_sheet s ≡ err (refusal 1 [])
unfolding analyze_sheet
long_analyzed s h = rw (lt-leb (length s) 32768 h)

pub cut_analyzed : (s : List ℕ) (n : ℕ) → 32768 < n → analyze_sheet (take n s) ≡ analyze_sheet s
cut_analyzed = cuts analyze_sheet (err (refusal 1 [])) long_analyzed

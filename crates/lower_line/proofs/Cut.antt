-- What a sheet holds behind its first 32,769 bytes does not change lowering's answer: a program may stop reading there. Assumes nothing.
use mathlib.Core.Path.{◌≡◌}
use mathlib.Core.List.{List, []}
use Prim.Native.Nat.{ℕ, ◌<◌}
use borrow.Author.Tests.{lt-leb}
use lib.ListN.{length, take}
use Rattle.definitions.specs.Result.{err}
use Rattle.definitions.specs.Answers.{lower_sheet, refusal}
use Rattle.line_text.proofs.Cut.{cuts}

long_lowered : (room : ℕ) (s : List ℕ) → 32768 < length s → lower_sheet s room ≡ err (refusal 1 [])
unfolding lower_sheet
long_lowered room s h = rw (lt-leb (length s) 32768 h)

pub cut_lowered : (room : ℕ) (s : List ℕ) (n : ℕ) → 32768 < n → lower_sheet (take n s) room ≡ lower_sheet s room
cut_lowered room = cuts (λ (s : List ℕ). lower_sheet s room) (err (refusal 1 [])) (long_lowered room)

-- A function that has one answer for every list of more than 32,768 bytes has the same answer for a list and for what is left of it when it is cut behind its
-- first 32,769 bytes or later. Assumes nothing.
use mathlib.Core.Path.{◌≡◌, refl, sym, ap, ◌∙◌}
use mathlib.Core.Bool.{Bool, true, false}
use mathlib.Core.List.{List}
use Prim.Native.Nat.{ℕ, ◌<◌}
use native.Mathlib.Omega.{arith}
use borrow.Author.Tests.{leb-true, leb-false}
use lib.Dec.{leb}
use lib.ListN.{length, take}
use lib.Seq.{take_all, length-take-le}
use Rattle.definitions.specs.Answers.{Answer}

pub cuts : (f : List ℕ → Answer) (a : Answer) → ((s : List ℕ) → 32768 < length s → f s ≡ a) → (s : List ℕ) (n : ℕ) → 32768 < n → f (take n s) ≡ f s
cuts f a over s n h = go (leb (length s) n) refl
  where
    go : (t : Bool) → leb (length s) n ≡ t → f (take n s) ≡ f s
    go true e = ap f (take_all n s (omega (arith, leb-true)))
    go false e =
        let more : n < length s = omega (arith, leb-false) in
        let size : length (take n s) ≡ n = length-take-le n s (omega arith) in
        over (take n s) (omega arith) ∙ sym (over s (omega arith))

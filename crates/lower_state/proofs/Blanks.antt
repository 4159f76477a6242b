-- An array with blanks behind its first elements: more are stored behind these, or all are cleared. Assumes nothing.
use mathlib.Core.Path.{◌≡◌, refl, sym, ap, ◌∙◌}
use mathlib.Core.List.{List, [], ◌∷◌, ◌++◌}
use Prim.Native.Nat.{ℕ, ◌+◌, ◌-◌, ◌≤◌, ◌<◌}
use native.Mathlib.Omega.{arith}
use borrow.Author.Tests.{le-leb}
use lib.ListN.{length, take, drop, set, replicate, length-append, length-replicate, replicate-append-replicate}
use lib.Seq.{sets, sets-eq, take_at, drop_at, drop-drop}
use Rattle.std.specs.Prelude.{Option, None, Some, IfSome, unwrap_or}
use Rattle.std.proofs.lemmas.List.{drop-replicate}
use Rattle.lower_walk.specs.Log.{room}
use Rattle.lower_state.specs.Bytes.{Put}
use Rattle.lower_state.specs.Restored.{filled, first_length, ZerosBehind}

module _ {A : Type 0} (n : ℕ) (blank : A) (l : List A) (at : ℕ) (few : at ≤ n) (blanks : filled n blank (take at l) ≡ l) where
  front : length (take at l) ≡ at
  front = first_length n at blank l few blanks

  whole : length l ≡ n
  whole = let p = take at l in omega (arith, ap length blanks, length-append p (replicate (n - length p) blank), length-replicate (n - length p) blank, front)

  behind : drop at l ≡ replicate (n - at) blank
  behind = ap (drop at) (sym blanks) ∙ drop_at (take at l) (replicate (n - length (take at l)) blank) at front ∙ ap (λ (k : ℕ). replicate (n - k) blank) front

  -- x is stored behind the first
  pub stored : (x : List A) → at + length x ≤ n → filled n blank (take (at + length x) (sets l at x)) ≡ sets l at x
  stored x fits =
      let long : length (take at l ++ x) ≡ at + length x = length-append (take at l) x ∙ ap (λ (k : ℕ). k + length x) front in
      let is : sets l at x ≡ (take at l ++ x) ++ drop (at + length x) l = sets-eq x l at (omega (arith, whole)) in
      let rest : n - at - length x ≡ n - (at + length x) = omega arith in
      let past : drop (at + length x) l ≡ replicate (n - (at + length x)) blank =
      sym (drop-drop (length x) at l) ∙ ap (drop (length x)) behind ∙ drop-replicate (length x) (n - at) blank ∙ ap (λ (k : ℕ). replicate k blank) rest in
      rw (is, take_at (take at l ++ x) (drop (at + length x) l) (at + length x) long, long, past) refl

  pub one_stored : (x : A) → at < n → filled n blank (take (at + 1) (set l at x)) ≡ set l at x
  one_stored x fits = stored (x ∷ []) (omega arith)

  -- the first are filled with blanks
  pub cleared : {part : List A} → part ≡ replicate (length (take at l)) blank → filled n blank [] ≡ part ++ drop at l
  cleared {part} is =
      let all : at + (n - at) ≡ n - 0 = omega arith in
      rw (is, front, behind, replicate-append-replicate at (n - at) blank, all) refl

-- the log's zeros, behind a place in its room
pub zeros_at : (l : List ℕ) (at : ℕ) → at ≤ room → ZerosBehind l (Some at) ≡ (filled room 0 (take at l) ≡ l)
zeros_at l at h = rw (le-leb at room h) refl

-- x was written
pub put_zeros : {l x m : List ℕ} {at to n : ℕ} → length x ≡ n → at + n ≤ room → Put x l at m to → ZerosBehind l (Some at) → ZerosBehind m (Some to)
put_zeros {l} {x} {m} {at} {to} e fits p zeros =
    let here : filled room 0 (take at l) ≡ l = rw (← zeros_at l at (omega arith)) zeros in
    rw (p.is, p.past, zeros_at (sets l at x) (at + length x) (omega arith)) (stored room 0 l at (omega arith) here x (omega arith))

-- what was written is cleared, and all
pub zeros_cleared : {part : List ℕ} (l : List ℕ) (to : Option ℕ) (at : ℕ) → at ≡ unwrap_or to 0 → IfSome to (λ n. n ≤ room) → ZerosBehind l to → part ≡ replicate (length (take at l)) 0 → filled room 0 [] ≡ part ++ drop at l
zeros_cleared l None at e h zeros is = cleared room 0 l at (omega (arith, e)) (rw e zeros) is
zeros_cleared l (Some n) at e h zeros is = cleared room 0 l at (omega (arith, e, h)) (rw (e, ← zeros_at l n h) zeros) is

pub all_cleared : {part : List ℕ} (l : List ℕ) → length l ≡ room → part ≡ replicate (length l) 0 → ZerosBehind part None
all_cleared l long is = rw (is, long) refl

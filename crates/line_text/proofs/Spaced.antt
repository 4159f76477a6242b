-- One number after another: a front with the rest of the line behind it is the whole line. Assumes nothing.
use Rattle.std.proofs.Common.{◌≡◌, ℕ, ◌+◌, ◌<◌, ◌≤◌, List, [], ◌∷◌, ◌++◌, length, take, drop, refl, sym, ap, ◌∙◌, arith, append_assoc, length-drop}
use lib.ListN.{get_or, set}
use lib.Seq.{drop-length}
use Rattle.std.proofs.lemmas.List.{drop_more, take_more_set}
use Rattle.definitions.specs.Lines.{decimal, spaced, line_of}
use Rattle.line_text.specs.Lined.{Begins}

-- the front, with the numbers from i on behind it, is the line
abbrev pub Goes : (line details front : List ℕ) → ℕ → Type 0
Goes line details front i = front ++ spaced (drop i details) ≡ line

-- the first number
pub first : (number : ℕ) (details front : List ℕ) → front ≡ decimal number → Goes (line_of (number ∷ details)) details front 0
unfolding line_of
first number details front e = ap (λ (f : List ℕ). f ++ spaced details) e

-- one more number, behind a space
pub next : (line details front : List ℕ) (i : ℕ) → i < length details → Goes line details front i → Goes line details ((front ++ (32 ∷ [])) ++ decimal (get_or details i 0)) (i + 1)
unfolding spaced
next line details front i h g =
    let rest : drop i details ≡ get_or details i 0 ∷ drop (i + 1) details = drop_more details i 0 h in
    append_assoc (front ++ (32 ∷ [])) (decimal (get_or details i 0)) (spaced (drop (i + 1) details)) ∙ append_assoc front (32 ∷ []) (decimal (get_or details i 0) ++ spaced (drop (i + 1) details)) ∙ ap (λ (r : List ℕ). front ++ spaced r) (sym rest) ∙ g

-- the line feed at the end
pub last : (line details out : List ℕ) (at i : ℕ) → at < length out → i ≡ length details → Goes line details (take at out) i → take (at + 1) (set out at 10) ≡ line
unfolding spaced
last line details out at i h e g =
    let none : drop i details ≡ [] = rw e (drop-length details) in
    take_more_set out at 10 h ∙ ap (λ (r : List ℕ). take at out ++ spaced r) (sym none) ∙ g

-- acceptance
pub ok_line : (numbers out : List ℕ) → length numbers ≡ 0 → 128 ≤ length out → Begins (line_of numbers) out (79 ∷ 75 ∷ 10 ∷ drop 3 out) 3
unfolding line_of
ok_line [] out e h = record { front = refl; same_length = omega (arith, length-drop {A = ℕ} 3 out); short = omega arith }
ok_line (x ∷ l) out e h = absurd (omega arith)

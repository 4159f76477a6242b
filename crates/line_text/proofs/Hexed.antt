-- One byte after another in hexadecimal, and the line of them. Assumes nothing.
use Rattle.std.proofs.Common.{◌≡◌, ℕ, ◌+◌, ◌-◌, ◌*◌, ◌/◌, ◌%◌, ◌≤◌, ◌<◌, List, [], ◌∷◌, ◌++◌, length, take, drop, refl, sym, ap, ◌∙◌, arith, length-drop, length-set}
use lib.ListN.{get_or, set}
use borrow.Rule.Slice.PartMut.{put_mid, same_len_mid}
use lib.Seq.{length-take-le}
use Rattle.std.proofs.lemmas.List.{take_more, take_more_set}
use Rattle.std.proofs.lemmas.Slice.{take-put_mid}
use Rattle.definitions.specs.Lines.{hex_digit, hexed}

hexed_append : (l : List ℕ) (b : ℕ) → hexed (l ++ (b ∷ [])) ≡ hexed l ++ (32 ∷ hex_digit (b / 16) ∷ hex_digit (b % 16) ∷ [])
unfolding hexed
hexed_append [] b = refl
hexed_append (a ∷ l) b = ap (λ (r : List ℕ). 32 ∷ hex_digit (a / 16) ∷ hex_digit (a % 16) ∷ r) (hexed_append l b)

pub hexed_length : (l : List ℕ) → length (hexed l) ≡ 3 * length l
unfolding hexed
hexed_length [] = refl
hexed_length (b ∷ l) = let e : length (hexed l) ≡ 3 * length l = hexed_length l in omega arith

-- the byte at i
pub hex_next : (bytes text : List ℕ) (i k d e : ℕ) → i < length bytes → 3 * i ≤ length text → d ≡ hex_digit (get_or bytes i 0 / 16) → e ≡ hex_digit (get_or bytes i 0 % 16)
    → take (3 * i) text ≡ hexed (take i bytes) → take (3 * (i + 1)) (put_mid (3 * i) k text (32 ∷ d ∷ e ∷ [])) ≡ hexed (take (i + 1) bytes)
hex_next bytes text i k d e h room high low front =
    rw (take_more bytes i 0 h, hexed_append (take i bytes) (get_or bytes i 0), ← high, ← low, ← front) (take-put_mid (3 * i) k text (32 ∷ d ∷ e ∷ []) (3 * (i + 1)) (omega arith) room)

-- `OK`, the bytes and a line feed
module _ (sheet text hex : List ℕ) (k : ℕ) (e : hex ≡ hexed sheet) (h : 3 + 3 * length sheet ≤ length text) (f : k ≡ 3 * length sheet) where
  abbrev unended : List ℕ
  unended = put_mid 2 k (79 ∷ 75 ∷ drop 2 text) hex

  size : length hex ≡ k
  size = ap length e ∙ hexed_length sheet ∙ sym f

  same_length : length unended ≡ length text
  same_length =
      let rest : length (drop 2 text) ≡ length text - 2 = length-drop 2 text in
      same_len_mid 2 k (79 ∷ 75 ∷ drop 2 text) hex (size ∙ sym (length-take-le k (drop 2 text) (omega arith))) ∙ omega arith

  pub accepted_front : take (2 + 3 * length sheet + 1) (set unended (2 + 3 * length sheet) 10) ≡ 79 ∷ 75 ∷ (hexed sheet ++ (10 ∷ []))
  accepted_front =
      let front : take (2 + 3 * length sheet) unended ≡ 79 ∷ 75 ∷ hexed sheet =
      rw (← e) (take-put_mid 2 k (79 ∷ 75 ∷ drop 2 text) hex (2 + 3 * length sheet) (omega (arith, size, f)) (omega arith)) in
      take_more_set unended (2 + 3 * length sheet) 10 (omega (arith, same_length)) ∙ ap (λ (l : List ℕ). l ++ (10 ∷ [])) front

  pub accepted_length : length (set unended (2 + 3 * length sheet) 10) ≡ length text
  accepted_length = length-set unended (2 + 3 * length sheet) 10 ∙ same_length

-- What a store changes of what a frame's cells hold. Assumes nothing.
use mathlib.Core.Path.{◌≡◌, sym, ◌∙◌}
use mathlib.Core.List.{List, [], ◌∷◌}
use mathlib.Core.Logic.{◌⊎◌, inl, inr}
use mathlib.Core.Option.{Option, none, some}
use Prim.Native.Nat.{ℕ, ◌+◌, ◌*◌, ◌^◌, ◌≤◌, ◌<◌}
use native.Mathlib.Omega.{arith}
use borrow.Author.Tests.{eqb-true, eqb-false, lt-ltb, le-ltb, ltb-true, ltb-false}
use lib.Dec.{eqb, ltb}
use lib.ListN.{length}
use Rattle.definitions.specs.Bench.{Notes, word_at, bytes_for}
use Rattle.definitions.proofs.Results.{by_test}
use Rattle.machine_memory.specs.Cells.{cell_width, cell, stored, emptied, cleared}
use Rattle.machine_memory.proofs.Cells.{stored_same, stored_apart, emptied_same, emptied_apart, cleared_within, length_stored, length_emptied}
use Rattle.machine_slots.specs.Slots.{Among, slot_for, one_of}
use Rattle.machine_slots.proofs.Indices.{slot_low, slot_one, frame_bytes}
use Rattle.machine_state.specs.Frames.{frame_function, frame_ids, Fits, CellWithin, value_cell, locals_base, local_cell, slot_place, held_at, InCells}
use Rattle.machine_state.specs.declared.frame.Frame.{Frame}

-- SLOT WORDS: what the cell of slot i of n holds
abbrev slot_word : List ℕ → (base n i : ℕ) → Option ℕ
slot_word m base n i = held_at m (slot_place base (one_of n i))

within : (m : List ℕ) (base n i : ℕ) → i < n → slot_word m base n i ≡ cell m (base + cell_width * i)
unfolding slot_place held_at
within m base n i h = rw (lt-ltb i n h)

beyond : (m : List ℕ) (base n i : ℕ) → n ≤ i → slot_word m base n i ≡ none
unfolding slot_place held_at
beyond m base n i h = rw (le-ltb i n h)

-- the cells of n slots are the same in two memories
abbrev SameCells : List ℕ → List ℕ → ℕ → ℕ → Type 0
SameCells a b base n = (i : ℕ) → i < n → cell a (base + cell_width * i) ≡ cell b (base + cell_width * i)

same_word : (a b : List ℕ) (base n i : ℕ) → SameCells a b base n → slot_word a base n i ≡ slot_word b base n i
same_word a b base n i h =
    by_test (ltb i n)
    (λ q. let k : i < n = ltb-true i n q in within a base n i k ∙ (h i k ∙ sym (within b base n i k)))
    (λ q. let k : n ≤ i = ltb-false i n q in beyond a base n i k ∙ sym (beyond b base n i k))

-- the cell at p took a word, or became unset; every cell apart from it is as before
pub record Changed (m after : List ℕ) (p : ℕ) (w : Option ℕ) : Type 0 where
  pub same : cell after p ≡ w
  pub apart : (r : ℕ) → (r + cell_width ≤ p) ⊎ (p + cell_width ≤ r) → cell after r ≡ cell m r
  pub long : length after ≡ length m

pub put_changes : (m : List ℕ) (p w : ℕ) → w < 2 ^ 64 → p + cell_width ≤ length m → Changed m (stored m p w) p (some w)
put_changes m p w h r = record { same = stored_same m p w h r; apart = stored_apart m p w; long = length_stored m p w }

pub forget_changes : (m : List ℕ) (p : ℕ) → p + cell_width ≤ length m → Changed m (emptied m p) p none
forget_changes m p r = record { same = emptied_same m p r; apart = emptied_apart m p; long = length_emptied m p }

other_slot : {m after : List ℕ} {w : Option ℕ} (base n i j : ℕ) → Changed m after (base + cell_width * i) w → (i ≡ j → ⊥) → slot_word after base n j ≡ slot_word m base n j
other_slot {m} {after} base n i j c h =
    by_test (ltb j n)
    (λ q.
    let k : j < n = ltb-true j n q in
    let d : (base + cell_width * j + cell_width ≤ base + cell_width * i) ⊎ (base + cell_width * i + cell_width ≤ base + cell_width * j) =
    by_test (ltb j i) (λ x. inl (omega (arith, ltb-true j i x))) (λ x. inr (omega (arith, ltb-false j i x))) in
    within after base n j k ∙ (c.apart (base + cell_width * j) d ∙ sym (within m base n j k)))
    (λ q. let k : n ≤ j = ltb-false j n q in beyond after base n j k ∙ sym (beyond m base n j k))

-- THE NOTES of n slots, whose cells hold their words
module _ (m after : List ℕ) (base n : ℕ) (slot : ℕ → ℕ) (notes : Notes ℕ) (H : (v : ℕ) → word_at v notes ≡ slot_word m base n (slot v)) where
  -- one took a word, or became unset
  noted : {w : Option ℕ} (v : ℕ) → slot v < n → ((u : ℕ) → slot v ≡ slot u → v ≡ u) → Changed m after (base + cell_width * slot v) w → (u : ℕ) → word_at u ((v, w) ∷ notes) ≡ slot_word after base n (slot u)
  noted v low one c u =
      by_test (eqb v u)
      (λ q. rw (q, word_at, ← eqb-true v u q) (sym (within after base n (slot v) low ∙ c.same)))
      (λ q. rw (q, word_at) (H u ∙ sym (other_slot base n (slot v) (slot u) c (λ e. eqb-false v u q (one u e)))))

  -- their cells are as before
  as_before : SameCells after m base n → (u : ℕ) → word_at u notes ≡ slot_word after base n (slot u)
  as_before h u = H u ∙ sym (same_word after m base n (slot u) h)

-- A FRAME after one of its values, or locals, took a word or became unset
module _ {m after : List ℕ} {t : Frame} {values locals : Notes ℕ} (H : InCells m t values locals) where
  pub value_changed : {w : Option ℕ} (v : ℕ) → Among v (frame_ids t) → Changed m after (value_cell t v) w → InCells after t ((v, w) ∷ values) locals
  value_changed v h c =
      let low : slot_for (frame_ids t) v < length (frame_ids t) = slot_low (frame_ids t) v h in
      record {
        value = noted m after t.base (length (frame_ids t)) (slot_for (frame_ids t)) values H.value v low (λ u e. slot_one (frame_ids t) v u low e) c;
        local = as_before m after (locals_base t) (length (frame_function t).locals) (λ l. l) locals H.local (λ i k. c.apart (locals_base t + cell_width * i) (inr (omega arith)));
      }

  pub local_changed : {w : Option ℕ} (l : ℕ) → l < length (frame_function t).locals → Changed m after (local_cell t l) w → InCells after t values ((l, w) ∷ locals)
  local_changed l h c = record {
    value = as_before m after t.base (length (frame_ids t)) (slot_for (frame_ids t)) values H.value (λ i z. c.apart (t.base + cell_width * i) (inl (omega arith)));
    local = noted m after (locals_base t) (length (frame_function t).locals) (λ l. l) locals H.local l h (λ u e. e) c;
  }

  -- a store that does not touch it
  pub not_touched : ((r : ℕ) → t.base ≤ r → CellWithin t r → cell after r ≡ cell m r) → InCells after t values locals
  not_touched h =
      let e : bytes_for (frame_function t) ≡ 9 * (length (frame_ids t) + length (frame_function t).locals) = frame_bytes (frame_function t) in
      record {
        value = as_before m after t.base (length (frame_ids t)) (slot_for (frame_ids t)) values H.value (λ i k. h (t.base + cell_width * i) (omega arith) (omega arith));
        local = as_before m after (locals_base t) (length (frame_function t).locals) (λ l. l) locals H.local (λ i k. h (locals_base t + cell_width * i) (omega arith) (omega arith));
      }

-- A FRAME that was cleared holds nothing: first any n slots, of whatever function, that lie in the cleared bytes
pub cleared_slots : (m : List ℕ) (base size : ℕ) → base + size ≤ length m → (p n i : ℕ) → base ≤ p → p + cell_width * n ≤ base + size → none ≡ slot_word (cleared m base size) p n i
cleared_slots m base size h p n i x y =
    by_test (ltb i n)
    (λ q.
    let k : i < n = ltb-true i n q in
    sym (within (cleared m base size) p n i k ∙ cleared_within m base size (p + cell_width * i) h (omega arith) (omega arith)))
    (λ q. sym (beyond (cleared m base size) p n i (ltb-false i n q)))

pub nothing_held : (m : List ℕ) (t : Frame) → Fits (length m) t → InCells (cleared m t.base (bytes_for (frame_function t))) t [] []
nothing_held m t h =
    let b : ℕ = bytes_for (frame_function t) in
    let e : bytes_for (frame_function t) ≡ 9 * (length (frame_ids t) + length (frame_function t).locals) = frame_bytes (frame_function t) in
    record {
      value = λ v. cleared_slots m t.base b h t.base (length (frame_ids t)) (slot_for (frame_ids t) v) (omega arith) (omega arith);
      local = λ l. cleared_slots m t.base b h (locals_base t) (length (frame_function t).locals) l (omega arith) (omega arith);
    }

-- A search that passes a list of ids, a part after the other. Assumes nothing.
use mathlib.Core.Path.{◌≡◌, refl, ap, sym, ◌∙◌, subst}
use mathlib.Core.Bool.{true, false}
use mathlib.Core.List.{List, [], ◌∷◌, ◌++◌}
use mathlib.Core.Option.{Option, none, some}
use Prim.Native.Nat.{ℕ, suc, ◌+◌, ◌≤◌, ◌<◌}
use native.Mathlib.Omega.{arith}
use borrow.Author.Tests.{lt-ltb, le-ltb, ltb-true, ltb-false}
use lib.Dec.{eqb, ltb, leb}
use lib.ListN.{length, length-append}
use Rattle.std.specs.Prelude.{Result, Ok, Err}
use Rattle.std.specs.Bool.{then_some}
use Rattle.std.specs.Result.{result_err}
use Rattle.ir.specs.Answers.{option_of}
use Rattle.definitions.proofs.Results.{by_test}
use Rattle.machine_slots.specs.Slots.{is_it, with_one, passed, searched, none_yet, index_of, Among, above, above_all, tally_of, slot_for, one_of}
use Rattle.machine_slots.specs.declared.Tally.{Tally}

-- what a search says of a list goes on over another
abbrev onward : Option ℕ → Result Tally ℕ → List ℕ → Result Tally ℕ
onward v (Ok j) ys = searched j ys v
onward v (Err p) ys = Err p

search_append : (v : Option ℕ) (xs ys : List ℕ) (i : Tally) → searched i (xs ++ ys) v ≡ onward v (searched i xs v) ys
unfolding searched
search_append v [] ys i = refl
search_append v (x ∷ xs) ys i =
    by_test (is_it x v)
    (λ q. rw (q, searched))
    (λ q. rw (q, searched) (search_append v xs ys (with_one i x)))

abbrev count_in : ℕ → Result Tally ℕ → ℕ
count_in d (Ok j) = j.count
count_in d (Err p) = d

count_after : (v : Option ℕ) (xs : List ℕ) (i : Tally) → count_in (i.count + length xs) (searched i xs v) ≡ i.count + length xs
unfolding searched
count_after v [] i = omega arith
count_after v (x ∷ xs) i =
    by_test (is_it x v)
    (λ q. rw (q, searched))
    (λ q. rw (q, searched) (let e : i.count + suc (length xs) ≡ suc i.count + length xs = omega arith in rw e (count_after v xs (with_one i x))))

-- WHAT IS LEFT to search gives what the whole gives
pub record Left (v : Option ℕ) (whole : Result Tally ℕ) (top : ℕ) (i : Tally) (rest : List ℕ) : Type 0 where
  pub same : searched i rest v ≡ whole
  pub room : i.count + length rest ≤ top

module _ {v : Option ℕ} {whole : Result Tally ℕ} {top : ℕ} {i : Tally} where
  pub left_as : {xs ys : List ℕ} → xs ≡ ys → Left v whole top i xs → Left v whole top i ys
  left_as e L = subst (Left v whole top i) e L

  -- some of them, passed, or the one that is sought among them
  pub left_on : {zs : List ℕ} (xs : List ℕ) {ys : List ℕ} {j : Tally} → Left v whole top i zs → zs ≡ xs ++ ys → Ok j ≡ searched i xs v → Left v whole top j ys
  left_on xs {ys} {j} L z e =
      let n : j.count ≡ i.count + length xs = subst (λ (r : Result Tally ℕ). count_in (i.count + length xs) r ≡ i.count + length xs) (sym e) (count_after v xs i) in
      let r = (left_as z L).room in
      let m = rw length-append at r in
      record {
        same = ap (λ (r : Result Tally ℕ). onward v r ys) e ∙ (sym (search_append v xs ys i) ∙ (left_as z L).same);
        room = omega arith;
      }

  pub left_found : {zs : List ℕ} (xs ys : List ℕ) {p : ℕ} → Left v whole top i zs → zs ≡ xs ++ ys → Err p ≡ searched i xs v → Err p ≡ whole
  left_found xs ys L z e = ap (λ (r : Result Tally ℕ). onward v r ys) e ∙ (sym (search_append v xs ys i) ∙ (left_as z L).same)

  -- the front one
  pub one_on : {xs ys : List ℕ} {x : ℕ} {j : Tally} → Left v whole top i xs → xs ≡ x ∷ ys → Ok j ≡ passed i x v → Left v whole top j ys
  unfolding searched
  one_on {x = x} L z e = left_on (x ∷ []) L z e

  pub one_found : {xs ys : List ℕ} {x p : ℕ} → Left v whole top i xs → xs ≡ x ∷ ys → Err p ≡ passed i x v → Err p ≡ whole
  unfolding searched
  one_found {ys = ys} {x = x} L z e = left_found (x ∷ []) ys L z e

  pub one_room : {xs ys : List ℕ} {x : ℕ} → Left v whole top i xs → xs ≡ x ∷ ys → i.count + 1 ≤ top
  one_room {ys = ys} {x = x} L e = let r = (left_as e L).room in omega arith

  pub nothing_left : {xs : List ℕ} → Left v whole top i xs → xs ≡ [] → Ok i ≡ whole
  unfolding searched
  nothing_left L e = (left_as e L).same

-- ALL OF THEM, where none is sought
pub all_passed : (xs : List ℕ) (i : Tally) → searched i xs none ≡ Ok (record { count = i.count + length xs; above = above xs i.above })
unfolding searched above
all_passed [] i = ap (λ (n : ℕ). Ok (record { count = n; above = i.above })) (omega arith)
all_passed (x ∷ xs) i = all_passed xs (with_one i x) ∙ ap (λ (n : ℕ). Ok (record { count = n; above = above xs (with_one i x).above })) (omega arith)

pub all_counted : (xs : List ℕ) → searched none_yet xs none ≡ Ok (tally_of xs)
all_counted xs = all_passed xs none_yet ∙ ap (λ (n : ℕ). Ok (record { count = n; above = above xs 0 })) (omega arith)

-- THE POSITION of one
pub is_in : (v : ℕ) (xs : List ℕ) (i : Tally) → Among v xs → searched i xs (some v) ≡ Err (i.count + index_of v xs)
unfolding searched index_of
is_in v [] i h = absurd (omega arith)
is_in v (x ∷ xs) i h =
    by_test (eqb x v)
    (λ q. rw (q, searched, index_of) (ap Err (omega arith)))
    (λ q.
    let k : suc (index_of v xs) < suc (length xs) = rw (q, index_of) at h in
    rw (q, searched, index_of) (is_in v xs (with_one i x) (omega arith) ∙ ap Err (omega arith)))

pub not_in : (v : ℕ) (xs : List ℕ) (i : Tally) → length xs ≤ index_of v xs → (j : Tally) × (searched i xs (some v) ≡ Ok j)
unfolding searched index_of
not_in v [] i h = (i, refl)
not_in v (x ∷ xs) i h =
    by_test (eqb x v)
    (λ q. let k : suc (length xs) ≤ 0 = rw (q, index_of) at h in absurd (omega arith))
    (λ q.
    let k : suc (length xs) ≤ suc (index_of v xs) = rw (q, index_of) at h in
    rw (q, searched) (not_in v xs (with_one i x) (omega arith)))

-- the position that a search gives, or how many it has passed
abbrev pub place_in : Result Tally ℕ → ℕ
place_in (Ok i) = i.count
place_in (Err p) = p

index_from : (v : ℕ) (xs : List ℕ) (i : Tally) → place_in (searched i xs (some v)) ≡ i.count + index_of v xs
unfolding searched index_of
index_from v [] i = omega arith
index_from v (x ∷ xs) i =
    by_test (eqb x v)
    (λ q. rw (q, searched, index_of) (omega arith))
    (λ q. rw (q, searched, index_of) (index_from v xs (with_one i x) ∙ omega arith))

pub index_told : (v : ℕ) (xs : List ℕ) → place_in (searched none_yet xs (some v)) ≡ index_of v xs
index_told v xs = index_from v xs none_yet ∙ omega arith

-- the tally of a search for none
pub tally_is : {r : Result Tally ℕ} {t : Tally} (xs : List ℕ) → r ≡ searched none_yet xs none → r ≡ Ok t → t ≡ tally_of xs
tally_is xs e z = let a = all_counted xs in cc

-- THE SLOT by what is read
one_in : (n i : ℕ) → i < n → some i ≡ one_of n i
one_in n i h = rw (lt-ltb i n h)

one_out : (n i : ℕ) → n ≤ i → none ≡ one_of n i
one_out n i h = rw (le-ltb i n h)

pub one_told : (n i : ℕ) → option_of (λ (j : ℕ). j) (then_some (ltb i n) i) ≡ one_of n i
one_told n i = by_test (ltb i n) (λ q. rw q) (λ q. rw q)

pub position_is : (v : ℕ) (xs : List ℕ) → option_of (λ (i : ℕ). i) (result_err (searched none_yet xs (some v))) ≡ one_of (length xs) (index_of v xs)
position_is v xs =
    by_test (ltb (index_of v xs) (length xs))
    (λ q.
    let k : index_of v xs < length xs = ltb-true (index_of v xs) (length xs) q in
    let e : 0 + index_of v xs ≡ index_of v xs = omega arith in
    ap (λ (r : Result Tally ℕ). option_of (λ (i : ℕ). i) (result_err r)) (is_in v xs none_yet k) ∙ (ap some e ∙ one_in (length xs) (index_of v xs) k))
    (λ q.
    let k : length xs ≤ index_of v xs = ltb-false (index_of v xs) (length xs) q in
    ap (λ (r : Result Tally ℕ). option_of (λ (i : ℕ). i) (result_err r)) (not_in v xs none_yet k).1 ∙ one_out (length xs) (index_of v xs) k)

module _ {n m : ℕ} (xs : List ℕ) (v : ℕ) (count : n ≡ length xs) (top : m ≡ above_all xs) where
  tested : leb m n ≡ leb (above_all xs) (length xs)
  tested = rw (count, top) refl

  pub in_order : leb m n ≡ false → slot_for xs v ≡ index_of v xs
  unfolding slot_for
  in_order q = rw (sym tested ∙ q)

  pub by_id : leb m n ≡ true → slot_for xs v ≡ v
  unfolding slot_for
  by_id q = rw (sym tested ∙ q)

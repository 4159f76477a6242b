-- Storage fields take the same bytes each, and come first. Assumes nothing.
use mathlib.Core.Path.{◌≡◌, refl, ap, ◌∙◌}
use mathlib.Core.List.{List, [], ◌∷◌}
use Prim.Native.Nat.{ℕ, ◌+◌, ◌-◌, ◌*◌, ◌%◌, ◌≤◌, ◌<◌}
use native.Mathlib.Omega.{arith}
use lib.Dec.{eqb, leb}
use lib.ListN.{length}
use borrow.Author.Tests.{eqb-true, eqb-false, leb-true, leb-false, ne_eqb}
use Rattle.definitions.specs.Fields.{le}
use Rattle.definitions.specs.Grammar.{Class, up_to, done, rows}
use Rattle.definitions.specs.Records.{pick, size_of, row_in}
use Rattle.definitions.proofs.Results.{by_test}
use Rattle.definitions.proofs.Contracts.Limits.{TopKind, storage, struct, function}
use Rattle.definitions.proofs.Sheets.Singles.{after}
use Rattle.sheet.specs.Passed.{record_kind, stop_of}
use Rattle.contract_nodes.specs.Ready.{Ready}
use Rattle.sheet.specs.Passed.{ContractPassed}
use Rattle.contract_nodes.proofs.Children.{opened, nothing_left}
use Rattle.std.specs.Prelude.{Option as Maybe, None, Some}
use Rattle.contract_lookup.specs.declared.symbols.Found.{Found}
use Rattle.contract_lookup.specs.Answers.{found_in, storage_bytes, slot_at, stored_at, behind_of, BehindLast, last_of}
use Rattle.contract_lookup.proofs.Lasts.{at_place, or_earlier, Walking, begun, walked, stopped, top_at, has_name, has_not, this_kind}

top_range : {k : ℕ} → TopKind k → (2 ≤ k) × (k ≤ 4)
top_range storage = (omega arith, omega arith)
top_range struct = (omega arith, omega arith)
top_range function = (omega arith, omega arith)

-- a storage field has a name and the name of its type, and no children
pub field_stop : {c : Class} {s : List ℕ} {at d : ℕ} → Ready c s at d → record_kind s at ≡ 2 → at + storage_bytes ≡ stop_of s at
unfolding rows row_in after size_of
field_stop R k = (nothing_left (opened (up_to 65534 ∷ up_to 65534 ∷ []) done refl R k).kids).0

-- kind and name as one number
head_is : (s : List ℕ) (at : ℕ) → le 4 s (at + 4) ≡ record_kind s at + 65536 * le 2 s (at + 6)
unfolding le
head_is s at =
    let a : at + 4 + 1 + 1 ≡ at + 6 = omega arith in
    rw a (omega arith)

stored : (i at : ℕ) → at ≡ 8 + storage_bytes * i → stored_at (Some at) ≡ at_place i at
stored i at e =
    let q : slot_at at ≡ i = omega arith in
    ap (λ (x : ℕ). at_place x at) q

-- `count` fields came before `at`, and the last of them that has the name stands at `place`, or there is none. `wanted` is the kind and the name.
pub record Storing (s : List ℕ) (wanted : ℕ) (place : Maybe ℕ) (at : ℕ) : Type 0 where
  pub name : ℕ
  pub wanted_is : wanted ≡ 2 + 65536 * name
  pub count : ℕ
  pub at_is : at ≡ 8 + storage_bytes * count
  pub walking : Walking s 2 name (stored_at place) count at

-- what `last_storage` ensures
abbrev Answer : List ℕ → (place : Maybe ℕ) (n : ℕ) → Type 0
Answer s place n = found_in s (stored_at place) ≡ last_of s 2 n

pub begun_storing : (s : List ℕ) (n : ℕ) → ContractPassed s → Storing s (2 + 65536 * n) None 8
begun_storing s n C = record { name = n; wanted_is = refl; count = 0; at_is = refl; walking = begun s 2 n C }

same_name : {s : List ℕ} {place : Maybe ℕ} {at : ℕ} (n : ℕ) (S : Storing s (2 + 65536 * n) place at) → S.name ≡ n
same_name n S = omega (arith, S.wanted_is)

pub all_stored : {s : List ℕ} {place : Maybe ℕ} {at : ℕ} (n : ℕ) → Storing s (2 + 65536 * n) place at → length s ≤ at → Answer s place n
all_stored n S h = rw (same_name n S) at (walked S.walking h).0

module _ {s : List ℕ} {wanted : ℕ} {place : Maybe ℕ} {at here : ℕ} (S : Storing s wanted place at) (l : at < length s) (e : here ≡ le 4 s (at + 4)) where
  -- the kind at `at`
  kind_is : record_kind s at ≡ here % 65536
  kind_is = omega (arith, e, head_is s at, (top_range (top_at S.walking l).kind).1)

  module _ (k : here % 65536 ≡ 2) where
    is_two : record_kind s at ≡ 2
    is_two = kind_is ∙ k

    pub field_fits : at + storage_bytes ≡ stop_of s at
    field_fits = let P = top_at S.walking l in field_stop (P.ready is_two) is_two

    next_stored : (p : Maybe ℕ) (this : Maybe Found) → stored_at p ≡ or_earlier this (stored_at place) → Walking s 2 S.name (or_earlier this (stored_at place)) (S.count + 1) (stop_of s at) → Storing s wanted p (at + storage_bytes)
    next_stored p this q W = record {
      name = S.name;
      wanted_is = S.wanted_is;
      count = S.count + 1;
      at_is = omega (arith, S.at_is);
      walking = rw (q, field_fits) W;
    }

    wanted_here : here ≡ wanted → Storing s wanted (Some at) (at + storage_bytes)
    wanted_here w =
        let q : le 2 s (at + 6) ≡ S.name = omega (arith, e, head_is s at, is_two, S.wanted_is) in
        let u : stored_at (Some at) ≡ at_place S.count at = stored S.count at S.at_is in
        next_stored (Some at) (stored_at (Some at)) refl (this_kind S.walking l (stored_at (Some at)) is_two (has_name S.walking l is_two q u))

    other_here : (here ≡ wanted → ⊥) → Storing s wanted place (at + storage_bytes)
    other_here w =
        let q : (le 2 s (at + 6) ≡ S.name → ⊥) = (λ z. w (omega (arith, e, head_is s at, is_two, S.wanted_is))) in
        next_stored place None refl (this_kind S.walking l None is_two (has_not S.walking l q refl))

    pub stored_on : {r : Maybe ℕ} → r ≡ pick (eqb here wanted) (Some at) place → Storing s wanted r (at + storage_bytes)
    stored_on q = by_test (eqb here wanted) (λ y. rw (q, y) (wanted_here (eqb-true here wanted y))) (λ y. rw (q, y) (other_here (eqb-false here wanted y)))

-- behind the storage fields
pub past_stored : {s : List ℕ} {place : Maybe ℕ} {at here : ℕ} (n : ℕ) (S : Storing s (2 + 65536 * n) place at) → at < length s → here ≡ le 4 s (at + 4) → (here % 65536 ≡ 2 → ⊥) → Answer s place n
past_stored n S l e k =
    let r = (top_range (top_at S.walking l).kind).0 in
    rw (same_name n S) at (stopped S.walking l (omega (arith, r, k, kind_is S l e))).0

-- the last record that can be a storage field
pub last_stored : {s : List ℕ} {place : Maybe ℕ} {at here : ℕ} {r : Maybe ℕ} (n : ℕ) → Storing s (2 + 65536 * n) place at → at < length s → length s ≤ at + storage_bytes
    → here ≡ le 4 s (at + 4) → r ≡ pick (eqb here (2 + 65536 * n)) (Some at) place → Answer s r n
last_stored {here = here} n S l h e q =
    by_test (eqb (here % 65536) 2)
    (λ k. all_stored n (stored_on S l e (eqb-true (here % 65536) 2 k) q) h)
    (λ k. let other : (here ≡ 2 + 65536 * n → ⊥) = (λ z. eqb-false (here % 65536) 2 k (omega arith)) in rw (q, ne_eqb here (2 + 65536 * n) other) (past_stored n S l e (eqb-false (here % 65536) 2 k)))

-- none fits
pub none_stored : (s : List ℕ) (n : ℕ) → ContractPassed s → length s < 8 + storage_bytes → Answer s None n
none_stored s n C h =
    let S : Storing s (2 + 65536 * n) None 8 = begun_storing s n C in
    by_test (leb (length s) 8)
    (λ k. all_stored n S (leb-true (length s) 8 k))
    (λ k. let l = leb-false (length s) 8 k in past_stored n S l refl (λ two. omega (arith, field_fits S l refl two, (top_at S.walking l).inside)))

-- THE SAME BY WHAT THE CODE KEEPS: the place behind the field that was found
pub record Behind (s : List ℕ) (wanted behind at : ℕ) : Type 0 where
  pub place : Maybe ℕ
  pub is : behind ≡ behind_of place
  pub storing : Storing s wanted place at

pub behind_begun : (s : List ℕ) (n : ℕ) → ContractPassed s → Behind s (2 + 65536 * n) 8 8
behind_begun s n C = record { place = None; is = refl; storing = begun_storing s n C }

pub behind_on : {s : List ℕ} {wanted behind at here r : ℕ} → Behind s wanted behind at → at < length s → here ≡ le 4 s (at + 4) → here % 65536 ≡ 2 → r ≡ pick (eqb here wanted) (at + storage_bytes) behind → Behind s wanted r (at + storage_bytes)
behind_on {wanted = wanted} {at = at} {here = here} B l e k q =
    by_test (eqb here wanted)
    (λ y. record { place = Some at; is = rw y at q; storing = stored_on B.storing l e k (rw y refl) })
    (λ y. record { place = B.place; is = rw y at q ∙ B.is; storing = stored_on B.storing l e k (rw y refl) })

pub all_behind : {s : List ℕ} {behind at : ℕ} (n : ℕ) → Behind s (2 + 65536 * n) behind at → length s ≤ at → BehindLast s n behind
all_behind n B h = (B.place, B.is, all_stored n B.storing h)

pub past_behind : {s : List ℕ} {behind at here : ℕ} (n : ℕ) → Behind s (2 + 65536 * n) behind at → at < length s → here ≡ le 4 s (at + 4) → (here % 65536 ≡ 2 → ⊥) → BehindLast s n behind
past_behind n B l e k = (B.place, B.is, past_stored n B.storing l e k)

pub last_behind : {s : List ℕ} {behind at here r : ℕ} (n : ℕ) → Behind s (2 + 65536 * n) behind at → at < length s → length s ≤ at + storage_bytes → here ≡ le 4 s (at + 4) → r ≡ pick (eqb here (2 + 65536 * n)) (at + storage_bytes) behind → BehindLast s n r
last_behind {at = at} {here = here} n B l h e q =
    by_test (eqb here (2 + 65536 * n))
    (λ y. (Some at, rw y at q, last_stored {r = Some at} n B.storing l h e (rw y refl)))
    (λ y. (B.place, rw y at q ∙ B.is, last_stored {r = B.place} n B.storing l h e (rw y refl)))

pub none_behind : (s : List ℕ) (n : ℕ) → ContractPassed s → length s < 8 + storage_bytes → BehindLast s n 8
none_behind s n C h = (None, refl, none_stored s n C h)

-- the field before it
pub no_field : {b : ℕ} (p : Maybe ℕ) → b ≡ behind_of p → b ≡ 8 → p ≡ None
no_field (Some p) e q = absurd (omega (arith, e, q))
no_field None e q = refl

pub field_before : {b : ℕ} (p : Maybe ℕ) → b ≡ behind_of p → (b ≡ 8 → ⊥) → p ≡ Some (b - storage_bytes)
field_before (Some p) e q = ap Some (omega (arith, e))
field_before None e q = absurd (q e)

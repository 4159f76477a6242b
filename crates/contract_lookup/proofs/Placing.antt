-- The places of the contract's structs or of its functions: the walk that stores them, the last of a name among them, and what that is in
-- the contract. Assumes nothing.
use mathlib.Core.Path.{◌≡◌, refl, ap, sym, ◌∙◌, subst}
use mathlib.Core.List.{List, [], ◌∷◌, ◌++◌, map, append-nil, map-append}
use mathlib.Core.Bool.{Bool, true, false}
use mathlib.Core.Option.{none, some}
use Prim.Native.Nat.{ℕ, zero, suc, ◌+◌, ◌-◌, ◌≤◌, ◌<◌}
use native.Mathlib.Omega.{arith}
use lib.Dec.{eqb, leb}
use lib.ListN.{get_or-append, length, get_or, drop, length-append, length-map}
use lib.Seq.{get_or-append_seam, append_snoc}
use borrow.Author.Count.{below_none, below_more}
use borrow.Author.Tests.{eqb-true, eqb-false, leb-true, leb-false}
use Rattle.definitions.specs.Ast.{Function}
use Rattle.definitions.specs.Fields.{le}
use Rattle.definitions.specs.Names.{last_named}
use Rattle.definitions.specs.Records.{Tree, read_records, gather}
use Rattle.definitions.specs.ContractSheet.{struct_of, function_of, read_contract}
use Rattle.definitions.proofs.Results.{by_test, some_none}
use Rattle.definitions.proofs.Contracts.Limits.{TopKind, storage, struct, function, most_of}
use Rattle.sheet.specs.Passed.{ContractPassed, record_kind, stop_of}
use Rattle.contract_nodes.specs.Ready.{tree_at}
use Rattle.contract_nodes.proofs.Order.{none_after}
use Rattle.contract_nodes.proofs.Tops.{Tops, Top, next_top, contract_at}
use Rattle.contract_lookup.specs.Answers.{nth, tree_name, records_of, last_of}
use Rattle.contract_lookup.specs.Listed.{Named, placed, place_of, Listed, LastAt}
use Rattle.contract_lookup.proofs.Backwards.{last_here, last_not}
use Rattle.contract_lookup.proofs.Lasts.{gather_map, these, these_all, these_end, these_here, these_past, all_few}
use Rattle.std.specs.Prelude.{None, Some}
use Rattle.contract_nodes.proofs.Standing.{stands}

-- THE WALK: the places are those of the records of the kind before `at`
pub record Listing (s : List ℕ) (kind : ℕ) (places : List ℕ) (at : ℕ) : Type 0 where
  pub tops : Tops s at
  pub low : 8 ≤ at
  pub few : length places ≤ 64
  pub are : placed s places ++ these s kind at ≡ records_of s kind
  pub named : (i : ℕ) → i < length places → Named s kind (get_or places i 0)

pub begun : {s : List ℕ} (kind : ℕ) → ContractPassed s → Listing s kind [] 8
begun kind C = record {
  tops = (contract_at C).tops;
  low = omega arith;
  few = omega arith;
  are = these_all kind C;
  named = below_none _;
}

-- the places of the records that stand at places
places_back : (s ps : List ℕ) → map place_of (map (tree_at s) ps) ≡ ps
places_back s [] = refl
places_back s (p ∷ ps) = ap (λ (qs : List ℕ). p ∷ qs) (places_back s ps)

module _ {s : List ℕ} {kind : ℕ} {places : List ℕ} {at : ℕ} (W : Listing s kind places at) where
  none_left : these s kind at ≡ [] → Listed s kind places
  none_left e = (
    W.few,
    sym (places_back s places) ∙ ap (map place_of) (sym (append-nil _) ∙ (ap (λ (ts : List Tree). placed s places ++ ts) (sym e) ∙ W.are)),
    W.named,
  )

  pub listed : length s ≤ at → Listed s kind places
  listed h = none_left (these_end kind W.tops h)

  module _ (l : at < length s) where
    pub top_at : Top s at W.tops
    top_at = next_top W.tops l

    -- none of the kind comes after a record of a higher kind
    pub stopped : kind < record_kind s at → Listed s kind places
    stopped h = none_left (none_after s kind (λ (t : Tree). t) W.tops l h)

    pub other_kind : (record_kind s at ≡ kind → ⊥) → Listing s kind places (stop_of s at)
    other_kind h = record {
      tops = top_at.next;
      low = omega (arith, W.low, top_at.long);
      few = W.few;
      are = ap (λ (ts : List Tree). placed s places ++ ts) (sym (these_past kind top_at h)) ∙ W.are;
      named = W.named;
    }

    module _ (e : record_kind s at ≡ kind) where
      with_this : placed s places ++ tree_at s at ∷ these s kind (stop_of s at) ≡ records_of s kind
      with_this = ap (λ (ts : List Tree). placed s places ++ ts) (sym (these_here kind top_at e)) ∙ W.are

      -- there is room for one more
      pub room : ContractPassed s → 3 ≤ kind → length places < 64
      room C h =
          let K : TopKind kind = subst TopKind e top_at.kind in
          omega (arith, all_few C K, most_is K h, simp (length-append, length-map) at (ap length with_this))
        where
          most_is : {k : ℕ} → TopKind k → 3 ≤ k → most_of k ≡ 64
          most_is storage h = absurd (omega arith)
          most_is struct h = refl
          most_is function h = refl

      pub this_kind : length places < 64 → Listing s kind (places ++ at ∷ []) (stop_of s at)
      this_kind h = record {
        tops = top_at.next;
        low = omega (arith, W.low, top_at.long);
        few = rw length-append (omega (arith, h));
        are = rw (map-append, append_snoc) with_this;
        named = λ i b. below_more (λ j. Named s kind (get_or (places ++ at ∷ []) j 0)) (length places)
            (λ j k. rw (get_or-append places (at ∷ []) 0 j k) (W.named j k))
            (rw (get_or-append_seam places at [] 0) (stands (top_at.ready e), omega (arith, top_at.long, top_at.inside), top_at.name))
            i (omega (arith, b, length-append places (at ∷ [])));
      }

-- the records of a kind are those that stand at their places
module _ (s : List ℕ) (kind : ℕ) where
  abbrev Again : ℕ → Type 0
  Again at = map (λ (t : Tree). tree_at s (place_of t)) (these s kind at) ≡ these s kind at

  again_here : {at : ℕ} {T : Tops s at} → Top s at T → Again (stop_of s at) → Again at
  again_here {at} P e =
      by_test (eqb (record_kind s at) kind)
      (λ q. let z = these_here kind P (eqb-true _ kind q) in rw z (ap (λ (ts : List Tree). tree_at s at ∷ ts) e))
      (λ q. let z = these_past kind P (eqb-false _ kind q) in rw z e)

  again_from : (n at : ℕ) (T : Tops s at) → length s - at < n → Again at
  again_from zero at T h = absurd (omega (arith, h))
  again_from (suc n) at T h = go (leb (length s) at) refl (λ P. again_from n (stop_of s at) P.next (omega (arith, h, P.long, P.inside)))
    where
      go : (x : Bool) → leb (length s) at ≡ x → ((P : Top s at T) → Again (stop_of s at)) → Again at
      go true e more = rw (these_end kind T (leb-true (length s) at e))
      go false e more = let P : Top s at T = next_top T (leb-false (length s) at e) in again_here P (more P)

  pub again : ContractPassed s → map (λ (t : Tree). tree_at s (place_of t)) (records_of s kind) ≡ records_of s kind
  again C = rw (← these_all kind C) (again_from (suc (length s)) 8 (contract_at C).tops (omega arith))

over_places : (s : List ℕ) (ts : List Tree) → map (tree_at s) (map place_of ts) ≡ map (λ (t : Tree). tree_at s (place_of t)) ts
over_places s [] = refl
over_places s (t ∷ ts) = ap (λ (us : List Tree). tree_at s (place_of t) ∷ us) (over_places s ts)

-- they are the records of the kind
pub placed_are : {s : List ℕ} (places : List ℕ) (kind : ℕ) → ContractPassed s → Listed s kind places → placed s places ≡ records_of s kind
placed_are {s} places kind C L = ap (map (tree_at s)) L.1 ∙ (over_places s (records_of s kind) ∙ again s kind C)

-- THE SEARCH, from the last place on: the places that are left give what all of them give
pub record Left (s places : List ℕ) (n : ℕ) (left : List ℕ) : Type 0 where
  pub behind : List ℕ
  pub whole : left ++ behind ≡ places
  pub is : last_named tree_name 0 (map (tree_at s) left) n ≡ last_named tree_name 0 (placed s places) n

module _ {s places : List ℕ} (kind : ℕ) {n : ℕ} {left : List ℕ} (C : ContractPassed s) (L : Listed s kind places) (W : Left s places n left) where
  gives : last_named tree_name 0 (map (tree_at s) left) n ≡ last_of s kind n
  gives = W.is ∙ ap (λ (ts : List Tree). last_named tree_name 0 ts n) (placed_are places kind C L)

  -- nothing is left
  pub none_there : left ≡ [] → LastAt s kind n None
  none_there e = sym (sym (ap (λ (ps : List ℕ). last_named tree_name 0 (map (tree_at s) ps) n) e) ∙ gives)

  module _ (before : List ℕ) (p : ℕ) (e : left ≡ before ++ p ∷ []) where
    whole : before ++ p ∷ W.behind ≡ places
    whole = sym (append_snoc before p W.behind) ∙ (ap (λ (ps : List ℕ). ps ++ W.behind) (sym e) ∙ W.whole)

    here : Named s kind p
    here =
        let g : get_or places (length before) 0 ≡ p = ap (λ (ps : List ℕ). get_or ps (length before) 0) (sym whole) ∙ get_or-append_seam before p W.behind 0 in
        let l : length before < length places = omega (arith, sym (ap length whole) ∙ length-append before (p ∷ W.behind)) in
        subst (Named s kind) g (L.2 (length before) l)

    apart : map (tree_at s) left ≡ map (tree_at s) before ++ tree_at s p ∷ []
    apart = ap (map (tree_at s)) e ∙ map-append (tree_at s) before (p ∷ [])

    pub hit : le 2 s (p + 6) ≡ n → LastAt s kind n (Some p)
    hit q = (0 + length (map (tree_at s) before), sym (sym (last_here tree_name (tree_at s p) n (here.2 ∙ q) 0 (map (tree_at s) before)) ∙ (ap (λ (ts : List Tree). last_named tree_name 0 ts n) (sym apart) ∙ gives)), here.0)

    pub miss : (le 2 s (p + 6) ≡ n → ⊥) → Left s places n before
    miss q = record {
      behind = p ∷ W.behind;
      whole = whole;
      is = sym (last_not tree_name (tree_at s p) n (λ z. q (sym here.2 ∙ z)) 0 (map (tree_at s) before)) ∙ (ap (λ (ts : List Tree). last_named tree_name 0 ts n) (sym apart) ∙ W.is);
    }

-- THE i-TH of a list
nth_past : {A : Type 0} (xs : List A) (i : ℕ) → length xs ≤ i → nth xs i ≡ none
nth_past [] i h = refl
nth_past (x ∷ xs) zero h = absurd (omega (arith, h))
nth_past (x ∷ xs) (suc i) h = nth_past xs i (omega (arith, h))

-- the functions from the i-th on, by what stands there
pub none_from : (fs : List Function) (i : ℕ) → none ≡ nth fs i → drop i fs ≡ []
none_from [] zero e = refl
none_from [] (suc i) e = refl
none_from (f ∷ fs) zero e = absurd (some_none f (sym e))
none_from (f ∷ fs) (suc i) e = none_from fs i e

pub here_from : (fs : List Function) (i : ℕ) {g : Function} → some g ≡ nth fs i → drop i fs ≡ g ∷ drop (suc i) fs
here_from [] i e = absurd (some_none _ e)
here_from (f ∷ fs) zero {g} e = let q : f ≡ g = cc in ap (λ h. h ∷ fs) q
here_from (f ∷ fs) (suc i) e = here_from fs i e

-- THE STRUCTS AND THE FUNCTIONS: `all` is what the trees at the places are read as
module _ {A : Type 0} (s : List ℕ) (of : Tree → A) where
  nth_placed : (ps : List ℕ) (i : ℕ) → i < length ps → nth (map of (map (tree_at s) ps)) i ≡ some (of (tree_at s (get_or ps i 0)))
  nth_placed [] i h = absurd (omega (arith, h))
  nth_placed (p ∷ ps) zero h = refl
  nth_placed (p ∷ ps) (suc i) h = nth_placed ps i (omega (arith, h))

  module _ (places : List ℕ) {all : List A} (are : all ≡ map of (placed s places)) where
    pub count_is : length places ≡ length all
    count_is = sym (rw (are, length-map, length-map) refl)

    pub no_nth : {i : ℕ} → length places ≤ i → none ≡ nth all i
    no_nth {i} h = sym (nth_past all i (omega (arith, h, count_is)))

    pub nth_there : {i : ℕ} → i < length places → some (of (tree_at s (get_or places i 0))) ≡ nth all i
    nth_there {i} h = sym (ap (λ xs. nth xs i) are ∙ nth_placed places i h)

module _ {s : List ℕ} (places : List ℕ) (C : ContractPassed s) where
  all_are : {A : Type 0} (kind : ℕ) (of : Tree → A) {all : List A} → all ≡ gather kind kind of (read_records s 8 (length s)) → Listed s kind places → all ≡ map of (placed s places)
  all_are kind of e L = e ∙ (gather_map kind of (read_records s 8 (length s)) ∙ ap (map of) (these_all kind C ∙ sym (placed_are places kind C L)))

  pub structs_are : Listed s 3 places → (read_contract s).structs ≡ map struct_of (placed s places)
  structs_are L = all_are 3 struct_of (contract_at C).structs L

  pub functions_are : Listed s 4 places → (read_contract s).functions ≡ map function_of (placed s places)
  functions_are L = all_are 4 function_of (contract_at C).functions L

-- The last record of a name: what is left to walk, with what was found so far, gives what the whole gives; and a table made of the
-- records is searched as the records are. Assumes nothing.
use mathlib.Core.Path.{◌≡◌, refl, ap, sym, ◌∙◌, subst}
use mathlib.Core.Bool.{Bool, true, false}
use mathlib.Core.List.{List, [], ◌∷◌, map}
use mathlib.Core.Option.{Option, none, some}
use Prim.Native.Nat.{ℕ, suc, ◌+◌, ◌≤◌, ◌<◌}
use native.Mathlib.Numerals.{add-one}
use native.Mathlib.Omega.{arith}
use lib.Dec.{leb, eqb}
use lib.ListN.{length}
use borrow.Author.Tests.{eqb-true, eqb-false, eq-eqb, ne_eqb}
use Rattle.definitions.specs.Fields.{le}
use Rattle.definitions.specs.Names.{or_this, last_named}
use Rattle.definitions.specs.Records.{pick, Tree, Trees, tnil, tcons, read_records, kind_in, gather}
use Rattle.definitions.proofs.Results.{some_none, last_below}
use Rattle.definitions.proofs.Sheets.Passed.{read_end}
use Rattle.definitions.proofs.Sheets.Steps.{low}
use Rattle.sheet.specs.Passed.{record_kind, stop_of}
use Rattle.contract_nodes.specs.Ready.{tree_at}
use Rattle.sheet.specs.Passed.{ContractPassed}
use Rattle.definitions.proofs.Contracts.Limits.{TopKind, most_of, gather_here, gather_past}
use Rattle.contract_nodes.proofs.Order.{none_after}
use Rattle.contract_nodes.proofs.Tops.{Tops, Top, next_top, ContractAt, contract_at, at_most}
use Rattle.std.specs.Prelude.{Option as Maybe, None, Some}
use Rattle.contract_nodes.proofs.Standing.{stands}
use Rattle.contract_lookup.specs.declared.symbols.Found.{Found}
use Rattle.contract_lookup.specs.Answers.{found_in, StandsAt, tree_name, records_of, last_of}

abbrev pub at_place : (position at : ℕ) → Maybe Found
at_place i p = Some (record { position = i; at = p })

-- what a later record gave, or else what the earlier ones gave
abbrev pub or_earlier : Maybe Found → Maybe Found → Maybe Found
or_earlier (Some f) e = Some f
or_earlier None e = e

-- the records of a kind from a place on
abbrev pub these : List ℕ → (kind at : ℕ) → List Tree
these s kind at = gather kind kind (λ (t : Tree). t) (read_records s at (length s))

pub these_all : {s : List ℕ} (kind : ℕ) → ContractPassed s → these s kind 8 ≡ records_of s kind
these_all kind C = ap (gather kind kind (λ (t : Tree). t)) (sym (contract_at C).children)

pub these_end : {s : List ℕ} {at : ℕ} (kind : ℕ) → Tops s at → length s ≤ at → these s kind at ≡ []
these_end {s} {at} kind T h = let e : at ≡ length s = omega (arith, low T.fine) in rw (e, read_end s (length s))

module _ {s : List ℕ} {at : ℕ} {T : Tops s at} (kind : ℕ) (P : Top s at T) where
  pub these_here : record_kind s at ≡ kind → these s kind at ≡ tree_at s at ∷ these s kind (stop_of s at)
  these_here e = ap (gather kind kind (λ (t : Tree). t)) P.read ∙ gather_here kind (λ (t : Tree). t) (tree_at s at) (read_records s (stop_of s at) (length s)) e

  pub these_past : (record_kind s at ≡ kind → ⊥) → these s kind at ≡ these s kind (stop_of s at)
  these_past h = ap (gather kind kind (λ (t : Tree). t)) P.read ∙ gather_past kind (λ (t : Tree). t) (tree_at s at) (read_records s (stop_of s at) (length s)) h

abbrev pub or : {A : Type 0} → Option A → Option A → Option A
or (some a) o = some a
or none o = o

or_none : {A : Type 0} (o : Option A) → or o none ≡ o
or_none (some a) = refl
or_none none = refl

-- A NAME that was read, x, and compared with n by its number
module _ {is_n : Bool} {number read x n : ℕ} (is : is_n ≡ eqb number n) (new : number ≡ read) (at_place : read ≡ x) where
  pub same_name : is_n ≡ true → x ≡ n
  same_name t = sym at_place ∙ (sym new ∙ eqb-true number n (sym is ∙ t))

  pub other_name : is_n ≡ false → x ≡ n → ⊥
  other_name f z = eqb-false number n (sym is ∙ f) (new ∙ (at_place ∙ z))

-- THE KIND that stands at a place, and the one that is wanted, by the numbers that the code compares
module _ {here wanted stands kind : ℕ} (read : here ≡ stands) (from : wanted ≡ kind) where
  pub kind_is : here ≡ wanted → stands ≡ kind
  kind_is e = sym read ∙ (e ∙ from)

  pub kind_not : (here ≡ wanted → ⊥) → stands ≡ kind → ⊥
  kind_not h z = h (read ∙ (z ∙ sym from))

  pub kind_past : wanted < here → kind < stands
  kind_past h = omega (arith, h, read, from)

-- `position` records of the kind came before `at`, and the last of them that has the name is f
pub record Walking (s : List ℕ) (kind n : ℕ) (f : Maybe Found) (position at : ℕ) : Type 0 where
  pub tops : Tops s at
  pub low : position + 8 ≤ at
  pub is : or (last_named tree_name position (these s kind at) n) (found_in s f) ≡ last_of s kind n
  pub placed : StandsAt s kind f

pub begun : (s : List ℕ) (kind n : ℕ) → ContractPassed s → Walking s kind n None 0 8
begun s kind n C =
    let D : ContractAt s = contract_at C in
    record {
      tops = D.tops;
      low = omega arith;
      is = or_none _ ∙ ap (λ (ts : List Tree). last_named tree_name 0 ts n) (these_all kind C);
      placed = tt;
    }

none_left : {s : List ℕ} {kind n position at : ℕ} {f : Maybe Found} → Walking s kind n f position at → these s kind at ≡ [] → (found_in s f ≡ last_of s kind n) × StandsAt s kind f
none_left {s} {kind} {n} {position} {at} {f} W e = (sym (ap (λ (ts : List Tree). or (last_named tree_name position ts n) (found_in s f)) e) ∙ W.is, W.placed)

pub walked : {s : List ℕ} {kind n position at : ℕ} {f : Maybe Found} → Walking s kind n f position at → length s ≤ at
    → (found_in s f ≡ last_of s kind n) × StandsAt s kind f
walked {kind = kind} W h = none_left W (these_end kind W.tops h)

-- a record of a higher kind: none of the kind comes after it
pub stopped : {s : List ℕ} {kind n position at : ℕ} {f : Maybe Found} → Walking s kind n f position at → at < length s → kind < record_kind s at
    → (found_in s f ≡ last_of s kind n) × StandsAt s kind f
stopped {s} {kind} W l h = none_left W (none_after s kind (λ (t : Tree). t) W.tops l h)

pub top_at : {s : List ℕ} {kind n position at : ℕ} {f : Maybe Found} (W : Walking s kind n f position at) → at < length s → Top s at W.tops
top_at W l = next_top W.tops l

-- the record at `at` has the name, or is nothing
abbrev pub ThisIs : List ℕ → (n position at : ℕ) → Maybe Found → Type 0
ThisIs s n position at this = found_in s this ≡ pick (eqb (le 2 s (at + 6)) n) (some (position, tree_at s at)) none

later_first : (s : List ℕ) (o : Option (ℕ × Tree)) (b : Bool) (x : ℕ × Tree) (this f : Maybe Found) → found_in s this ≡ pick b (some x) none → or o (found_in s (or_earlier this f)) ≡ or (or_this o b x) (found_in s f)
later_first s (some y) b x this f e = refl
later_first s none true x (Some g) f e = e
later_first s none true x None f e = absurd (some_none x (sym e))
later_first s none false x (Some g) f e = absurd (some_none _ e)
later_first s none false x None f e = refl

placed_first : (s : List ℕ) (kind : ℕ) (this f : Maybe Found) → StandsAt s kind this → StandsAt s kind f → StandsAt s kind (or_earlier this f)
placed_first s kind (Some g) f a b = a
placed_first s kind None f a b = b

module _ {s : List ℕ} {kind n position at : ℕ} {f : Maybe Found} (W : Walking s kind n f position at) (l : at < length s) where
  abbrev P : Top s at W.tops
  P = top_at W l

  pub other_kind : (record_kind s at ≡ kind → ⊥) → Walking s kind n f position (stop_of s at)
  other_kind h = record {
    tops = P.next;
    low = omega (arith, W.low, P.long);
    is = ap (λ (ts : List Tree). or (last_named tree_name position ts n) (found_in s f)) (sym (these_past kind P h)) ∙ W.is;
    placed = W.placed;
  }

  -- what the record at `at` gives: itself, if it has the name
  pub has_name : {this : Maybe Found} → record_kind s at ≡ kind → le 2 s (at + 6) ≡ n → this ≡ at_place position at → ThisIs s n position at this × StandsAt s kind this
  has_name {this} e q u = rw u (rw (eq-eqb (le 2 s (at + 6)) n q), stands (P.ready e))

  pub has_not : {this : Maybe Found} → (le 2 s (at + 6) ≡ n → ⊥) → this ≡ None → ThisIs s n position at this × StandsAt s kind this
  has_not {this} q u = rw u (rw (ne_eqb (le 2 s (at + 6)) n q), tt)

  pub this_kind : (this : Maybe Found) → record_kind s at ≡ kind → ThisIs s n position at this × StandsAt s kind this → Walking s kind n (or_earlier this f) (position + 1) (stop_of s at)
  this_kind this e t =
      let o : Option (ℕ × Tree) = last_named tree_name (suc position) (these s kind (stop_of s at)) n in
      let b : Bool = eqb (le 2 s (at + 6)) n in
      record {
        tops = P.next;
        low = omega (arith, W.low, P.long);
        is = rw add-one (later_first s o b (position, tree_at s at) this f t.0 ∙ (ap (λ (x : ℕ). or (or_this o (eqb x n) (position, tree_at s at)) (found_in s f)) (sym P.name) ∙ (ap (λ (ts : List Tree). or (last_named tree_name position ts n) (found_in s f)) (sym (these_here kind P e)) ∙ W.is)));
        placed = placed_first s kind this f t.1 W.placed;
      }

-- the same by other names
pub moved : {s : List ℕ} {kind n position position' at : ℕ} {f f' : Maybe Found} → f' ≡ f → position' ≡ position → Walking s kind n f position at → Walking s kind n f' position' at
moved {s} {kind} {n} {position} {position'} {at} {f} {f'} e q W = subst (λ (x : Maybe Found). Walking s kind n x position' at) (sym e) (subst (λ (x : ℕ). Walking s kind n f x at) (sym q) W)

-- A TABLE made of the records of a kind, searched by name
abbrev pub over_second : {A : Type 0} → (Tree → A) → Option (ℕ × Tree) → Option (ℕ × A)
over_second f none = none
over_second f (some p) = some (p.0, f p.1)

pub gather_map : {A : Type 0} (k : ℕ) (f : Tree → A) (ts : Trees) → gather k k f ts ≡ map f (gather k k (λ (t : Tree). t) ts)
gather_map k f tnil = refl
gather_map k f (tcons t ts) = go (leb k (kind_in t)) (leb (kind_in t) k) (gather_map k f ts)
  where
    go : (x y : Bool) → gather k k f ts ≡ map f (gather k k (λ (u : Tree). u) ts)
        → pick x (pick y (f t ∷ gather k k f ts) (gather k k f ts)) (gather k k f ts) ≡ map f (pick x (pick y (t ∷ gather k k (λ (u : Tree). u) ts) (gather k k (λ (u : Tree). u) ts)) (gather k k (λ (u : Tree). u) ts))
    go true true e = rw e
    go true false e = e
    go false y e = e

last_map : {A : Type 0} (f : Tree → A) (name : A → ℕ) → ((t : Tree) → name (f t) ≡ tree_name t) → (i : ℕ) (ts : List Tree) (n : ℕ) → last_named name i (map f ts) n ≡ over_second f (last_named tree_name i ts n)
last_map f name h i [] n = refl
last_map {A} f name h i (t ∷ ts) n = rw (last_map f name h (suc i) ts n, h t) (go (last_named tree_name (suc i) ts n) (eqb (tree_name t) n))
  where
    go : (o : Option (ℕ × Tree)) (b : Bool) → or_this (over_second f o) b (i, f t) ≡ over_second f (or_this o b (i, t))
    go (some x) b = refl
    go none true = refl
    go none false = refl

-- what was found among the records is what is found in the table
pub in_table : {A : Type 0} {s : List ℕ} (k n : ℕ) (f : Tree → A) (name : A → ℕ) → ContractPassed s → ((t : Tree) → name (f t) ≡ tree_name t) → {l : List A} → l ≡ gather k k f (read_records s 8 (length s)) → {r : Option (ℕ × Tree)}
    → r ≡ last_of s k n → over_second f r ≡ last_named name 0 l n
in_table {A} {s} k n f name C h {l} e {r} q =
    ap (over_second f) (q ∙ ap (λ (ts : List Tree). last_named tree_name 0 ts n) (sym (these_all k C)))
    ∙ sym (ap (λ (x : List A). last_named name 0 x n) (e ∙ gather_map k f (read_records s 8 (length s))) ∙ last_map f name h 0 (these s k 8) n)

-- no more than there may be of the kind, and so a position is below
pub all_few : {s : List ℕ} {k : ℕ} → ContractPassed s → TopKind k → length (records_of s k) ≤ most_of k
all_few {s} {k} C K = rw (← these_all k C) (at_most (λ (t : Tree). t) C K)

pub position_low : {s : List ℕ} {k : ℕ} {x : ℕ × Tree} (n : ℕ) → ContractPassed s → TopKind k → some x ≡ last_of s k n → x.0 < most_of k
position_low {s} {k} {x} n C K q = omega (arith, last_below tree_name 0 (records_of s k) n x (sym q), all_few C K)

-- The newest of each chain, by heads and links: a lookup along the links finds what a walk over all bindings finds; a store keeps them right, and so does undoing
-- it. Assumes nothing.
use mathlib.Core.Path.{◌≡◌, refl, ap, sym, ◌∙◌, subst}
use mathlib.Core.List.{List, [], ◌∷◌, ◌++◌, append-nil}
use mathlib.Core.Option.{none, some}
use Prim.Native.Nat.{ℕ, zero, suc, ◌+◌, ◌-◌, ◌≤◌, ◌<◌}
use native.Mathlib.Numerals.{add-one}
use native.Mathlib.Omega.{arith}
use lib.ListN.{length, take, drop, get_or, set, replicate, length-set, length-append, length-replicate, get_or-replicate}
use lib.Seq.{get_or-set_same, get_or-set_other, get_or-append_seam, append_snoc}
use borrow.Rule.Slice.PartMut.{mid_len}
use Rattle.std.proofs.lemmas.List.{get_or-take, get_or-drop}
use borrow.Author.Tests.{eq-eqb, ne_eqb}
use Rattle.definitions.specs.Analyze.{Ty, Env, get}
use Rattle.definitions.proofs.Results.{by_eq}
use Rattle.analyze_env.specs.Types.{as_ty}
use Rattle.analyze_env.specs.Bindings.{no_link, blank, binding_at, position_of, env_of, chain_of, chain_at, newest, Known}
use Rattle.analyze_env.specs.declared.Link.{Link}
use Rattle.analyze_env.specs.declared.Binding.{Binding}
use Rattle.analyze_env.specs.Names.{Names, named, truncated}

-- THE NEWEST OF A CHAIN, of w chains
module _ (w : ℕ) (l : List Binding) (b : ℕ) where
  this_one : (k : ℕ) → chain_at w l k ≡ b → newest w l b (suc k) ≡ suc k
  unfolding newest
  this_one k q = rw (eq-eqb (chain_at w l k) b q)

  not_this : (k : ℕ) → (chain_at w l k ≡ b → ⊥) → newest w l b (suc k) ≡ newest w l b k
  unfolding newest
  not_this k q = rw (ne_eqb (chain_at w l k) b q)

  newest_low : (k : ℕ) → newest w l b k ≤ k
  unfolding newest
  newest_low zero = omega arith
  newest_low (suc k) = by_eq (chain_at w l k) b (λ q. omega (arith, this_one k q)) (λ u. omega (arith, not_this k u, newest_low k))

  newest_chain : (k : ℕ) → 0 < newest w l b k → chain_at w l (newest w l b k - 1) ≡ b
  unfolding newest
  newest_chain zero h = absurd (omega arith)
  newest_chain (suc k) h =
      by_eq (chain_at w l k) b
      (λ q. let e : newest w l b (suc k) - 1 ≡ k = omega (arith, this_one k q) in ap (chain_at w l) e ∙ q)
      (λ u. ap (λ i. chain_at w l (i - 1)) (not_this k u) ∙ newest_chain k (omega (arith, not_this k u)))

-- A LINK
is_next : (n : ℕ) {i : ℕ} → some i ≡ position_of n → n ≡ i + 1
is_next zero e = absurd cc
is_next (suc n) {i} e = let q : i ≡ n = cc in omega arith

is_none : (n : ℕ) → none ≡ position_of n → n ≡ 0
is_none zero e = refl
is_none (suc n) e = absurd cc

-- LOOKING A NAME UP
module _ (l : List Binding) (n : ℕ) where
  this_name : (k : ℕ) → (binding_at l k).name.0 ≡ n → some (as_ty (binding_at l k).ty) ≡ get n (env_of l (suc k))
  unfolding env_of
  this_name k q = rw (eq-eqb ((binding_at l k).name.0) n q, get)

  other_name : (k : ℕ) → ((binding_at l k).name.0 ≡ n → ⊥) → get n (env_of l (suc k)) ≡ get n (env_of l k)
  unfolding env_of
  other_name k u = rw (ne_eqb ((binding_at l k).name.0) n u, get)

  no_name : none ≡ get n (env_of l 0)
  unfolding env_of
  no_name = refl

  newest_get : (w k : ℕ) → get n (env_of l (newest w l (chain_of w n) k)) ≡ get n (env_of l k)
  unfolding newest
  newest_get w zero = refl
  newest_get w (suc k) =
      by_eq (chain_at w l k) (chain_of w n)
      (λ q. ap (λ i. get n (env_of l i)) (this_one w l (chain_of w n) k q))
      (λ u. ap (λ i. get n (env_of l i)) (not_this w l (chain_of w n) k u) ∙ (newest_get w k ∙ sym (other_name k (λ e. u (ap (chain_of w) e)))))

-- what is left below i gives what all bindings give, and i is a binding of the name's chain
pub record Looking (w : ℕ) (l : List Binding) (count n i : ℕ) : Type 0 where
  pub low : i ≤ count
  pub chain : 0 < i → chain_at w l (i - 1) ≡ chain_of w n
  pub same : get n (env_of l i) ≡ get n (env_of l count)

at_newest : (w : ℕ) (l : List Binding) (count n k : ℕ) → k ≤ count → get n (env_of l k) ≡ get n (env_of l count) → Looking w l count n (newest w l (chain_of w n) k)
at_newest w l count n k h e = record {
  low = omega (arith, newest_low w l (chain_of w n) k);
  chain = newest_chain w l (chain_of w n) k;
  same = newest_get l n w k ∙ e;
}

pub begun : {l : List Binding} {heads : List Link} {count b n : ℕ} → Known l heads count → (b ≡ chain_of (length heads) n) × (b < length heads) → Looking (length heads) l count n (get_or heads b no_link).0
begun {l} {heads} {count} {b} {n} K (of, in_reach) = rw (K.head b in_reach, of) (at_newest (length heads) l count n count (omega arith) refl)

pub none_left : {w : ℕ} {l : List Binding} {count n i : ℕ} → Looking w l count n i → none ≡ position_of i → none ≡ get n (env_of l count)
none_left {w} {l} {count} {n} {i} G h = let e : i ≡ 0 = is_none i h in no_name l n ∙ rw e at G.same

-- a link that is i + 1
module _ {l : List Binding} {heads : List Link} {count n m i : ℕ} (K : Known l heads count) (G : Looking (length heads) l count n m) (to : some i ≡ position_of m) where
  next : m ≡ i + 1
  next = is_next m to

  same_here : get n (env_of l (suc i)) ≡ get n (env_of l count)
  same_here = let e : suc i ≡ m = omega (arith, next) in rw e G.same

  pub hit : (binding_at l i).name.0 ≡ n → some (as_ty (binding_at l i).ty) ≡ get n (env_of l count)
  hit q = this_name l n i q ∙ same_here

  linked_to : (binding_at l i).link.0 ≡ newest (length heads) l (chain_of (length heads) n) i
  linked_to =
      let e : m - 1 ≡ i = omega (arith, next) in
      K.link i (omega (arith, G.low, next)) ∙ ap (λ b. newest (length heads) l b i) (rw e at G.chain (omega (arith, next)))

  pub falls : (binding_at l i).link.0 < m
  falls = omega (arith, next, linked_to, newest_low (length heads) l (chain_of (length heads) n) i)

  pub miss : ((binding_at l i).name.0 ≡ n → ⊥) → Looking (length heads) l count n (binding_at l i).link.0
  miss u = rw linked_to (at_newest (length heads) l count n i (omega (arith, G.low, next)) (sym (other_name l n i u) ∙ same_here))

-- A STORE: bindings below its place do not see it
module _ (l : List Binding) (n : ℕ) (e : Binding) where
  below_set : (i : ℕ) → i < n → binding_at (set l n e) i ≡ binding_at l i
  below_set i h = get_or-set_other l n i e blank (λ q. omega arith)

  env_set : (k : ℕ) → k ≤ n → env_of (set l n e) k ≡ env_of l k
  unfolding env_of
  env_set zero h = refl
  env_set (suc k) h = rw (below_set k (omega arith), env_set k (omega arith))

  newest_set : (w b k : ℕ) → k ≤ n → newest w (set l n e) b k ≡ newest w l b k
  unfolding newest
  newest_set w b zero h = refl
  newest_set w b (suc k) h = rw (below_set k (omega arith), newest_set w b k (omega arith))

-- heads that are right but for b are right with what is right for b stored there
stored : (heads : List Link) (b : ℕ) (v : Link) (right : ℕ → ℕ) → v.0 ≡ right b → ((i : ℕ) → i < length heads → (i ≡ b → ⊥) → (get_or heads i no_link).0 ≡ right i)
    → (i : ℕ) → i < length heads → (get_or (set heads b v) i no_link).0 ≡ right i
stored heads b v right at_b others i h =
    by_eq i b
    (λ q. rw q (ap (λ (x : Link). x.0) (get_or-set_same heads b v no_link (omega arith)) ∙ at_b))
    (λ u. ap (λ (x : Link). x.0) (get_or-set_other heads b i v no_link u) ∙ others i h u)

-- ONE MORE: what was known before is known as it was
module _ {l : List Binding} {heads : List Link} {n name : ℕ} {t : Ty} {b : ℕ} (e : Binding) (to : Link) (K : Known l heads n) (room : n < length l)
    (chain-is : (b ≡ chain_of (length heads) name) × (b < length heads)) (binding-is : (e.name.0 ≡ name) × (e.link.0 ≡ (get_or heads b no_link).0) × (as_ty e.ty ≡ t)) (to-is : to.0 ≡ n + 1) where
  here : binding_at (set l n e) n ≡ e
  here = get_or-set_same l n e blank room

  chain_here : chain_at (length heads) (set l n e) n ≡ b
  chain_here = rw (here, binding-is.0) (sym chain-is.0)

  head_after : (i : ℕ) → i < length heads → (get_or (set heads b to) i no_link).0 ≡ newest (length heads) (set l n e) i (n + 1)
  head_after =
      stored heads b to (λ i. newest (length heads) (set l n e) i (n + 1))
      (rw (to-is, add-one) (sym (this_one (length heads) (set l n e) b n chain_here)))
      (λ i h u. rw add-one (K.head i h ∙ sym (not_this (length heads) (set l n e) i n (λ q. u (sym q ∙ chain_here)) ∙ newest_set l n e (length heads) i n (omega arith))))

  link_after : (i : ℕ) → i < n + 1 → (binding_at (set l n e) i).link.0 ≡ newest (length heads) (set l n e) (chain_at (length heads) (set l n e) i) i
  link_after i h =
      by_eq i n
      (λ q. rw (q, chain_here, newest_set l n e (length heads) b n (omega arith), here) (binding-is.1 ∙ K.head b chain-is.1))
      (λ u.
      let v : i < n = omega arith in
      rw (below_set l n e i v, newest_set l n e (length heads) (chain_at (length heads) l i) i (omega arith)) (K.link i v))

  pub one_more : Known (set l n e) (set heads b to) (n + 1)
  one_more = record {
    room = rw length-set (omega arith);
    short = rw length-set K.short;
    wide = rw length-set K.wide;
    head = simp length-set head_after;
    link = simp length-set link_after;
  }

  pub one_named : {v : Names} → record { names = env_of l n; room = length l } ≡ v → record { names = env_of (set l n e) (n + 1); room = length (set l n e) } ≡ named name t v
  unfolding env_of
  one_named view-is = rw (← view-is, length-set, add-one, here, binding-is.0, binding-is.2, env_set l n e n (omega arith))

-- ONE LESS
module _ {l : List Binding} {heads : List Link} {n b : ℕ} {e : Binding} (K : Known l heads (suc n)) (here : binding_at l n ≡ e) (chain-is : (b ≡ chain_of (length heads) e.name.0) × (b < length heads)) where
  its_chain : chain_at (length heads) l n ≡ b
  its_chain = ap (λ (x : Binding). chain_of (length heads) x.name.0) here ∙ sym chain-is.0

  head_before : (i : ℕ) → i < length heads → (get_or (set heads b e.link) i no_link).0 ≡ newest (length heads) l i n
  head_before =
      stored heads b e.link (λ i. newest (length heads) l i n)
      (sym (ap (λ (x : Binding). x.link.0) here) ∙ (K.link n (omega arith) ∙ ap (λ i. newest (length heads) l i n) its_chain))
      (λ i g u. K.head i g ∙ not_this (length heads) l i n (λ q. u (sym q ∙ its_chain)))

  dropped : Known l (set heads b e.link) n
  dropped = record {
    room = omega (arith, K.room);
    short = K.short;
    wide = rw length-set K.wide;
    head = simp length-set head_before;
    link = simp length-set (λ i g. K.link i (omega arith));
  }

-- UNDOING, of the bindings behind the first m: as many of them are known as are left
pub record Undoing (m : ℕ) (going left : List Binding) (initial heads : List Link) : Type 0 where
  pub behind : List Binding
  pub whole : left ++ behind ≡ going
  pub known : (l : List Binding) → ((i : ℕ) → i < length going → binding_at l (m + i) ≡ get_or going i blank) → Known l initial (m + length going) → Known l heads (m + length left)

pub all_left : (m : ℕ) (going : List Binding) (heads : List Link) → Undoing m going going heads heads
all_left m going heads = record { behind = []; whole = append-nil going; known = λ l same K. K }

module _ {m : ℕ} {going left : List Binding} {initial heads : List Link} (U : Undoing m going left initial heads) where
  pub newest_undone : (before : List Binding) (e : Binding) {b : ℕ} → left ≡ before ++ e ∷ [] → (b ≡ chain_of (length heads) e.name.0) × (b < length heads)
      → Undoing m going before initial (set heads b e.link)
  newest_undone before e left-is chain-is =
      let whole : before ++ e ∷ U.behind ≡ going = sym (append_snoc before e U.behind) ∙ (ap (λ (es : List Binding). es ++ U.behind) (sym left-is) ∙ U.whole) in
      let at : get_or going (length before) blank ≡ e = ap (λ (es : List Binding). get_or es (length before) blank) (sym whole) ∙ get_or-append_seam before e U.behind blank in
      let low : length before < length going = omega (arith, sym (ap length whole) ∙ length-append before (e ∷ U.behind)) in
      let more : m + length left ≡ suc (m + length before) = omega (arith, ap length left-is ∙ length-append before (e ∷ [])) in
      record {
        behind = e ∷ U.behind;
        whole = whole;
        known = λ l same K. dropped (subst (Known l heads) more (U.known l same K)) (same (length before) low ∙ at) chain-is;
      }

  pub all_undone : {l : List Binding} {n : ℕ} → Known l initial n → m ≤ n → going ≡ take (n - m) (drop m l) → length left ≡ 0 → Known l heads m
  all_undone {l} {n} K h is end =
      let long : m + length going ≡ n = omega (arith, ap length is ∙ mid_len m n l K.room) in
      let nothing : m + length left ≡ m = omega (arith, end) in
      subst (Known l heads) nothing (U.known l
      (λ i g. sym (ap (λ (es : List Binding). get_or es i blank) is ∙ (get_or-take (n - m) (drop m l) i blank (omega (arith, g, long)) ∙ get_or-drop m l i blank)))
      (subst (Known l initial) (sym long) K))

-- NONE: heads that are no links, and those of an array of them
pub none_known : (l : List Binding) (heads : List Link) → length l ≤ 65535 → 1024 ≤ length heads → ((i : ℕ) → i < length heads → (get_or heads i no_link).0 ≡ 0) → Known l heads 0
unfolding newest
none_known l heads short wide zeros = record { room = omega arith; short = short; wide = wide; head = zeros; link = λ i h. absurd (omega arith) }

pub none_linked : (l : List Binding) (n : ℕ) → length l ≤ 65535 → 1024 ≤ n → Known l (replicate n no_link) 0
none_linked l n short wide =
    none_known l (replicate n no_link) short (rw length-replicate wide) (λ i h. ap (λ (x : Link). x.0) (get_or-replicate n i no_link no_link (omega (arith, length-replicate {A = Link} n no_link))))

-- WHAT A CONTRACT SEES
pub env_length : (l : List Binding) (n : ℕ) → length (env_of l n) ≡ n
unfolding env_of
env_length l zero = refl
env_length l (suc n) = omega (arith, env_length l n)

env_drop : (l : List Binding) (m k n : ℕ) → n ≡ k + m → drop k (env_of l n) ≡ env_of l m
unfolding env_of
env_drop l m zero n e = let q : n ≡ m = omega arith in rw q
env_drop l m (suc k) zero e = absurd (omega arith)
env_drop l m (suc k) (suc n) e = env_drop l m k n (omega arith)

module _ (l : List Binding) (n : ℕ) {v : Names} (view-is : record { names = env_of l n; room = length l } ≡ v) where
  pub names_are : env_of l n ≡ v.names
  names_are = ap (λ (w : Names). w.names) view-is

  pub count_is : n ≡ length v.names
  count_is = sym (env_length l n) ∙ ap length names_are

  pub reaches : {m : ℕ} → m ≤ length v.names → m ≤ n
  reaches h = omega (arith, h, count_is)

  pub has_room : length v.names < v.room → n < length l
  has_room h = omega (arith, h, count_is, ap (λ (w : Names). w.room) view-is)

  pub cut : (m : ℕ) → m ≤ length v.names → record { names = env_of l m; room = length l } ≡ truncated m v
  cut m h =
      rw (← view-is, env_length l n) (ap (λ (es : Env). record { names = es; room = length l }) (sym (env_drop l m (n - m) n (omega (arith, reaches h)))))

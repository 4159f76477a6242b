-- What a record's class says of its row, and a pattern of the children: forms that a proof takes apart case by case. Assumes nothing.
use mathlib.Core.Path.{◌≡◌, refl, ap, sym, ◌∙◌}
use mathlib.Core.Bool.{Bool, true, false}
use mathlib.Core.List.{List, [], ◌∷◌}
use Prim.Native.Nat.{ℕ}
use native.Mathlib.Omega.{arith}
use lib.Dec.{eqb}
use lib.ListN.{get_or}
use borrow.Author.Tests.{eqb-true, eqb-false}
use Rattle.definitions.specs.Grammar.{Class, class_no, Field, Pattern, done, one, perhaps, many, Line, kind}
use Rattle.definitions.specs.Records.{pick, no_row, row, row_in, Next, refused, left, after, may_end, Tree, Trees, tnil, tcons}

-- a class is known by its number
class_of : ℕ → Class
class_of n = get_or (Class.contract ∷ Class.contract ∷ Class.storage ∷ Class.struct ∷ Class.function ∷ Class.block ∷ Class.field_init ∷ Class.statement ∷ Class.expression
    ∷ Class.program ∷ Class.ir_function ∷ Class.function_name ∷ Class.basic_block ∷ Class.instruction ∷ Class.terminator ∷ []) n Class.contract

class_back : (c : Class) → class_of (class_no c) ≡ c
unfolding class_of
class_back Class.contract = refl
class_back Class.storage = refl
class_back Class.struct = refl
class_back Class.function = refl
class_back Class.block = refl
class_back Class.field_init = refl
class_back Class.statement = refl
class_back Class.expression = refl
class_back Class.program = refl
class_back Class.ir_function = refl
class_back Class.function_name = refl
class_back Class.basic_block = refl
class_back Class.instruction = refl
class_back Class.terminator = refl

pub same_class : (c d : Class) → eqb (class_no c) (class_no d) ≡ true → c ≡ d
same_class c d e = sym (class_back c) ∙ ap class_of (eqb-true _ _ e) ∙ class_back d

-- ROWS: P of every row of a class; and G, given P of each line of the class in turn
abbrev pub OfRows : (Class → ℕ → List Field → Pattern → Type 0) → Class → List Line → Type 0
OfRows P c ls = (k : ℕ) (fs : List Field) (p : Pattern) → row_in k ls ≡ row c fs p → P c k fs p

unfoldable pub Given : (Class → ℕ → List Field → Pattern → Type 0) → Class → List Line → Type 0 → Type 0
Given P c [] G = G
Given P c (kind j d fs p ∷ ls) G = pick (eqb (class_no d) (class_no c)) (P c j fs p → Given P c ls G) (Given P c ls G)

no_row_lem : {c : Class} {fs : List Field} {p : Pattern} → no_row ≡ row c fs p → ⊥
no_row_lem e = let z : ◌≡◌ {A = ℕ} 0 1 = cc in omega arith

module _ (P : Class → ℕ → List Field → Pattern → Type 0) (c : Class) where
  -- what is given leads on from G to whatever G leads to
  onward : (ls : List Line) {G H : Type 0} → (G → H) → Given P c ls G → Given P c ls H
  unfolding Given
  onward [] f = f
  onward (kind j d gs q ∷ ls) {G} {H} f = go (eqb (class_no d) (class_no c)) (onward ls f)
    where
      go : (t : Bool) → (Given P c ls G → Given P c ls H) → pick t (P c j gs q → Given P c ls G) (Given P c ls G) → pick t (P c j gs q → Given P c ls H) (Given P c ls H)
      go true below g = λ x. below (g x)
      go false below g = below g

  -- one line more: P of it is needed only if it is of the class
  one_more : (j : ℕ) (d : Class) (gs : List Field) (q : Pattern) (ls : List Line) → (d ≡ c → P c j gs q) → OfRows P c ls → OfRows P c (kind j d gs q ∷ ls)
  unfolding row_in
  one_more j d gs q ls x below k fs p e = go (eqb k j) refl
    where
      go : (t : Bool) → eqb k j ≡ t → P c k fs p
      go true z =
          let f : row d gs q ≡ row c fs p = rw z at e in
          let w : gs ≡ fs = cc in
          let v : q ≡ p = cc in
          let y : d ≡ c = cc in
          rw (eqb-true k j z) (rw (w, v) at (x y))
      go false z = below k fs p (rw z at e)

  -- P of every row: to be applied to a proof of P for each line of the class, in the rows' order
  pub by_lines : (ls : List Line) → Given P c ls (OfRows P c ls)
  unfolding Given row_in
  by_lines [] = λ k fs p e. absurd (no_row_lem e)
  by_lines (kind j d gs q ∷ ls) = go (eqb (class_no d) (class_no c)) refl (by_lines ls)
    where
      go : (t : Bool) → eqb (class_no d) (class_no c) ≡ t → Given P c ls (OfRows P c ls) → pick t (P c j gs q → Given P c ls (OfRows P c (kind j d gs q ∷ ls))) (Given P c ls (OfRows P c (kind j d gs q ∷ ls)))
      go true z below = λ x. onward ls (one_more j d gs q ls (λ _. x)) below
      go false z below = onward ls (one_more j d gs q ls (λ y. absurd (eqb-false _ _ z (ap class_no y)))) below

pub not_left : {q : Pattern} → refused ≡ left q → ⊥
not_left e = let z : ◌≡◌ {A = ℕ} 0 1 = cc in omega arith

-- CHILDREN that follow a pattern, with Q of each
module _ (Q : Class → Tree → Type 0) where
  pub data Follows : Pattern → Trees → Type 0 where
    over : Follows done tnil
    next : {c : Class} {p : Pattern} {t : Tree} {ts : Trees} → Q c t → Follows p ts → Follows (one c p) (tcons t ts)
    skip : {c : Class} {p : Pattern} {ts : Trees} → Follows p ts → Follows (perhaps c p) ts
    take : {c : Class} {p : Pattern} {t : Tree} {ts : Trees} → Q c t → Follows p ts → Follows (perhaps c p) (tcons t ts)
    end : {c : Class} {p : Pattern} {ts : Trees} → Follows p ts → Follows (many c p) ts
    more : {c : Class} {p : Pattern} {t : Tree} {ts : Trees} → Q c t → Follows (many c p) ts → Follows (many c p) (tcons t ts)

  -- the two ways on from a sheet that was read (`Reads`)
  pub may_end_lem : (p : Pattern) → may_end p ≡ true → Follows p tnil
  unfolding may_end
  may_end_lem done e = over
  may_end_lem (one c p) e = absurd (let z : ◌≡◌ {A = ℕ} 0 1 = cc in omega arith)
  may_end_lem (perhaps c p) e = skip (may_end_lem p e)
  may_end_lem (many c p) e = end (may_end_lem p e)

  -- a child of the class a, and then r; or what else was left
  chosen : {G : Type 0} (c a : Class) (r : Pattern) {q : Pattern} {n : Next} {t : Tree} {ts : Trees} → pick (eqb (class_no c) (class_no a)) (left r) n ≡ left q
      → Q c t → Follows q ts → (Q a t → Follows r ts → G) → (n ≡ left q → G) → G
  chosen {G} c a r {q} {n} e x f yes' no' = go (eqb (class_no c) (class_no a)) refl
    where
      go : (b : Bool) → eqb (class_no c) (class_no a) ≡ b → G
      go true z = let y : left r ≡ left q = rw z at e in let w : r ≡ q = cc in yes' (rw (same_class c a z) at x) (rw w f)
      go false z = no' (rw z at e)

  pub goes_on : (p : Pattern) {q : Pattern} {c : Class} {t : Tree} {ts : Trees} → after p c ≡ left q → Q c t → Follows q ts → Follows p (tcons t ts)
  unfolding after
  goes_on done e x f = absurd (not_left e)
  goes_on (one a p) {c = c} e x f = chosen c a p e x f next (λ z. absurd (not_left z))
  goes_on (perhaps a p) {c = c} e x f = chosen c a p e x f take (λ z. skip (goes_on p z x f))
  goes_on (many a p) {c = c} e x f = chosen c a (many a p) e x f more (λ z. end (goes_on p z x f))

-- The pattern under way, one child at a time. Assumes nothing.
use Rattle.std.proofs.Common.{◌≡◌, ℕ, ◌-◌, ◌≤◌, refl, sym, ap, ◌∙◌, true, false, eqb, List, [], ◌∷◌, length, get_or, take, drop}
use Rattle.std.proofs.lemmas.List.{take_rest, drop_all, drop_more}
use borrow.Author.Tests.{eq-eqb, ne_eqb}
use Rattle.definitions.specs.Grammar.{class_no, Pattern}
use Rattle.definitions.specs.Records.{refused, left, after}
use Rattle.sheet_rows.specs.declared.tables.Class.{Class}
use Rattle.sheet_rows.specs.declared.tables.Class.TheVariants as class
use Rattle.sheet_rows.specs.declared.tables.Child.{Child}
use Rattle.sheet_rows.specs.declared.tables.Often.{Often}
use Rattle.sheet_rows.specs.declared.tables.Often.TheVariants as often
use Rattle.sheet_rows.specs.Tables.{class_of, then_child, pattern_of}

-- a class is known by its number
classes : List Class
classes =
    class.Contract ∷ class.Contract ∷ class.Storage ∷ class.Struct ∷ class.Function ∷ class.Block ∷ class.FieldInit ∷ class.Stmt ∷ class.Expr ∷
    class.Program ∷ class.IrFunction ∷ class.FunctionName ∷ class.BasicBlock ∷ class.Instruction ∷ class.Terminator ∷ []

abbrev number : Class → ℕ
number c = class_no (class_of c)

back : (c : Class) → get_or classes (number c) class.Contract ≡ c
unfolding classes
back class.Contract = refl
back class.Storage = refl
back class.Struct = refl
back class.Function = refl
back class.Block = refl
back class.FieldInit = refl
back class.Stmt = refl
back class.Expr = refl
back class.Program = refl
back class.IrFunction = refl
back class.FunctionName = refl
back class.BasicBlock = refl
back class.Instruction = refl
back class.Terminator = refl

same_no : {a b : Class} → a ≡ b → eqb (number b) (number a) ≡ true
same_no {a} {b} e = eq-eqb (number b) (number a) (ap number (sym e))

other_no : {a b : Class} → (a ≡ b → ⊥) → eqb (number b) (number a) ≡ false
other_no {a} {b} f = ne_eqb (number b) (number a) (λ e. f (sym (back a) ∙ ap (λ (i : ℕ). get_or classes i class.Contract) (sym e) ∙ back b))

-- ONE CHILD, and then p
module _ (c : Child) (p : Pattern) (k : Class) where
  stays_one : c.class ≡ k → c.often ≡ often.Any → after (then_child c p) (class_of k) ≡ left (then_child c p)
  unfolding after
  stays_one e m = rw (m, same_no e)

  leaves_one : c.class ≡ k → (c.often ≡ often.Any → ⊥) → after (then_child c p) (class_of k) ≡ left p
  unfolding after
  leaves_one e f = go c.often refl
    where
      go : (o : Often) → c.often ≡ o → after (then_child c p) (class_of k) ≡ left p
      go often.Once m = rw (m, same_no e)
      go often.AtMostOnce m = rw (m, same_no e)
      go often.Any m = absurd (f m)

  refuses_one : (c.class ≡ k → ⊥) → c.often ≡ often.Once → after (then_child c p) (class_of k) ≡ refused
  unfolding after
  refuses_one f m = rw (m, other_no f)

  seeks_one : (c.class ≡ k → ⊥) → (c.often ≡ often.Once → ⊥) → after (then_child c p) (class_of k) ≡ after p (class_of k)
  unfolding after
  seeks_one f g = go c.often refl
    where
      go : (o : Often) → c.often ≡ o → after (then_child c p) (class_of k) ≡ after p (class_of k)
      go often.Once m = absurd (g m)
      go often.AtMostOnce m = rw (m, other_no f)
      go often.Any m = rw (m, other_no f)

-- ALL CHILDREN: cs is left of the pattern, and decides what it leaves after a class
pub record Seeking (pattern : List Child) (k : Class) (cs : List Child) : Type 0 where
  pub same : after (pattern_of pattern) (class_of k) ≡ after (pattern_of cs) (class_of k)

module _ {pattern cs : List Child} {k : Class} (s : Seeking pattern k cs) where
  pub over : length cs ≤ 0 → refused ≡ after (pattern_of pattern) (class_of k)
  unfolding after
  over h = let z : cs ≡ [] = drop_all 0 cs h in rw (s.same, z)

  module _ (d : Child) (h : 1 ≤ length cs) where
    is : pattern_of cs ≡ then_child (get_or cs 0 d) (pattern_of (drop 1 cs))
    is = ap pattern_of (drop_more cs 0 d h)

    pub stays : (get_or cs 0 d).class ≡ k → (get_or cs 0 d).often ≡ often.Any → left (pattern_of cs) ≡ after (pattern_of pattern) (class_of k)
    stays e m = rw (s.same, is) (sym (stays_one (get_or cs 0 d) (pattern_of (drop 1 cs)) k e m))

    pub leaves : (get_or cs 0 d).class ≡ k → ((get_or cs 0 d).often ≡ often.Any → ⊥) → left (pattern_of (take (length cs - 1) (drop 1 cs))) ≡ after (pattern_of pattern) (class_of k)
    leaves e f = rw (take_rest cs 1, s.same, is) (sym (leaves_one (get_or cs 0 d) (pattern_of (drop 1 cs)) k e f))

    pub refuses : ((get_or cs 0 d).class ≡ k → ⊥) → (get_or cs 0 d).often ≡ often.Once → refused ≡ after (pattern_of pattern) (class_of k)
    refuses f m = rw (s.same, is) (sym (refuses_one (get_or cs 0 d) (pattern_of (drop 1 cs)) k f m))

    pub seeks : ((get_or cs 0 d).class ≡ k → ⊥) → ((get_or cs 0 d).often ≡ often.Once → ⊥) → Seeking pattern k (take (length cs - 1) (drop 1 cs))
    seeks f g = record { same = rw (take_rest cs 1, s.same, is) (seeks_one (get_or cs 0 d) (pattern_of (drop 1 cs)) k f g) }

-- `sheet::records::after`: what is left of the pattern decides. Assumes nothing.
use Rattle.std.proofs.Common.{◌≡◌, ◌∙◌, Bool, true, false, sym, rules, arith}
use denote.Enum.Bare.{sameb, same_true, same_false}
use Rattle.sheet_rows.specs.contracts.tables.Class as classes
use Rattle.sheet_rows.specs.contracts.tables.Often as oftens
use Rattle.sheet_rows.specs.declared.tables.Class.{Class}
use Rattle.sheet_rows.specs.declared.tables.Often.{Often}
use Rattle.sheet.proofs.Patterns.{over, stays, leaves, refuses, seeks}
use Rattle.sheet.proofs.records.after.Goals as goal
use Rattle.sheet.proofs.records.after.Goals.{then-eq-2, else-eq-2}

-- what a test of the code says of two classes, and of how often a child may stand
class_same : {a b : Class} {r : Bool} → r ≡ sameb classes.the_type a b → r ≡ true → a ≡ b
class_same e t = same_true classes.the_type (search rules) _ _ (sym e ∙ t)

class_other : {a b : Class} {r : Bool} → r ≡ sameb classes.the_type a b → r ≡ false → a ≡ b → ⊥
class_other e t = same_false classes.the_type _ _ (sym e ∙ t)

often_same : {a b : Often} {r : Bool} → r ≡ sameb oftens.the_type a b → r ≡ true → a ≡ b
often_same e t = same_true oftens.the_type (search rules) _ _ (sym e ∙ t)

often_other : {a b : Often} {r : Bool} → r ≡ sameb oftens.the_type a b → r ≡ false → a ≡ b → ⊥
often_other e t = same_false oftens.the_type _ _ (sym e ∙ t)

pub returns-then-eq : goal.returns-then-eq
returns-then-eq c =
    let e = class_same c.eq.ensures c.if-eq.true in
    elim c.if-eq-2.branch [
      | then-eq-2 w ↦ rw w.result-is (stays c.loop-left.invariant _ c.in-len1-up.len_at_least e (often_same c.eq-then-eq.ensures w.if-eq-2.true))
      | else-eq-2 w ↦ rw w.result-is (leaves c.loop-left.invariant _ c.in-len1-up.len_at_least e (often_other c.eq-then-eq.ensures w.if-eq-2.false))
    ]

pub returns-then-eq-3 : goal.returns-then-eq-3
returns-then-eq-3 c = refuses c.loop-left.invariant _ c.in-len1-up.len_at_least (class_other c.eq.ensures c.if-eq.false) (often_same c.eq-in-len1-up.ensures c.if-eq-3.true)

pub loop-left-preserved : goal.loop-left-preserved
loop-left-preserved c = seeks c.loop-left.invariant _ c.in-len1-up.len_at_least (class_other c.eq.ensures c.if-eq.false) (often_other c.eq-in-len1-up.ensures c.if-eq-3.false)

pub returns : goal.returns
returns c = over c.loop-left.invariant (omega arith)

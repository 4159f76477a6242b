-- One step of a walk by position over a sheet that passed: what stands at a place where a pattern is left. Assumes nothing.
use mathlib.Core.Path.{◌≡◌}
use mathlib.Core.List.{List}
use Prim.Native.Nat.{ℕ, ◌≤◌}
use native.Mathlib.Omega.{arith}
use lib.Dec.{eqb}
use Rattle.definitions.specs.Grammar.{Class, class_no, Field, Pattern, done, one, perhaps, many}
use Rattle.definitions.specs.Records.{pick, left, after, may_end}
use Rattle.definitions.proofs.Results.{by_test}
use Rattle.definitions.specs.Fine.{Head, Fine, ends, goes}
use Rattle.definitions.proofs.Sheets.Lines.{same_class, not_left}

-- a record of the class a, and then r; or nothing of it, and then p
pub data Step (s : List ℕ) (at end : ℕ) (a : Class) (r p : Pattern) : Type 0 where
  here : {fs : List Field} {q : Pattern} {b stop : ℕ} → Head s at end a fs q b stop → Fine s b stop q → Fine s stop end r → Step s at end a r p
  past : Fine s at end p → Step s at end a r p

-- the record that was allowed is of the class a, or is allowed by what else is left
allowed : {s : List ℕ} {at end b stop : ℕ} {c : Class} {fs : List Field} {q w : Pattern} (a : Class) (r p : Pattern) → pick (eqb (class_no c) (class_no a)) (left r) (after p c) ≡ left w
    → Head s at end c fs q b stop → Fine s b stop q → Fine s stop end w → Step s at end a r p
allowed {c = c} {w = w} a r p e hd kids rest =
    by_test (eqb (class_no c) (class_no a))
    (λ z.
    let y : left r ≡ left w = rw z at e in
    let v : r ≡ w = cc in
    here (rw (same_class c a z) at hd) kids (rw v rest))
    (λ z. past (goes hd (rw z at e) kids rest))

pub many_step : {s : List ℕ} {at end : ℕ} (a : Class) (p : Pattern) → Fine s at end (many a p) → Step s at end a (many a p) p
unfolding after may_end
many_step a p (ends z m) = past (ends z m)
many_step a p (goes hd e kids rest) = allowed a (many a p) p e hd kids rest

pub perhaps_step : {s : List ℕ} {at end : ℕ} (a : Class) (p : Pattern) → Fine s at end (perhaps a p) → Step s at end a p p
unfolding after may_end
perhaps_step a p (ends z m) = past (ends z m)
perhaps_step a p (goes hd e kids rest) = allowed a p p e hd kids rest

pub done_ends : {s : List ℕ} {at end : ℕ} → Fine s at end done → at ≡ end
unfolding after
done_ends (ends z m) = z
done_ends (goes hd e kids rest) = absurd (not_left e)

-- what must come is there
pub data One (s : List ℕ) (at end : ℕ) (a : Class) (p : Pattern) : Type 0 where
  this : {fs : List Field} {q : Pattern} {b stop : ℕ} → Head s at end a fs q b stop → Fine s b stop q → Fine s stop end p → One s at end a p

pub one_step : {s : List ℕ} {at end : ℕ} (a : Class) (p : Pattern) → Fine s at end (one a p) → One s at end a p
unfolding after may_end
one_step a p (ends z m) = absurd (let y : ◌≡◌ {A = ℕ} 0 1 = cc in omega arith)
one_step a p (goes hd e kids rest) = elim (allowed a p done e hd kids rest) [ here hd kids rest ↦ this hd kids rest | past f ↦ absurd (omega (arith, done_ends f, hd.low, hd.mid, hd.high)) ]

pub low : {s : List ℕ} {at end : ℕ} {q : Pattern} → Fine s at end q → at ≤ end
low (ends z m) = omega arith
low (goes hd e kids rest) = omega (arith, hd.low, hd.mid, hd.high)

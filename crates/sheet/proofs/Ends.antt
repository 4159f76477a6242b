-- What holds of every one of some children, or fails for one: whether a record may end. Assumes nothing.
use Rattle.std.proofs.Common.{◌≡◌, ℕ, zero, suc, ◌+◌, ◌*◌, ◌<◌, refl, sym, ◌∙◌, ◌&&◌, Bool, true, false, List, [], ◌∷◌, length, get_or, arith}
use Rattle.std.specs.Bool.{MatchBool}
use Rattle.std.specs.List.{AllWithin, HoldsAt, range_with_len}
use Rattle.std.proofs.lemmas.List.FromFn.{get_or-range_with_len, length-range_with_len}
use Rattle.std.specs.Iterator.{ChecksAll}
use Rattle.std.specs.Fn.{Called}
use Rattle.std.specs.declared.ops.Range.{Range}
use Rattle.std.proofs.iter.Yields.{nat_range_steps}
use Rattle.std.proofs.lemmas.Iterator.{cases_from_all, YieldsList-from_range}
use denote.Param.Members.{Mut}
use native.Mathlib.Nat.{mul-suc, not-suc-le-zero}
use Rattle.definitions.specs.Grammar.{Entry, Pattern}
use Rattle.definitions.specs.Records.{size_of, ok_item, ok_items, may_end}
use Rattle.sheet_rows.specs.declared.tables.Child.{Child}
use Rattle.sheet_rows.specs.declared.tables.Often.{Often}
use Rattle.sheet_rows.specs.declared.tables.Often.TheVariants as often
use Rattle.sheet_rows.specs.Tables.{then_child, pattern_of}

abbrev pub Spared : Child → Type 0
Spared c = c.often ≡ often.Once → ⊥

abbrev pub Needed : Child → Type 0
Needed c = c.often ≡ often.Once

pub needed : (c : Child) (p : Pattern) → Needed c → may_end (then_child c p) ≡ false
unfolding may_end
needed c p e = rw e

pub spared : (c : Child) (p : Pattern) → Spared c → may_end (then_child c p) ≡ may_end p
unfolding may_end
spared c p f = go c.often refl
  where
    go : (o : Often) → c.often ≡ o → may_end (then_child c p) ≡ may_end p
    go often.Once e = absurd (f e)
    go often.AtMostOnce e = rw e
    go often.Any e = rw e

all_spared : (cs : List Child) → AllWithin Spared cs 0 (length cs) → may_end (pattern_of cs) ≡ true
unfolding may_end
all_spared [] f = refl
all_spared (c ∷ cs) f = spared c (pattern_of cs) (f 0 c (omega arith) (omega arith)) ∙ all_spared cs (λ k d l h. f (suc k) d (omega arith) (omega arith))

one_needed : (cs : List Child) (k : ℕ) → k < length cs → HoldsAt Needed cs k → may_end (pattern_of cs) ≡ false
one_needed [] k h f = absurd (not-suc-le-zero h)
one_needed (c ∷ cs) zero h f = needed c (pattern_of cs) (f c)
one_needed (c ∷ cs) (suc k) h f = go c.often refl (one_needed cs k (omega arith) (λ d. f d))
  where
    go : (o : Often) → c.often ≡ o → may_end (pattern_of cs) ≡ false → may_end (then_child c (pattern_of cs)) ≡ false
    go often.Once e r = needed c (pattern_of cs) e
    go often.AtMostOnce e r = spared c (pattern_of cs) (λ q. cc) ∙ r
    go often.Any e r = spared c (pattern_of cs) (λ q. cc) ∙ r

pub ends : (cs : List Child) (r : Bool) → MatchBool r (AllWithin Spared cs 0 (length cs)) ((k : ℕ) × (k < length cs) × HoldsAt Needed cs k) → r ≡ may_end (pattern_of cs)
ends cs true f = sym (all_spared cs f)
ends cs false f = sym (one_needed cs f.0 f.1 f.2)

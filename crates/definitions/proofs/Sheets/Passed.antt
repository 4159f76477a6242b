-- A sheet that passed the check, as a proof tree: no bound on calls from here on; and one step of the reader. Assumes nothing.
use mathlib.Core.Path.{◌≡◌, refl, ap₂, sym, ◌∙◌}
use mathlib.Core.Bool.{Bool, true, false, ◌&&◌}
use mathlib.Core.List.{List, [], ◌∷◌}
use mathlib.Core.Option.{Option, none, some}
use Prim.Native.Nat.{ℕ, zero, suc, ◌+◌, ◌-◌, ◌*◌, ◌<◌, ◌≤◌}
use native.Mathlib.Nat.{not-suc-le-zero}
use native.Mathlib.Omega.{arith}
use lib.Dec.{leb, eqb}
use borrow.Author.Tests.{leb-true, eqb-true, eq-eqb, ne_eqb}
use Rattle.definitions.specs.Fields.{le}
use Rattle.definitions.specs.Grammar.{Class, Entry, Field, Pattern, counted, listed, rows, single}
use Rattle.definitions.specs.Fine.{Head, Fine, ends, goes}
use Rattle.definitions.specs.Records.{Bad, Verdict, Good, Next, Row, Start, Trees, after, and_then, check_rest, field_end, fields_end, left, may_end, no_row, node, nothing, ok_field, ok_items, past, past_all, pick, read_node, read_records, read_values, records_from, refused, row, row_fields, row_in, size_of, start_at, start_if, start_row, starts, tcons, tnil, trees_from}
use Rattle.definitions.proofs.Results.{some_none, by_test}

-- what holds of both arms holds of the pick
pub picked : {A : Type 0} (P : A → Type 0) (b : Bool) (x y : A) → (b ≡ true → P x) → (b ≡ false → P y) → P (pick b x y)
picked P true x y f g = f refl
picked P false x y f g = g refl

pub both_true : (a b : Bool) → a && b ≡ true → (a ≡ true) × (b ≡ true)
both_true true b e = (refl, e)
both_true false b e = absurd (let z : ◌≡◌ {A = ℕ} 0 1 = cc in omega arith)

-- a valid list with a count
pub counted_ok : (e : Entry) (s : List ℕ) (stop at : ℕ) → ok_field (counted e) s stop at ≡ true
    → (2 ≤ stop - at) × (size_of e * le 2 s at ≤ stop - (at + 2)) × (ok_items e (le 2 s at) s (at + 2) ≡ true)
unfolding ok_field
counted_ok e s stop at o =
    let a = both_true (leb 2 (stop - at) && leb (size_of e * le 2 s at) (stop - (at + 2))) _ o in
    let b = both_true (leb 2 (stop - at)) _ a.0 in
    (leb-true _ _ b.0, leb-true _ _ b.1, a.1)

-- a valid field ends within its record
pub field_within : (f : Field) (s : List ℕ) (stop at : ℕ) → ok_field f s stop at ≡ true → at ≤ stop → (at ≤ field_end f s stop at) × (field_end f s stop at ≤ stop)
unfolding ok_field field_end
field_within (single e) s stop at o h =
    let l : size_of e ≤ stop - at = leb-true _ _ (both_true (leb (size_of e) (stop - at)) _ o).0 in
    (omega arith, omega arith)
field_within (counted e) s stop at o h =
    let c = counted_ok e s stop at o in
    (omega arith, omega (arith, c.0, c.1))
field_within (listed e) s stop at o h = (h, omega arith)

-- a field that was passed is valid
pub one_past : (f : Field) (s : List ℕ) (stop at b : ℕ) → past f s stop at ≡ some b → (ok_field f s stop at ≡ true) × (b ≡ field_end f s stop at)
unfolding past
one_past f s stop at b e =
    by_test (ok_field f s stop at) (λ q. let z : some (field_end f s stop at) ≡ some b = rw q at e in let y : field_end f s stop at ≡ b = cc in (q, sym y)) (λ q. absurd (some_none b (sym (rw q at e))))

-- fields that are valid: the first, and those after it
pub past_on : (f : Field) (fs : List Field) (s : List ℕ) (stop at : ℕ) → ok_field f s stop at ≡ true → past_all (f ∷ fs) s stop at ≡ past_all fs s stop (field_end f s stop at)
unfolding past past_all
past_on f fs s stop at o = rw (o, past_all)

pub first_past : (f : Field) (fs : List Field) (s : List ℕ) (stop at : ℕ) {b : ℕ} → past_all (f ∷ fs) s stop at ≡ some b → (ok_field f s stop at ≡ true) × (past_all fs s stop (field_end f s stop at) ≡ some b)
unfolding past past_all
first_past f fs s stop at {b} e = by_test (ok_field f s stop at) (λ q. (q, rw (q, past_all) at e)) (λ q. absurd (some_none b (sym (rw (q, past_all) at e))))

-- where they end
pub record Ends (fs : List Field) (s : List ℕ) (stop at b : ℕ) : Type 0 where
  pub is : b ≡ fields_end fs s stop at
  pub low : at ≤ b
  pub high : b ≤ stop

pub all_past : (fs : List Field) (s : List ℕ) (stop at b : ℕ) → past_all fs s stop at ≡ some b → at ≤ stop → Ends fs s stop at b
unfolding past_all fields_end
all_past [] s stop at b e h = let z : at ≡ b = cc in record { is = sym z; low = omega arith; high = omega arith }
all_past (f ∷ fs) s stop at b e h =
    let a = first_past f fs s stop at e in
    let w = field_within f s stop at a.0 h in
    let i : Ends fs s stop (field_end f s stop at) b = all_past fs s stop (field_end f s stop at) b a.1 w.1 in
    record { is = i.is; low = omega (arith, w.0, i.low); high = i.high }

-- a record opened, or none
pub data Opened (s : List ℕ) (at end : ℕ) (q : Pattern) : Start → Type 0 where
  shut : Opened s at end q nothing
  open' : {c : Class} {fs : List Field} {p r : Pattern} {b stop : ℕ} → Head s at end c fs p b stop → after q c ≡ left r → Opened s at end q (starts b stop p r)

row_opened : (s : List ℕ) (at stop end : ℕ) (q : Pattern) (r : Row) → row_in (le 2 s (at + 4)) rows ≡ r → stop ≡ at + le 4 s at → at + 6 ≤ stop → stop ≤ end → Opened s at end q (start_row s at stop q r)
unfolding start_row start_if
row_opened s at stop end q no_row e f h l = shut
row_opened s at stop end q (row c fs p) e f h l = go (past_all fs s stop (at + 6)) (after q c) refl refl
  where
    go : (o : Option ℕ) (n : Next) → past_all fs s stop (at + 6) ≡ o → after q c ≡ n → Opened s at end q (start_if o stop p n)
    go o refused y z = shut
    go none (left m) y z = shut
    go (some b) (left m) y z =
        let g : Ends fs s stop (at + 6) b = all_past fs s stop (at + 6) b y h in
        open' (record { is = e; stop_is = f; valid = y; body_is = g.is; low = g.low; mid = g.high; high = l }) z

opened : (s : List ℕ) (at end : ℕ) (q : Pattern) → Opened s at end q (start_at s at end q)
unfolding start_at
opened s at end q =
    let P : Start → Type 0 = Opened s at end q in
    picked P (leb 6 (end - at)) _ _ (λ r.
    picked P (leb 6 (le 4 s at)) _ _ (λ l.
    picked P (leb (le 4 s at) (end - at)) _ _ (λ m.
    let r' : 6 ≤ end - at = leb-true _ _ r in
    let l' : 6 ≤ le 4 s at = leb-true _ _ l in
    let m' : le 4 s at ≤ end - at = leb-true _ _ m in
    row_opened s at (at + le 4 s at) end q (row_in (le 2 s (at + 4)) rows) refl refl (omega arith) (omega arith))
    (λ _. shut)) (λ _. shut)) (λ _. shut)

-- the bound on the check's calls does not matter, if it is over the bytes left
pub bound_enough : (n m : ℕ) (s : List ℕ) (at end : ℕ) (q : Pattern) → end - at < n → end - at < m → records_from n s at end q ≡ records_from m s at end q
unfolding records_from check_rest
bound_enough zero m s at end q hn hm = absurd (not-suc-le-zero hn)
bound_enough (suc n) zero s at end q hn hm = absurd (not-suc-le-zero hm)
bound_enough (suc n) (suc m) s at end q hn hm = go (eqb at end) refl (λ b p i hb hp. bound_enough n m s b p i hb hp)
  where
    Below : Type 0
    Below = (b p : ℕ) (i : Pattern) → p - b < n → p - b < m → records_from n s b p i ≡ records_from m s b p i

    step : (x : Start) → Opened s at end q x → Below → check_rest (records_from n s) at end x ≡ check_rest (records_from m s) at end x
    step nothing shut below = refl
    step (starts b p i r) (open' hd z) below =
        let l : at + 6 ≤ b = hd.low in
        let k : b ≤ p = hd.mid in
        let h : p ≤ end = hd.high in
        ap₂ and_then (below b p i (omega arith) (omega arith)) (below p end r (omega arith) (omega arith))

    go : (t : Bool) → eqb at end ≡ t → Below → records_from (suc n) s at end q ≡ records_from (suc m) s at end q
    go true z below = rw (z, records_from)
    go false z below = rw (z, records_from) (step (start_at s at end q) (opened s at end q) below)

-- a check that passed is a proof tree
pub bad_good : {p : ℕ} → Bad p ≡ Good → ⊥
bad_good e = let z : ◌≡◌ {A = ℕ} 0 1 = cc in omega arith

pub both_good : (a b : Verdict) → and_then a b ≡ Good → (a ≡ Good) × (b ≡ Good)
unfolding and_then
both_good Good b e = (refl, e)
both_good (Bad p) b e = absurd (bad_good e)

pub fine : (n : ℕ) (s : List ℕ) (at end : ℕ) (q : Pattern) → records_from n s at end q ≡ Good → Fine s at end q
unfolding records_from check_rest
fine zero s at end q e = absurd (bad_good e)
fine (suc n) s at end q e = go (eqb at end) refl (λ b p i h. fine n s b p i h)
  where
    Below : Type 0
    Below = (b p : ℕ) (i : Pattern) → records_from n s b p i ≡ Good → Fine s b p i

    stop : (t : Bool) → may_end q ≡ t → at ≡ end → pick t Good (Bad at) ≡ Good → Fine s at end q
    stop true m z h = ends z m
    stop false m z h = absurd (bad_good h)

    step : (x : Start) → Opened s at end q x → check_rest (records_from n s) at end x ≡ Good → Below → Fine s at end q
    step nothing shut h below = absurd (bad_good h)
    step (starts b p i r) (open' hd z) h below =
        let g = both_good (records_from n s b p i) (records_from n s p end r) h in
        goes hd z (below b p i g.0) (below p end r g.1)

    go : (t : Bool) → eqb at end ≡ t → Below → Fine s at end q
    go true z below = stop (may_end q) refl (eqb-true _ _ z) (rw z at e)
    go false z below = step (start_at s at end q) (opened s at end q) (rw z at e) below

-- one record read, with any fuel
read_one : (n : ℕ) {s : List ℕ} {at end b stop : ℕ} {p : Pattern} {c : Class} {fs : List Field} → Head s at end c fs p b stop
    → trees_from (suc n) s at end ≡ tcons (node at (le 2 s (at + 4)) (read_values fs s stop (at + 6)) (trees_from n s b stop)) (trees_from n s stop end)
unfolding trees_from read_node row_fields
read_one n {s} {at} {end} {b} {stop} hd =
    let l : at + 6 ≤ b = hd.low in
    let m : b ≤ stop = hd.mid in
    let h : stop ≤ end = hd.high in
    rw (ne_eqb at end (λ e. omega arith), trees_from) (rw (hd.is, row_fields, ← hd.stop_is, ← hd.body_is))

-- the reader's fuel does not matter
enough : {s : List ℕ} {at end : ℕ} {q : Pattern} → Fine s at end q → (f g : ℕ) → end - at < f → end - at < g → trees_from f s at end ≡ trees_from g s at end
unfolding trees_from
enough (ends z m) zero g hf hg = absurd (not-suc-le-zero hf)
enough (ends z m) (suc f) zero hf hg = absurd (not-suc-le-zero hg)
enough {at = at} {end = end} (ends z m) (suc f) (suc g) hf hg = rw (eq-eqb at end z, trees_from)
enough (goes hd a kids rest) zero g hf hg = absurd (not-suc-le-zero hf)
enough (goes hd a kids rest) (suc f) zero hf hg = absurd (not-suc-le-zero hg)
enough {s} {at} {end} (goes {b = b} {stop = stop} {fs = fs} hd a kids rest) (suc f) (suc g) hf hg =
    let l : at + 6 ≤ b = hd.low in
    let m : b ≤ stop = hd.mid in
    let h : stop ≤ end = hd.high in
    let i : trees_from f s b stop ≡ trees_from g s b stop = enough kids f g (omega arith) (omega arith) in
    let j : trees_from f s stop end ≡ trees_from g s stop end = enough rest f g (omega arith) (omega arith) in
    read_one f hd ∙ ap₂ (λ (x y : Trees). tcons (node at (le 2 s (at + 4)) (read_values fs s stop (at + 6)) x) y) i j ∙ sym (read_one g hd)

-- ONE STEP OF THE READER on a sheet that passed: what code that walks by position needs
pub read_end : (s : List ℕ) (at : ℕ) → read_records s at at ≡ tnil
unfolding read_records trees_from
read_end s at = rw (eq-eqb at at refl, trees_from)

pub read_step : {s : List ℕ} {at end b stop : ℕ} {p r : Pattern} {c : Class} {fs : List Field} → Head s at end c fs p b stop → Fine s b stop p → Fine s stop end r
    → read_records s at end ≡ tcons (node at (le 2 s (at + 4)) (read_values fs s stop (at + 6)) (read_records s b stop)) (read_records s stop end)
unfolding read_records
read_step {s} {at} {end} {b} {stop} {fs = fs} hd kids rest =
    let l : at + 6 ≤ b = hd.low in
    let m : b ≤ stop = hd.mid in
    let h : stop ≤ end = hd.high in
    let i : trees_from (end - at) s b stop ≡ trees_from (suc (stop - b)) s b stop = enough kids (end - at) (suc (stop - b)) (omega arith) (omega arith) in
    let j : trees_from (end - at) s stop end ≡ trees_from (suc (end - stop)) s stop end = enough rest (end - at) (suc (end - stop)) (omega arith) (omega arith) in
    read_one (end - at) hd ∙ ap₂ (λ (x y : Trees). tcons (node at (le 2 s (at + 4)) (read_values fs s stop (at + 6)) x) y) i j

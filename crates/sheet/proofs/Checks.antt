-- The check of records, one record at a time, and each way of the code through it. Assumes nothing.
use Rattle.std.proofs.Common.{◌≡◌, ℕ, suc, ◌+◌, ◌-◌, ◌<◌, ◌≤◌, refl, ap₂, ◌∙◌, Bool, List, arith}
use borrow.Author.Tests.{eq-eqb, ne_eqb}
use Rattle.definitions.specs.Grammar.{Pattern}
use Rattle.definitions.specs.Records.{pick, Good, Bad, and_then, may_end, nothing, starts, start_at, check_rest, records_from, check_records}
use Rattle.definitions.proofs.Sheets.Passed.{bound_enough}
use Rattle.sheet_rows.specs.declared.tables.Child.{Child}
use Rattle.sheet_rows.specs.Tables.{pattern_of}
use Rattle.sheet.proofs.Heads.{Within, within}

module _ (s : List ℕ) (at end : ℕ) (q : Pattern) where
  step : at < end → check_records s at end q ≡ check_rest (records_from (end - at) s) at end (start_at s at end q)
  unfolding check_records records_from
  step h = rw (ne_eqb at end (λ e. omega arith))

  step_no : at < end → nothing ≡ start_at s at end q → Bad at ≡ check_records s at end q
  unfolding check_rest
  step_no h e = rw (step h, ← e)

  step_yes : {b stop : ℕ} {p r : Pattern} → at < end → starts b stop p r ≡ start_at s at end q → check_records s at end q ≡ and_then (check_records s b stop p) (check_records s stop end r)
  unfolding check_rest check_records
  step_yes {b} {stop} {p} {r} h e =
      let w : Within s at end b stop = within s at end q e in
      let l : at + 6 ≤ b = w.low in
      let m : b ≤ stop = w.mid in
      let k : stop ≤ end = w.high in
      let i = bound_enough (end - at) (suc (stop - b)) s b stop p (omega arith) (omega arith) in
      let j = bound_enough (end - at) (suc (end - stop)) s stop end r (omega arith) (omega arith) in
      rw (step h, ← e) (ap₂ and_then i j)

step_end : (s : List ℕ) (at : ℕ) (q : Pattern) → check_records s at at q ≡ pick (may_end q) Good (Bad at)
unfolding check_records records_from
step_end s at q = rw (eq-eqb at at refl)

-- the records before `place` are good, and those from there on follow what is left of the pattern
pub record Going (s : List ℕ) (at end : ℕ) (q : List Child) (place : ℕ) (left : List Child) : Type 0 where
  pub low : at ≤ place
  pub high : place ≤ end
  pub same : check_records s at end (pattern_of q) ≡ check_records s place end (pattern_of left)

module _ {s : List ℕ} {at end : ℕ} {q : List Child} {place : ℕ} {left : List Child} (g : Going s at end q place left) where
  -- no record is left
  pub over : {m : Bool} → end ≤ place → m ≡ may_end (pattern_of left) → {t : Bool} → m ≡ t → pick t Good (Bad place) ≡ check_records s at end (pattern_of q)
  over h e {t} y =
      let l : place ≤ end = g.high in
      let z : end ≡ place = omega arith in
      let w : check_records s place end (pattern_of left) ≡ pick (may_end (pattern_of left)) Good (Bad place) = rw z (step_end s place (pattern_of left)) in
      rw (g.same, w, ← e, y)

  module _ (h : place < end) where
    -- none starts
    pub not_there : {x : ℕ} → nothing ≡ start_at s place end (pattern_of left) → x ≡ place → Bad x ≡ check_records s at end (pattern_of q)
    not_there e z = rw (z, g.same) (step_no s place end (pattern_of left) h e)

    -- one starts
    module _ {b stop : ℕ} (p r : List Child) (e : starts b stop (pattern_of p) (pattern_of r) ≡ start_at s place end (pattern_of left)) where
      pub inside : Within s place end b stop
      inside = within s place end (pattern_of left) e

      is : check_records s at end (pattern_of q) ≡ and_then (check_records s b stop (pattern_of p)) (check_records s stop end (pattern_of r))
      is = g.same ∙ step_yes s place end (pattern_of left) h e

      -- its children are good, or not
      pub goes_on : Good ≡ check_records s b stop (pattern_of p) → Going s at end q stop r
      unfolding and_then
      goes_on y =
          let w = inside in
          let m : at ≤ place = g.low in
          record { low = omega (arith, w.low, w.mid); high = w.high; same = rw (is, ← y) }

      pub ends_bad : {x : ℕ} → Bad x ≡ check_records s b stop (pattern_of p) → Bad x ≡ check_records s at end (pattern_of q)
      unfolding and_then
      ends_bad y = rw (is, ← y)

      -- it has no byte for children
      pub childless : stop ≤ b → {m : Bool} → m ≡ may_end (pattern_of p) → {t : Bool} → m ≡ t → pick t Good (Bad b) ≡ check_records s b stop (pattern_of p)
      childless i e {t} y =
          let k : b ≤ stop = inside.mid in
          let w : stop ≡ b = omega arith in
          rw (w, step_end s b (pattern_of p), ← e, y)

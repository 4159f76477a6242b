-- The fields of a record, one after another. Assumes nothing.
use Rattle.std.proofs.Common.{◌≡◌, ℕ, ◌+◌, ◌<◌, ◌≤◌, sym, ap, ◌∙◌, List, ◌∷◌, length, drop, get_or, arith}
use Rattle.std.proofs.Math.Option.{none, some}
use Rattle.std.proofs.lemmas.List.{drop_all, drop_more}
use Rattle.definitions.specs.Records.{past, past_all}
use Rattle.definitions.proofs.Sheets.Passed.{one_past, field_within, past_on}
use Rattle.sheet_rows.specs.declared.tables.Field.{Field}
use Rattle.sheet_rows.specs.Tables.{field_of, fields_of}

-- the fields before the n-th are valid, and `place` is where they end
pub record Passing (s : List ℕ) (at stop : ℕ) (fs : List Field) (place n : ℕ) : Type 0 where
  pub low : at ≤ place
  pub high : place ≤ stop
  pub same : past_all (fields_of fs) s stop at ≡ past_all (fields_of (drop n fs)) s stop place

module _ {s : List ℕ} {at stop : ℕ} {fs : List Field} {place n : ℕ} (p : Passing s at stop fs place n) where
  pub all_passed : length fs ≤ n → some place ≡ past_all (fields_of fs) s stop at
  unfolding past_all
  all_passed h = rw (p.same, drop_all n fs h)

  -- the next field, f
  module _ (d : Field) (h : n < length fs) where
    next : fields_of (drop n fs) ≡ field_of (get_or fs n d) ∷ fields_of (drop (n + 1) fs)
    next = ap fields_of (drop_more fs n d h)

    pub not_passed : none ≡ past (field_of (get_or fs n d)) s stop place → none ≡ past_all (fields_of fs) s stop at
    unfolding past_all
    not_passed e = rw (p.same, next, ← e, past_all)

    pub passed : {x : ℕ} → some x ≡ past (field_of (get_or fs n d)) s stop place → Passing s at stop fs x (n + 1)
    passed {x} e =
        let f = one_past (field_of (get_or fs n d)) s stop place x (sym e) in
        let w = field_within (field_of (get_or fs n d)) s stop place f.0 p.high in
        record {
          low = omega (arith, p.low, w.0, f.1);
          high = omega (arith, w.1, f.1);
          same = p.same ∙ ap (λ l. past_all l s stop place) next ∙ rw f.1 (past_on (field_of (get_or fs n d)) (fields_of (drop (n + 1) fs)) s stop place f.0);
        }

-- Where the children of a record that passed start: behind its fields, one after another. Assumes nothing.
use Rattle.std.proofs.Common.{◌≡◌, ℕ, ◌+◌, ◌<◌, ◌≤◌, List, length, drop, get_or, arith}
use Rattle.std.proofs.Math.Option.{some}
use Rattle.std.proofs.lemmas.List.{drop_all, drop_more}
use Rattle.definitions.specs.Grammar.{rows}
use Rattle.definitions.specs.Records.{row_in, past_all, field_end}
use Rattle.definitions.proofs.Sheets.Passed.{first_past, field_within}
use Rattle.sheet_rows.specs.declared.tables.Field.{Field}
use Rattle.sheet_rows.specs.declared.tables.Row as code
use Rattle.sheet.specs.Passed.{Node, Standing, body_of}
use Rattle.sheet_rows.specs.Tables.{field_of, fields_of, row_of}
use Rattle.sheet.proofs.Nodes.{opens}

-- the fields from the n-th on stand from `place` on, to `body`
pub record Walking (s : List ℕ) (stop : ℕ) (fs : List Field) (body place n : ℕ) : Type 0 where
  pub high : place ≤ stop
  pub valid : past_all (fields_of (drop n fs)) s stop place ≡ some body

pub starts : {s : List ℕ} {at stop k : ℕ} (r : code.Row) → Standing s at stop k → row_of r ≡ row_in k rows → Walking s stop r.fields.now (body_of s at) (at + 6) 0
starts {s} {at} {stop} {k} r w e =
    let n : Node s at w.end = opens w.passed w.starts in
    let f : fields_of r.fields.now ≡ n.fields = cc (e, w.kind_is, n.head.is) in
    record { high = rw w.stop_is (omega (arith, n.head.low, n.head.mid)); valid = rw (f, w.stop_is) n.head.valid }

module _ {s : List ℕ} {stop : ℕ} {fs : List Field} {body place n : ℕ} (w : Walking s stop fs body place n) where
  pub over : length fs ≤ n → place ≡ body
  unfolding past_all
  over h = let v = rw (drop_all n fs h) at w.valid in cc

  -- the next field
  module _ (d : Field) (h : n < length fs) where
    abbrev pub end : ℕ
    end = field_end (field_of (get_or fs n d)) s stop place

    pub record Next : Type 0 where
      pub within : end ≤ stop
      pub more : Walking s stop fs body end (n + 1)

    pub next : Next
    next =
        let v = rw (drop_more fs n d h) at w.valid in
        let a = first_past (field_of (get_or fs n d)) _ s stop place v in
        let b = field_within (field_of (get_or fs n d)) s stop place a.0 w.high in
        record { within = b.1; more = record { high = b.1; valid = a.1 } }

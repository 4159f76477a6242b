-- The record that stands at a place of a sheet that passed, as the reader gives it. Assumes nothing.
use mathlib.Core.Path.{◌≡◌, refl, sym, ap, ◌∙◌}
use mathlib.Core.List.{List}
use Prim.Native.Nat.{ℕ, ◌+◌, ◌<◌, ◌≤◌}
use native.Mathlib.Omega.{arith}
use lib.ListN.{length}
use Rattle.definitions.specs.Fields.{le}
use Rattle.definitions.specs.Grammar.{Class, Field, Pattern, rows}
use Rattle.definitions.specs.Records.{no_row, row_in, row_fields, fields_end, read_values}
use Rattle.definitions.specs.Fine.{Head, Fine, ends, goes}
use Rattle.definitions.proofs.Sheets.Passed.{read_step}
use Rattle.std.specs.Prelude.{Result, Ok, Err, IsOk}
use Rattle.format.specs.Kinds.{IsKind}
use Rattle.format.specs.declared.kinds.Kind.{Kind}
use Rattle.format.specs.declared.kinds.UnknownKind.{UnknownKind}
use Rattle.sheet_rows.proofs.Rows.{unknown}
use Rattle.sheet.specs.Passed.{Passed, Standing, Node, record_kind, stop_of, body_of, values_at}

unfoldable pub node_of : {c : Class} {fs : List Field} {p r : Pattern} {s : List ℕ} {at end b stop : ℕ} → Head s at end c fs p b stop → Fine s b stop p → Fine s stop end r → Node s at end
unfolding body_of values_at row_fields
node_of {c} {fs} {p} {r} {s} {at} {end} {b} {stop} hd kids rest =
    let f : row_fields (row_in (record_kind s at) rows) ≡ fs = ap row_fields hd.is in
    let e : stop ≡ stop_of s at = hd.stop_is in
    let g : b ≡ body_of s at = rw (f, ← e) hd.body_is in
    let v : read_values fs s stop (at + 6) ≡ values_at s at = rw (f, ← e) in
    record {
      class = c;
      fields = fs;
      pattern = p;
      head = rw (g, e) at hd;
      kids = rw (g, e) at kids;
      rest = record { pattern = r; fine = rw e at rest };
      is = rw (v, g, e) at (read_step hd kids rest);
    }

opened : {s : List ℕ} {at end : ℕ} {q : Pattern} → Fine s at end q → at < end → Node s at end
opened (ends z m) h = absurd (omega arith)
opened (goes hd a kids rest) h = node_of hd kids rest

pub opens : {s : List ℕ} {at end : ℕ} → Passed s at end → at < end → Node s at end
opens p h = opened p.fine h

pub in_order : {s : List ℕ} {at end : ℕ} → Passed s at end → at ≤ end
in_order {s} {at} {end} p = go p.fine
  where
    go : {q : Pattern} → Fine s at end q → at ≤ end
    go (ends z m) = omega arith
    go (goes hd a kids rest) = omega (arith, hd.low, hd.mid, hd.high)

-- its length, of 6 bytes at least, ends within what passed
pub fits : {s : List ℕ} {at end : ℕ} → Passed s at end → at < end → (6 ≤ le 4 s at) × (at + le 4 s at ≤ end)
fits p h = let d = (opens p h).head in (omega (arith, d.low, d.mid), d.high)

-- its kind is one that `Kind::try_from` knows
pub known : {s : List ℕ} {at stop k : ℕ} → Standing s at stop k → {n : ℕ} → n ≡ record_kind s at → (r : Result Kind UnknownKind) → IsKind n r → IsOk r
known w e (Ok i) f = refl
known {s} {at} w e (Err x) f =
    let h = opens w.passed w.starts in
    let a : row_in (record_kind s at) rows ≡ no_row = rw (← e) (unknown f) in
    absurd (cc (a, h.head.is))

-- and its head fits
pub spans : {s : List ℕ} {at stop k : ℕ} → Standing s at stop k → (at + 6 ≤ stop) × (stop ≤ length s)
spans {s} {at} {stop} w =
    let h = (opens w.passed w.starts).head in
    let e : stop ≡ stop_of s at = w.stop_is in
    let i : w.end ≤ length s = w.inside in
    (omega (arith, h.low, h.mid), omega (arith, h.high))

-- BY KIND: the fields of the row of a kind say where the children start, and what the fields are
module _ {s : List ℕ} {at end : ℕ} (n : Node s at end) where
  fields_of_lem : {j : ℕ} → record_kind s at ≡ j → n.fields ≡ row_fields (row_in j rows)
  unfolding row_fields
  fields_of_lem e = sym (ap row_fields n.head.is) ∙ ap (λ (i : ℕ). row_fields (row_in i rows)) e

  pub head_of : {j : ℕ} → record_kind s at ≡ j → Head s at end n.class (row_fields (row_in j rows)) n.pattern (body_of s at) (stop_of s at)
  head_of e = rw (fields_of_lem e) at n.head

  pub children_of_lem : {j : ℕ} → record_kind s at ≡ j → body_of s at ≡ fields_end (row_fields (row_in j rows)) s (stop_of s at) (at + 6)
  children_of_lem e = (head_of e).body_is

  pub values_of : {j : ℕ} → record_kind s at ≡ j → values_at s at ≡ read_values (row_fields (row_in j rows)) s (stop_of s at) (at + 6)
  unfolding values_at
  values_of e = ap (λ (i : ℕ). read_values (row_fields (row_in i rows)) s (stop_of s at) (at + 6)) e

-- The record that starts at a place: its row, and what it leaves of the pattern around it. Assumes nothing.
use Rattle.std.proofs.Common.{◌≡◌, ℕ, ◌+◌, ◌-◌, ◌≤◌, refl, sym, ◌∙◌, Bool, true, false, leb, List, arith}
use Rattle.std.proofs.Math.Option.{Option, none, some}
use borrow.Author.Tests.{leb-true}
use Rattle.definitions.specs.Fields.{le}
use Rattle.definitions.specs.Grammar.{Class, Field, Pattern, rows}
use Rattle.definitions.specs.Records.{pick, Row, no_row, row, row_in, Next, refused, left, after, Start, nothing, starts, start_if, start_row, start_at, past_all}
use Rattle.definitions.proofs.Sheets.Passed.{Ends, all_past}
use Rattle.std.specs.Prelude.{Result, Ok, Err, IsErr}
use Rattle.sheet.specs.declared.errors.Malformed.{Malformed}
use Rattle.sheet.specs.declared.records.Start as code
use Rattle.sheet.specs.Starts.{row_at, start_of}

-- an error says that no record starts
pub shut : (r : Result code.Start Malformed) {x : Start} → IsErr r → nothing ≡ x → start_of r ≡ x
shut (Err fault) h e = e
shut (Ok a) h e = absurd cc

module _ (s : List ℕ) (at end : ℕ) where
  -- a row: the record's length fits
  module _ {c : Class} {fs : List Field} {p : Pattern} (e : row c fs p ≡ row_at s at end) where
    pub record Fitting : Type 0 where
      pub least : 6 ≤ le 4 s at
      pub most : le 4 s at ≤ end - at

    pub fitting : Fitting
    unfolding row_at
    fitting = go (leb 6 (end - at)) (leb 6 (le 4 s at)) (leb (le 4 s at) (end - at)) refl refl e
      where
        go : (x y z : Bool) → leb 6 (le 4 s at) ≡ y → leb (le 4 s at) (end - at) ≡ z → row c fs p ≡ pick x (pick y (pick z (row_in (le 2 s (at + 4)) rows) no_row) no_row) no_row → Fitting
        go true true true p q w = record { least = leb-true 6 _ p; most = leb-true _ _ q }
        go true true false p q w = absurd cc
        go true false z p q w = absurd cc
        go false y z p q w = absurd cc

  -- the start, by the row
  by_row : (q : Pattern) → start_at s at end q ≡ start_row s at (at + le 4 s at) q (row_at s at end)
  unfolding start_at row_at start_row
  by_row q = go (leb 6 (end - at)) (leb 6 (le 4 s at)) (leb (le 4 s at) (end - at))
    where
      go : (a b c : Bool) → pick a (pick b (pick c (start_row s at (at + le 4 s at) q (row_in (le 2 s (at + 4)) rows)) nothing) nothing) nothing
          ≡ start_row s at (at + le 4 s at) q (pick a (pick b (pick c (row_in (le 2 s (at + 4)) rows) no_row) no_row) no_row)
      go true true true = refl
      go true true false = refl
      go true false c = refl
      go false b c = refl

  -- the code's ways through `start_at`
  module _ (q : Pattern) where
    pub no_record : no_row ≡ row_at s at end → nothing ≡ start_at s at end q
    unfolding start_row
    no_record e = rw (by_row q, ← e)

    module _ {c : Class} {fs : List Field} {p : Pattern} (e : row c fs p ≡ row_at s at end) where
      by_fields : start_at s at end q ≡ start_if (past_all fs s (at + le 4 s at) (at + 6)) (at + le 4 s at) p (after q c)
      unfolding start_row
      by_fields = rw (by_row q, ← e)

      pub not_allowed : refused ≡ after q c → nothing ≡ start_at s at end q
      unfolding start_if
      not_allowed f = rw (by_fields, ← f)

      module _ {r : Pattern} (f : left r ≡ after q c) {stop : ℕ} (g : stop ≡ at + le 4 s at) where
        pub not_valid : none ≡ past_all fs s stop (at + 6) → nothing ≡ start_at s at end q
        unfolding start_if
        not_valid h = rw (by_fields, ← g, ← f, ← h)

        pub begun : {b : ℕ} → some b ≡ past_all fs s stop (at + 6) → starts b stop p r ≡ start_at s at end q
        unfolding start_if
        begun h = rw (by_fields, ← g, ← f, ← h)

  -- where it stands
  pub record Within (b stop : ℕ) : Type 0 where
    pub low : at + 6 ≤ b
    pub mid : b ≤ stop
    pub high : stop ≤ end

  pub within : (q : Pattern) {p r : Pattern} {b stop : ℕ} → starts b stop p r ≡ start_at s at end q → Within b stop
  unfolding start_row start_if
  within q {p} {r} {b} {stop} e = by_kind (row_at s at end) refl
    where
      by_values : {c : Class} {fs : List Field} {p' : Pattern} (f : row c fs p' ≡ row_at s at end) (o : Option ℕ) (n : Next) → past_all fs s (at + le 4 s at) (at + 6) ≡ o
          → starts b stop p r ≡ start_if o (at + le 4 s at) p' n → Within b stop
      by_values f o refused y z = absurd cc
      by_values f none (left m) y z = absurd cc
      by_values {fs = fs} f (some b') (left m) y z =
          let w = fitting f in
          let l : 6 ≤ le 4 s at = w.least in
          let h : le 4 s at ≤ end - at = w.most in
          let i : Ends fs s (at + le 4 s at) (at + 6) b' = all_past fs s (at + le 4 s at) (at + 6) b' y (omega arith) in
          let eb : b ≡ b' = cc in
          let es : stop ≡ at + le 4 s at = cc in
          record { low = omega (arith, i.low); mid = omega (arith, i.high); high = omega arith }

      by_kind : (x : Row) → row_at s at end ≡ x → Within b stop
      by_kind no_row f = absurd (cc (e, no_record q (sym f)))
      by_kind (row c fs p') f = by_values (sym f) (past_all fs s (at + le 4 s at) (at + 6)) (after q c) refl (e ∙ by_fields q (sym f))

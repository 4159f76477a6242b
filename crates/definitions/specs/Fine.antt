-- Records that passed the check, as a proof tree: at each record its row, where its children start and where it stops. No bound on calls in it.
-- An untrusted helper of proofs: no public promise cites it. Assumes nothing: these are definitions.
use Rattle.std.specs.Prelude.{ℕ, ◌+◌, ◌≤◌, ◌≡◌, true, List}
use Rattle.std.proofs.Math.Option.{some}
use Rattle.definitions.specs.Fields.{le}
use Rattle.definitions.specs.Grammar.{Class, Field, Pattern, origin_width, rows}
use Rattle.definitions.specs.Records.{after, fields_end, left, may_end, past_all, row, row_in}

-- a record that starts at a place: its row, and where its children start and it stops
pub record Head (s : List ℕ) (at end : ℕ) (c : Class) (fs : List Field) (p : Pattern) (b stop : ℕ) : Type 0 where
  pub is : row_in (le 2 s (at + 4)) rows ≡ row c fs p
  pub stop_is : stop ≡ at + le 4 s at
  pub valid : past_all fs s stop (at + 6) ≡ some b
  pub body_is : b ≡ fields_end fs s stop (at + 6)
  pub low : at + 6 ≤ b
  pub mid : b ≤ stop
  pub high : stop ≤ end

-- the records from a place to an end passed, against a pattern
pub data Fine (s : List ℕ) : ℕ → ℕ → Pattern → Type 0 where
  ends : {at end : ℕ} {q : Pattern} → at ≡ end → may_end q ≡ true → Fine s at end q
  goes : {at end b stop : ℕ} {q r p : Pattern} {c : Class} {fs : List Field} → Head s at end c fs p b stop → after q c ≡ left r → Fine s b stop p → Fine s stop end r → Fine s at end q

-- where the own fields of an instruction or terminator start, from the record's place: after its length, its kind and its origin
abbrev pub fields_start : ℕ
fields_start = 6 + origin_width

-- What stands at a place of a sheet that passed the check of its form. Assumes nothing: these are definitions.
use Rattle.std.specs.Prelude.{ℕ, ◌+◌, ◌<◌, ◌≤◌, ◌≡◌, List, length}
use Rattle.definitions.specs.Fields.{le}
use Rattle.definitions.specs.ContractSheet.{refusal3, refusal4}
use Rattle.definitions.specs.Grammar.{Class, Field, Pattern, rows}
use Rattle.definitions.specs.Records.{Good, FieldValue, Trees, node, tcons, row_in, row_fields, fields_end, read_values, read_records}
use Rattle.definitions.specs.Fine.{Head, Fine}

-- the records from `at` to `end` passed
pub record Passed (s : List ℕ) (at end : ℕ) : Type 0 where
  pub pattern : Pattern
  pub fine : Fine s at end pattern

-- the record at a place: its kind, where it stops, where its children start, its fields, and its children
abbrev pub record_kind : List ℕ → ℕ → ℕ
record_kind s at = le 2 s (at + 4)

abbrev pub stop_of : List ℕ → ℕ → ℕ
stop_of s at = at + le 4 s at

unfoldable pub body_of : List ℕ → ℕ → ℕ
body_of s at = fields_end (row_fields (row_in (record_kind s at) rows)) s (stop_of s at) (at + 6)

unfoldable pub values_at : List ℕ → ℕ → List FieldValue
values_at s at = read_values (row_fields (row_in (record_kind s at) rows)) s (stop_of s at) (at + 6)

abbrev pub children_of : List ℕ → ℕ → Trees
children_of s at = read_records s (body_of s at) (stop_of s at)

-- a record that passed stands at `at`
pub record Standing (s : List ℕ) (at stop kind : ℕ) : Type 0 where
  pub end : ℕ
  pub passed : Passed s at end
  pub starts : at < end
  pub inside : end ≤ length s
  pub stop_is : stop ≡ stop_of s at
  pub kind_is : kind ≡ record_kind s at

-- the first of the records from `at` to `end`, its children, and the records after it, as the reader gives them
pub record Node (s : List ℕ) (at end : ℕ) : Type 0 where
  pub class : Class
  pub fields : List Field
  pub pattern : Pattern
  pub head : Head s at end class fields pattern (body_of s at) (stop_of s at)
  pub kids : Fine s (body_of s at) (stop_of s at) pattern
  pub rest : Passed s (stop_of s at) end
  pub is : read_records s at end ≡ tcons (node at (record_kind s at) (values_at s at) (children_of s at)) (read_records s (stop_of s at) end)

-- a contract sheet of at most 32,768 bytes that passed 3 and 4
pub record ContractPassed (s : List ℕ) : Type 0 where
  pub short : length s ≤ 32768
  pub form : refusal3 s ≡ Good
  pub limits : refusal4 s ≡ Good

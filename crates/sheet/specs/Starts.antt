-- The record that starts at a place, as the code finds it, in the words of the definitions. Nothing here has to be believed: only the contracts of private
-- functions cite it. Assumes nothing: these are definitions.
use Rattle.std.specs.Prelude.{ℕ, ◌+◌, ◌-◌, List, leb, Option, None, Some, Result, Ok, Err}
use denote.Ref.{Bor}
use Rattle.definitions.specs.Fields.{le}
use Rattle.definitions.specs.Grammar.{rows}
use Rattle.definitions.specs.Records as records
use Rattle.definitions.specs.Records.{pick, no_row, row_in, Next, refused, left, nothing, starts}
use Rattle.sheet_rows.specs.Tables.{pattern_of, row_of}
use Rattle.sheet_rows.specs.declared.tables.Child.{Child}
use Rattle.sheet_rows.specs.declared.tables.Row.{Row}
use Rattle.sheet.specs.declared.errors.Malformed.{Malformed}
use Rattle.sheet.specs.declared.records.Start.{Start}

-- what a pattern leaves, if it allows the record
abbrev pub next_of : Option (Bor (List Child)) → Next
next_of None = refused
next_of (Some p) = left (pattern_of p.now)

-- the row that was found
abbrev pub row_found : Option (Bor Row) → records.Row
row_found None = no_row
row_found (Some r) = row_of r.now

-- the row of the record at a place, if its length fits what is left to `end`
unfoldable pub row_at : List ℕ → ℕ → ℕ → records.Row
row_at s at end = pick (leb 6 (end - at)) (pick (leb 6 (le 4 s at)) (pick (leb (le 4 s at) (end - at)) (row_in (le 2 s (at + 4)) rows) no_row) no_row) no_row

-- the record that starts
abbrev pub start_of : Result Start Malformed → records.Start
start_of (Err fault) = nothing
start_of (Ok x) = starts x.body x.stop (pattern_of x.children.now) (pattern_of x.rest.now)

-- `sheet::records::row_at`: a number that is no kind has no row. Assumes nothing.
use Rattle.std.proofs.Common.{rules}
use Rattle.sheet.specs.Starts.{row_at}
use Rattle.sheet_rows.proofs.Rows.{unknown}
use Rattle.sheet.proofs.records.row_at.Goals as goal

pub returns-in_err-kind : goal.returns-in_err-kind
unfolding row_at
returns-in_err-kind c = search (rules, unknown)

-- `sheet::records::start_at`: a way out for each step of the definition. Assumes nothing.
use Rattle.std.proofs.Common.{ℕ, ◌+◌, ap, arith}
use Rattle.definitions.proofs.Results.{told}
use Rattle.ir.specs.Answers.{option_of}
use Rattle.sheet.specs.Starts.{row_found, next_of}
use Rattle.sheet.proofs.Heads.{shut, fitting, no_record, not_allowed, not_valid, begun}
use Rattle.sheet.proofs.records.start_at.Goals as goal

pub returns-in_err-row-clause-is : goal.returns-in_err-row-clause-is
returns-in_err-row-clause-is c = shut _ c.from_residual.ensures.0 (no_record _ _ _ _ (told row_found c.in_err-row.ensures.ok_part c.row_at.ensures))

pub returns-in_err-rest-clause-is : goal.returns-in_err-rest-clause-is
returns-in_err-rest-clause-is c =
    shut _ c.from_residual-in_err-rest.ensures.0 (not_allowed _ _ _ _ (told row_found c.in_ok-row.ensures.ok_part c.row_at.ensures) (told next_of c.in_err-rest.ensures.ok_part c.after.ensures))

pub read-requires : goal.read-requires
read-requires c = let f = fitting _ _ _ (told row_found c.in_ok-row.ensures.ok_part c.row_at.ensures) in (omega (arith, f.least, f.most), omega arith)

pub past_fields-requires : goal.past_fields-requires
past_fields-requires c =
    let f = fitting _ _ _ (told row_found c.in_ok-row.ensures.ok_part c.row_at.ensures) in
    (omega (arith, f.least, f.most, c.read.ensures.0), omega (arith, f.least, f.most, c.read.ensures.0))

pub returns-in_err-body-clause-is : goal.returns-in_err-body-clause-is
returns-in_err-body-clause-is c =
    shut _ c.from_residual-in_err-body.ensures.0
    (not_valid _ _ _ _ (told row_found c.in_ok-row.ensures.ok_part c.row_at.ensures) (told next_of c.in_ok-rest.ensures.ok_part c.after.ensures) (ap (λ (l : ℕ). c.args.at + l) c.read.ensures.0)
    (told (option_of (λ (p : ℕ). p)) c.in_err-body.ensures.ok_part c.past_fields.ensures))

pub returns-clause-is : goal.returns-clause-is
returns-clause-is c =
    begun _ _ _ _ (told row_found c.in_ok-row.ensures.ok_part c.row_at.ensures) (told next_of c.in_ok-rest.ensures.ok_part c.after.ensures) (ap (λ (l : ℕ). c.args.at + l) c.read.ensures.0)
    (told (option_of (λ (p : ℕ). p)) c.in_ok-body.ensures.ok_part c.past_fields.ensures)

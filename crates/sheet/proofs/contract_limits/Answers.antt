-- `sheet::contract_limits`: a sheet whose form is good passed the check. Assumes nothing.
use borrow.Author.Rules.{rules}
use native.Mathlib.Omega.{arith}
use Rattle.definitions.specs.ContractSheet.{refusal3, refusal4}
use Rattle.definitions.specs.Records.{check_records}
use Rattle.definitions.proofs.Sheets.Passed.{fine}
use Rattle.sheet.proofs.contract_limits.Goals as goal

pub limits-requires : goal.limits-requires
unfolding refusal3 check_records
limits-requires c = (record { pattern = _; fine = fine _ _ _ _ _ c.requires }, (search rules, omega arith))

pub returns : goal.returns
unfolding refusal4
returns c = c.limits.ensures

-- `sheet_rows::tables::Entry::all_valid`: each entry is valid, or one is not. Assumes nothing. The code has a loop for each kind of entry, for its speed, so each has an answer.
use Rattle.std.proofs.Common.{rules}
use borrow.Author.Tests.{tests}
use Rattle.definitions.specs.Records.{size_of, ok_item}
use Rattle.sheet_rows.proofs.Entries.{all_valid}
use Rattle.sheet_rows.proofs.tables.Entry.all_valid.Goals as goal

pub returns-in-Id : goal.returns-in-Id
unfolding size_of ok_item
returns-in-Id c = rw c.in-Id.is (all_valid _ _ _ c.all.ensures.ran (λ x b q k. search (rules, tests)))

pub returns-in-Type : goal.returns-in-Type
unfolding size_of ok_item
returns-in-Type c = rw c.in-Type.is (all_valid _ _ _ c.all-in-Type.ensures.ran (λ x b q k. search (rules, tests)))

pub returns-in-ValueAndType : goal.returns-in-ValueAndType
unfolding size_of ok_item
returns-in-ValueAndType c = rw c.in-ValueAndType.is (all_valid _ _ _ c.all-in-ValueAndType.ensures.ran (λ x b q k. search (rules, tests)))

pub returns-in-NameAndType : goal.returns-in-NameAndType
unfolding size_of ok_item
returns-in-NameAndType c = rw c.in-NameAndType.is (all_valid _ _ _ c.all-in-NameAndType.ensures.ran (λ x b q k. search (rules, tests)))

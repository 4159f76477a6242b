-- `sheet::records::may_end`: a child that has to come stands in the way. Assumes nothing.
use Rattle.std.proofs.Common.{rules}
use borrow.Author.Tests.{tests}
use Rattle.std.proofs.lemmas.Iterator.{cases_from_all, YieldsList-from_slice}
use Rattle.sheet.proofs.Ends.{Spared, Needed, ends}
use Rattle.sheet.proofs.records.may_end.Goals as goal

pub returns : goal.returns
returns c =
    ends c.args.pattern.now c.all.result (cases_from_all _ _ _ Spared Needed c.all.ensures.ran (YieldsList-from_slice c.args.pattern.now cc)
    (λ x q k. search (rules, tests)) (λ x q k. search (rules, tests)))

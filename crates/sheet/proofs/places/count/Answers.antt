-- `sheet::places::count`: what is counted and what is left make the count. Assumes nothing.
use native.Mathlib.Omega.{arith}
use borrow.Author.Rules.{rules}
use Rattle.sheet.proofs.Nodes.{fits}
use Rattle.sheet.proofs.Counts.{counted, next}
use Rattle.sheet.proofs.places.count.Goals as goal

pub loop-place-init : goal.loop-place-init
loop-place-init c = record { passed = search rules; few = omega arith; same = omega arith; fits = fits c.requires.0 }

pub loop-place-preserved : goal.loop-place-preserved
loop-place-preserved c = next c.loop-place.invariant c.loop-place-test.true c.read-place.ensures.0

pub returns : goal.returns
returns c = search (counted, rules)

-- `contract_lookup::symbols::last_storage`: the walk goes on from the field at `at`. Assumes nothing.
use Prim.Native.Nat.{◌+◌, ◌*◌, ◌<◌}
use native.Mathlib.Omega.{arith}
use lib.ListN.{length}
use Rattle.contract_lookup.proofs.Lasts.{top_at}
use Rattle.contract_lookup.proofs.Storing.{Behind, behind_begun, none_behind, all_behind, past_behind, last_behind, behind_on}
use Rattle.contract_lookup.proofs.symbols.last_storage.Goals as goal
use Rattle.contract_lookup.proofs.symbols.last_storage.Goals.{After-this_or_earlier-found}

-- behind the first field of a turn
second : (c : After-this_or_earlier-found) → Behind c.args.contract.sheet.now (2 + 65536 * c.args.name.0) c.this_or_earlier-found.result (c.loop-at.at + 10)
second c = behind_on c.loop-at.invariant (omega (arith, c.loop-at-test.true)) c.read-here.ensures.0 c.if-here-ne-STORAGE.false c.this_or_earlier-found.ensures

-- which is inside, since more than one field fits
inside : (c : After-this_or_earlier-found) → c.loop-at.at + 10 < length c.args.contract.sheet.now
inside c = omega (arith, c.loop-at-test.true, c.if-s-bytes.false)

pub returns-then-s-bytes : goal.returns-then-s-bytes
returns-then-s-bytes c = none_behind c.args.contract.sheet.now c.args.name.0 c.args.contract.passed (omega (arith, c.if-s-bytes.true))

pub loop-at-init : goal.loop-at-init
loop-at-init c = behind_begun c.args.contract.sheet.now c.args.name.0 c.args.contract.passed

pub returns-then-here-ne-STORAGE : goal.returns-then-here-ne-STORAGE
returns-then-here-ne-STORAGE c =
    past_behind c.args.name.0 c.loop-at.invariant (omega (arith, c.loop-at-test.true)) c.read-here.ensures.0 c.if-here-ne-STORAGE.true

pub read-here-requires-in-loop-at : goal.read-here-requires-in-loop-at
read-here-requires-in-loop-at c =
    let h = (goal.at.read-here-requires-in-loop-at c).After-this_or_earlier-found in
    let P = top_at (second h).storing.walking (inside h) in
    (omega (arith, P.long, P.inside), omega arith)

pub returns-then-here-ne-STORAGE-2 : goal.returns-then-here-ne-STORAGE-2
returns-then-here-ne-STORAGE-2 c =
    let h = (goal.at.returns-then-here-ne-STORAGE-2 c).After-this_or_earlier-found in
    past_behind c.args.name.0 (second h) (inside h) c.read-here-in-loop-at.ensures.0 c.if-here-ne-STORAGE-2.true

pub loop-at-preserved : goal.loop-at-preserved
loop-at-preserved c =
    let h = (goal.at.loop-at-preserved c).After-this_or_earlier-found in
    behind_on (second h) (inside h) c.read-here-in-loop-at.ensures.0 c.if-here-ne-STORAGE-2.false c.this_or_earlier-found-in-loop-at.ensures

pub read-here-requires-then-at-s : goal.read-here-requires-then-at-s
read-here-requires-then-at-s c = let P = top_at c.loop-at.invariant.storing.walking c.if-at-s.true in (omega (arith, P.long, P.inside), omega arith)

pub returns-then-at-s : goal.returns-then-at-s
returns-then-at-s c =
    last_behind c.args.name.0 c.loop-at.invariant c.if-at-s.true (omega (arith, c.loop-at-test.false)) c.read-here-then-at-s.ensures.0 c.this_or_earlier-found-then-at-s.ensures

pub returns-else-at-s : goal.returns-else-at-s
returns-else-at-s c = all_behind c.args.name.0 c.loop-at.invariant c.if-at-s.false

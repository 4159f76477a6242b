-- `contract_lookup::declarations::places_of`: the walk goes on from the record at `at`. Assumes nothing.
use mathlib.Core.Path.{sym}
use Prim.Native.Nat.{◌<◌}
use native.Mathlib.Omega.{arith}
use lib.ListN.{length}
use Rattle.format.specs.Kinds.{declaration_number}
use Rattle.contract_lookup.proofs.Lasts.{kind_is, kind_not, kind_past}
use Rattle.contract_lookup.proofs.Placing.{begun, listed, top_at, stopped, other_kind, room, this_kind}
use Rattle.contract_lookup.proofs.declarations.places_of.Given.{Over}
use Rattle.contract_lookup.proofs.declarations.places_of.Goals as goal
use Rattle.contract_lookup.proofs.declarations.places_of.Goals.{Then-here-wanted, then-here-wanted, else-here-wanted}

-- there is room for the place
stores : {g : Over} (c : Then-here-wanted g) → length c.loop-at.places.items < 64
stores c =
    room c.loop-at.invariant c.loop-at-test.true (kind_is c.read_u16-here.ensures c.from-wanted.ensures c.if-here-wanted.true) c.args.contract.passed c.requires.not_storage

pub loop-at-init : goal.loop-at-init
loop-at-init g c = rw c.requires.empty (begun (declaration_number c.args.kind) c.args.contract.passed)

pub returns-then-wanted-here : goal.returns-then-wanted-here
returns-then-wanted-here g c = stopped c.loop-at.invariant c.loop-at-test.true (kind_past c.read_u16-here.ensures c.from-wanted.ensures c.if-wanted-here.true)

pub push-requires : goal.push-requires
push-requires g c = omega (arith, stores (goal.at.push-requires g c).Then-here-wanted, c.requires.room)

pub past-at-requires : goal.past-at-requires
past-at-requires g c =
    let T = top_at c.loop-at.invariant c.loop-at-test.true in
    (c.read_u16-here.ensures, T.ready (sym c.read_u16-here.ensures))

pub loop-at-preserved : goal.loop-at-preserved
loop-at-preserved g c =
    let W = c.loop-at.invariant in
    let l = c.loop-at-test.true in
    let r = c.read_u16-here.ensures in
    let f = c.from-wanted.ensures in
    rw c.past-at.ensures
    (elim c.if-here-wanted.branch [
      | then-here-wanted w ↦
          let e = kind_is r f w.if-here-wanted.true in
          rw (w.places-is, w.push.ensures.items) (this_kind W l e (room W l e c.args.contract.passed c.requires.not_storage))
      | else-here-wanted w ↦ rw w.places-is (other_kind W l (kind_not r f w.if-here-wanted.false))
    ])

pub returns : goal.returns
returns g c = listed c.loop-at.invariant c.loop-at-test.false

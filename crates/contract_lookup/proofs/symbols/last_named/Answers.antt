-- `contract_lookup::symbols::last_named`: the walk goes on from the record at `at`. Assumes nothing.
use mathlib.Core.Path.{refl, sym, ◌∙◌}
use native.Mathlib.Omega.{arith}
use Rattle.format.specs.Kinds.{declaration_number}
use Rattle.std.specs.Prelude.{None}
use Rattle.contract_lookup.proofs.Lasts.{same_name, other_name, kind_is, kind_not, kind_past, at_place, begun, walked, stopped, top_at, other_kind, has_name, has_not, this_kind, moved}
use Rattle.contract_lookup.proofs.symbols.last_named.Goals as goal
use Rattle.contract_lookup.proofs.symbols.last_named.Goals.{then-here-wanted, else-here-wanted, then-eq, else-eq}

pub loop-at-init : goal.loop-at-init
loop-at-init c = begun c.args.contract.sheet.now (declaration_number c.args.kind) c.args.name.0 c.args.contract.passed

pub returns-then-wanted-here : goal.returns-then-wanted-here
returns-then-wanted-here c =
    let r = stopped c.loop-at.invariant c.loop-at-test.true (kind_past c.read_u16-here.ensures c.from-wanted.ensures c.if-wanted-here.true) in
    record { is = r.0; stands = r.1 }

pub read_u16-requires : goal.read_u16-requires
read_u16-requires c =
    let P = top_at c.loop-at.invariant c.loop-at-test.true in
    omega (arith, P.long, P.inside)

pub past-at-requires : goal.past-at-requires
past-at-requires c =
    let P = top_at c.loop-at.invariant c.loop-at-test.true in
    (c.read_u16-here.ensures, P.ready (sym c.read_u16-here.ensures))

pub loop-at-preserved : goal.loop-at-preserved
loop-at-preserved c =
    let W = c.loop-at.invariant in
    let l = c.loop-at-test.true in
    let r = c.read_u16-here.ensures in
    let f = c.from-wanted.ensures in
    rw c.past-at.ensures
    (elim c.if-here-wanted.branch [
      | then-here-wanted w ↦
          let e = kind_is r f w.if-here-wanted.true in
          elim w.if-eq.branch [
            | then-eq v ↦ moved (w.found-is ∙ v.found-is) w.position-is (this_kind W l (at_place c.loop-at.position c.loop-at.at) e (has_name W l e (same_name w.eq.ensures w.new.ensures w.read_u16.ensures v.if-eq.true) refl))
            | else-eq v ↦ moved (w.found-is ∙ v.found-is) w.position-is (this_kind W l None e (has_not W l (other_name w.eq.ensures w.new.ensures w.read_u16.ensures v.if-eq.false) refl))
          ]
      | else-here-wanted w ↦ moved w.found-is w.position-is (other_kind W l (kind_not r f w.if-here-wanted.false))
    ])

pub returns : goal.returns
returns c = let r = walked c.loop-at.invariant c.loop-at-test.false in record { is = r.0; stands = r.1 }

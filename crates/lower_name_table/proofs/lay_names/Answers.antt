-- `lower_name_table::lay_names`: the names of the functions before the next are laid down. Assumes nothing.
use mathlib.Core.Path.{sym, ◌∙◌}
use Rattle.lower_layout.proofs.Storing.{laid_start}
use Rattle.lower_name_table.proofs.Names.{start, named, next_old, next_new, lost_new}
use Rattle.lower_name_table.proofs.lay_names.Goals as goal

pub loop-id-init : goal.loop-id-init
loop-id-init c =
    let e = c.iter-id-items.ensures in
    rw c.into_iter-id-iterator.ensures.into_iter_gives (start e.0 e.1 (laid_start c.in_ok-at.ensures))

pub last_id-requires : goal.last_id-requires
last_id-requires c = named c.loop-id.invariant c.in-Some.ensures.steps c.name-name.ensures

pub returns-in_err-at-2 : goal.returns-in_err-at-2
returns-in_err-at-2 c =
    let first = sym c.named_before.ensures ∙ c.if-not-named_before.true in
    rw c.from_residual-in_err-at-2.ensures (lost_new c.loop-id.invariant c.in-Some.ensures.steps c.name-name.ensures first c.last_id.ensures c.in_err-at-2.ensures)

pub loop-id-preserved-then-not-named_before : goal.loop-id-preserved-then-not-named_before
loop-id-preserved-then-not-named_before c =
    let first = sym c.named_before.ensures ∙ c.if-not-named_before.true in
    next_new c.loop-id.invariant c.in-Some.ensures.steps c.name-name.ensures first c.last_id.ensures c.in_ok-at-2.ensures

pub loop-id-preserved : goal.loop-id-preserved
loop-id-preserved c = next_old c.loop-id.invariant c.in-Some.ensures.steps c.name-name.ensures (sym c.named_before.ensures ∙ c.if-not-named_before.false)

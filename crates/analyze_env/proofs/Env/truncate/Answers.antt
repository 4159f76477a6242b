-- `analyze_env::Env::truncate`: the newest binding's chain gets back the head from before it. Assumes nothing. `reaches` gets the bindings each time: the view
-- shows them only where it is unfolded.
use Prim.Native.Nat.{◌-◌}
use native.Mathlib.Omega.{arith}
use borrow.Rule.Slice.PartMut.{put_same}
use Rattle.analyze_env.proofs.Chains.{all_left, newest_undone, all_undone, reaches, cut}
use Rattle.analyze_env.proofs.Env.truncate.Goals as goal

pub offset_bounds-self-inside-mark : goal.offset_bounds-self-inside-mark
offset_bounds-self-inside-mark c =
    let i = c.self.inside in
    record { fits = omega (arith, c.self.invariant.room, c.self.invariant.short, reaches i.bindings.now i.count c.self.view_is c.requires) }

pub slice_bounds-going-count : goal.slice_bounds-going-count
slice_bounds-going-count c = reaches c.self.inside.bindings.now c.self.inside.count c.self.view_is c.requires

pub slice_bounds-going-start : goal.slice_bounds-going-start
slice_bounds-going-start c = slice_bounds-going-count c

pub loop-e-init : goal.loop-e-init
loop-e-init c = all_left _ _ _

pub loop-e-preserved : goal.loop-e-preserved
loop-e-preserved c = newest_undone c.loop-e.invariant _ _ c.in-Some.ensures.steps c.chain_of-chain.ensures

pub invariant_of-self : goal.invariant_of-self
invariant_of-self c =
    let i = c.self.inside in
    rw (put_same c.args.mark (i.count - c.args.mark) i.bindings.now)
    (all_undone c.loop-e.invariant c.self.invariant (reaches i.bindings.now i.count c.self.view_is c.requires)
    (rw (c.into_iter-e-iterator.ensures.into_iter_gives, c.rev-e-items.ensures.source) c.iter.ensures.rest) c.in-None.ensures.steps.0)

pub returns : goal.returns
returns c =
    let i = c.self.inside in
    rw (put_same c.args.mark (i.count - c.args.mark) i.bindings.now) (cut i.bindings.now i.count c.self.view_is c.args.mark c.requires)

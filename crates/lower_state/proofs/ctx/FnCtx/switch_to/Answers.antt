-- `FnCtx::switch_to`: the block starts where the log ends. Assumes nothing.
use mathlib.Core.Path.{refl}
use Rattle.lower_walk.specs.Stmts.{switch_to}
use Rattle.lower_state.proofs.Spans.{started_starts, started_stops}
use Rattle.lower_state.proofs.ctx.FnCtx.switch_to.Goals as goal

pub returns : goal.returns
unfolding switch_to
returns c =
    let s = c.self.inside.spans in
    let k = c.args.block.0 in
    let to = c.place_of.result in
    rw (← c.self.view_is, started_starts s k to, started_stops s k to, c.place_of.ensures) refl

-- `FnCtx::close`: the block stops where the log ends. Assumes nothing.
use mathlib.Core.Path.{refl}
use Rattle.lower_state.proofs.Spans.{stopped_starts, stopped_stops}
use Rattle.lower_state.proofs.ctx.FnCtx.close.Goals as goal

pub returns : goal.returns
returns c =
    let i = c.self.inside in
    let to = c.place_of.result in
    rw (← c.self.view_is, stopped_starts i.spans i.current.0 to, stopped_stops i.spans i.current.0 to, c.place_of.ensures) refl

-- `FnCtx::new`: all is blank. Assumes nothing.
use mathlib.Core.Path.{refl}
use Rattle.std.proofs.Common.{rules}
use Rattle.lower_state.proofs.ctx.FnCtx.new.Goals as goal

pub invariant_of-result : goal.invariant_of-result
invariant_of-result c =
    let first = c.next_block-current.ensures in
    rw first.counted (record { sound = search rules; log = refl; locals = refl })

-- `FnCtx::begin`: what was written is cleared, and the first block starts where the log does. Assumes nothing.
use mathlib.Core.Path.{refl}
use Rattle.std.proofs.Common.{rules}
use Rattle.ir.specs.declared.IrType.TheVariants as ty
use Rattle.lower_walk.specs.Layout.{new_ctx}
use Rattle.lower_state.proofs.Blanks.{cleared, zeros_cleared}
use Rattle.lower_state.proofs.Spans.{started_starts, started_stops}
use Rattle.lower_state.proofs.ctx.FnCtx.begin.Goals as goal

pub returns-clause-is : goal.returns-clause-is
unfolding new_ctx
returns-clause-is c =
    let s = c.self.inside.spans in
    let first = c.next_block-self-inside.ensures in
    rw (← c.self.view_is, first.counted, first.number, started_starts s 0 0, started_stops s 0 0) refl

pub invariant_of-self : goal.invariant_of-self
invariant_of-self c =
    let i = c.self.inside in
    let k = c.self.invariant in
    let first = c.next_block-self-inside.ensures in
    rw (first.counted, first.number)
    (record {
      sound = search rules;
      log = zeros_cleared i.log i.to c.unwrap_or.result c.unwrap_or.ensures k.sound.to k.log (c.fill.ensures.after (λ y same. same));
      locals = cleared 256 ty.U64 i.locals i.counters.local k.sound.locals k.locals (c.fill-2.ensures.after (λ y same. same));
    })

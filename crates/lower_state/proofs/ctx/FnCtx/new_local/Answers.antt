-- `FnCtx::new_local`: the type is stored behind the others. Assumes nothing.
use native.Mathlib.Omega.{arith}
use Rattle.std.proofs.Common.{rules}
use Rattle.ir.specs.declared.IrType.TheVariants as ty
use Rattle.lower_state.proofs.Blanks.{one_stored}
use Rattle.lower_state.proofs.ctx.FnCtx.new_local.Goals as goal

pub invariant_of-self : goal.invariant_of-self
invariant_of-self c =
    let i = c.self.inside in
    let k = c.self.invariant in
    let next = c.next_local-local.ensures in
    rw (next.counted, next.number) (record { sound = search rules; log = k.log; locals = one_stored 256 ty.U64 i.locals i.counters.local k.sound.locals k.locals c.args.ty (omega arith) })

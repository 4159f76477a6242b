-- `FnCtx::append_record`: zeros stay behind the log's records, and nothing is appended to a lost log. Assumes nothing.
use mathlib.Core.Path.{ap, subst}
use Rattle.std.proofs.Common.{rules}
use Rattle.lower_walk.specs.Stmts.{with_log}
use Rattle.lower_state.specs.Bytes.{part_in, record_bytes, ids_of}
use Rattle.lower_state.specs.State.{ctx_in}
use Rattle.lower_state.specs.Restored.{ZerosBehind}
use Rattle.lower_state.proofs.Appending.{lost_log}
use Rattle.lower_state.proofs.ctx.FnCtx.append_record.Goals as goal

pub invariant_of-self : goal.invariant_of-self
invariant_of-self c =
    let k = c.self.invariant in
    let put = c.put_record-self-inside.ensures in
    record { sound = search rules; log = put.zeros (subst (ZerosBehind c.self.inside.log) c.in-Some.is k.log); locals = k.locals }

pub returns-in_default : goal.returns-in_default
returns-in_default c =
    let i = c.self.inside in
    let a = c.args in
    rw (← c.self.view_is) (ap (λ g. with_log g (ctx_in i)) (lost_log i.log (record_bytes a.kind a.first (part_in a.a) (part_in a.b) (part_in a.c) (ids_of a.ids.now)) i.to i.counters.value c.in_default.not-Some))

-- `machine_slots::ValueIds::slot_of`: the id itself where the ids are dense, and else its position. Assumes nothing.
use mathlib.Core.Path.{ap, ap₂, sym, ◌∙◌}
use Prim.Native.Nat.{ℕ}
use lib.ListN.{length}
use Rattle.std.specs.Prelude.{Result}
use Rattle.std.specs.Result.{result_err}
use Rattle.ir.specs.Answers.{option_of}
use Rattle.program_nodes.specs.Nodes.{ir_of}
use Rattle.machine_slots.specs.Slots.{value_ids, one_of}
use Rattle.machine_slots.specs.declared.Tally.{Tally}
use Rattle.machine_slots.proofs.Searching.{one_told, position_is, in_order, by_id}
use Rattle.machine_slots.proofs.ValueIds.slot_of.Goals as goal

pub returns-then-not-dense : goal.returns-then-not-dense
returns-then-not-dense c =
    let ids = value_ids (ir_of c.args.self.function) in
    ap (option_of (λ (i : ℕ). i)) c.err.ensures.value
    ∙ (ap (λ (r : Result Tally ℕ). option_of (λ (i : ℕ). i) (result_err r)) c.search.ensures
    ∙ (position_is c.args.v.0 ids ∙ ap (one_of (length ids)) (sym (in_order ids c.args.v.0 c.args.self.count_is c.args.self.above_is (sym c.dense.ensures ∙ c.if-not-dense.true)))))

pub returns : goal.returns
returns c =
    let ids = value_ids (ir_of c.args.self.function) in
    ap (option_of (λ (i : ℕ). i)) c.then_some.ensures
    ∙ (one_told c.args.self.count c.args.v.0 ∙ ap₂ one_of c.args.self.count_is (sym (by_id ids c.args.v.0 c.args.self.count_is c.args.self.above_is (sym c.dense.ensures ∙ c.if-not-dense.false))))

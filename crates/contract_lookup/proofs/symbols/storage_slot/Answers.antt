use mathlib.Core.Path.{ap, sym, ◌∙◌}
use Rattle.ir.specs.Answers.{option_of}
use Rattle.contract_lookup.specs.Answers.{slot_at}
use Rattle.contract_lookup.proofs.Storing.{no_field, field_before}
use Rattle.contract_lookup.proofs.Symbolic.{slot_is}
use Rattle.contract_lookup.proofs.symbols.storage_slot.Goals as goal

pub returns-then-behind-eq-CHILDREN : goal.returns-then-behind-eq-CHILDREN
returns-then-behind-eq-CHILDREN c =
    let w = c.last_storage-behind.ensures in
    ap (option_of slot_at) (sym (no_field w.0 w.1 c.if-behind-eq-CHILDREN.true)) ∙ slot_is c.args.name.0 c.args.contract.passed w.0 w.2

pub returns : goal.returns
returns c =
    let w = c.last_storage-behind.ensures in
    rw c.slot_at.ensures (ap (option_of slot_at) (sym (field_before w.0 w.1 c.if-behind-eq-CHILDREN.false)) ∙ slot_is c.args.name.0 c.args.contract.passed w.0 w.2)

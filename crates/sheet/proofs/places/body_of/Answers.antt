-- `sheet::places::body_of`: the fields that are left lead to the children. Assumes nothing.
use Rattle.std.proofs.Common.{arith}
use Rattle.sheet.proofs.Nodes.{spans}
use Rattle.sheet.proofs.Bodies.{starts, over, next}
use Rattle.sheet.proofs.places.body_of.Goals as goal

pub loop-field-init : goal.loop-field-init
loop-field-init c = starts c.row_of.result.now c.requires c.row_of.ensures

pub field_end-place-requires : goal.field_end-place-requires
field_end-place-requires c = let h = next c.loop-field.invariant _ c.loop-field-test.true in (h.within, (spans c.requires).1)

pub loop-field-preserved : goal.loop-field-preserved
loop-field-preserved c = let h = next c.loop-field.invariant _ c.loop-field-test.true in rw c.field_end-place.ensures h.more

pub returns : goal.returns
returns c = over c.loop-field.invariant (omega arith)

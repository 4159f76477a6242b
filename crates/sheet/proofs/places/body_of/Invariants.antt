-- `sheet::places::body_of`: the fields that are left lead to the children. Assumes nothing.
use Rattle.sheet.specs.Passed.{body_of}
use Rattle.sheet.proofs.Bodies.{Walking}
use Rattle.sheet.proofs.places.body_of.Given as goal

abbrev pub invariant-loop-field : goal.invariant-loop-field
invariant-loop-field l = Walking l.s l.stop l.field-items (body_of l.s l.at) l.place l.field-index

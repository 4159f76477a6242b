-- `sheet::places::record_kind`: a record that passed has a row, so its kind has a name. Assumes nothing.
use Rattle.sheet.proofs.Nodes.{known}
use Rattle.sheet.proofs.places.record_kind.Goals as goal

pub unwrap-requires : goal.unwrap-requires
unwrap-requires c = known c.requires c.read_u16.ensures _ c.try_from.ensures

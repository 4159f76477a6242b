-- `machine_state::frame::Frame::value_cell`: its slot is one of the frame's. Assumes nothing.
use native.Mathlib.Omega.{arith}
use Rattle.std.proofs.lemmas.Bool.Decides.{nat_tests}
use Rattle.machine_slots.proofs.Indices.{slot_low}
use Rattle.machine_state.specs.Frames.{slot_place}
use Rattle.machine_state.proofs.frame.Frame.value_cell.Goals as goal

pub unwrap-requires : goal.unwrap-requires
unfolding slot_place
unwrap-requires c = grind (arith, nat_tests, slot_low)

pub returns-clause-is : goal.returns-clause-is
unfolding slot_place
returns-clause-is c = grind (arith, nat_tests, slot_low)

-- `machine_state::frame::Frame::local_place`: each cell's number is below the frame's bytes. Assumes nothing.
use native.Mathlib.Omega.{arith}
use Rattle.machine_slots.proofs.Indices.{frame_bytes}
use Rattle.machine_state.specs.Frames.{frame_function}
use Rattle.machine_state.proofs.frame.Frame.local_place.Goals as goal

pub overflow_add-self : goal.overflow_add-self
overflow_add-self c = omega (arith, c.args.self.now.end, c.args.self.now.locals_are, c.args.self.now.ids.count_is, frame_bytes (frame_function c.args.self.now))

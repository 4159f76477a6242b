-- `machine_state::frame::Frame::place`: each cell lies within the frame's bytes, and so the numbers on the way to it fit. Assumes nothing.
use native.Mathlib.Omega.{arith}
use Rattle.machine_slots.proofs.Indices.{frame_bytes}
use Rattle.machine_state.specs.Frames.{frame_function}
use Rattle.machine_state.proofs.frame.Frame.place.Goals as goal

pub overflow_mul-result : goal.overflow_mul-result
overflow_mul-result c = omega (arith, c.args.self.now.end, frame_bytes (frame_function c.args.self.now))

pub overflow_add-result : goal.overflow_add-result
overflow_add-result c = omega (arith, c.args.self.now.end, frame_bytes (frame_function c.args.self.now))

pub returns-clause-within : goal.returns-clause-within
returns-clause-within c = omega (arith, frame_bytes (frame_function c.args.self.now))

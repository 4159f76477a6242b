-- `program_nodes::instr::Instr::result`: it stands behind the origin. Assumes nothing.
use native.Mathlib.Omega.{arith}
use Rattle.program_nodes.proofs.Facts.{instr_to, instr_result_fits}
use Rattle.program_nodes.proofs.instr.Instr.result.Goals as goal

pub overflow_add-self : goal.overflow_add-self
overflow_add-self c = omega (arith, instr_result_fits c.args.self, c.ranges.self)

pub opt_id-requires : goal.opt_id-requires
opt_id-requires c = omega (arith, instr_result_fits c.args.self, (instr_to c.args.self).inside)

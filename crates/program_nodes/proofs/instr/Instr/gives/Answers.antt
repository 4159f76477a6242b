-- `program_nodes::instr::Instr::gives`: the number that stands there is the value's, and is not that of no result. Assumes nothing.
use native.Mathlib.Omega.{arith}
use Rattle.program_nodes.proofs.Facts.{instr_result_fits, gives_same, gives_other}
use Rattle.program_nodes.proofs.instr.Instr.gives.Goals as goal

pub id-value-requires : goal.id-value-requires
id-value-requires c = omega (arith, instr_result_fits c.args.self)

pub returns-then-value-v : goal.returns-then-value-v
returns-then-value-v c = gives_same c.id-value.ensures c.if-value-v.true

pub returns-else-value-v : goal.returns-else-value-v
returns-else-value-v c = gives_other c.id-value.ensures c.if-value-v.false

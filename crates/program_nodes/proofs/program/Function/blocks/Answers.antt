-- `program_nodes::program::Function::blocks`: from the first to where it stops. Assumes nothing.
use Rattle.sheet.proofs.Standing.{good}
use Rattle.program_nodes.proofs.Facts.{function_is}
use Rattle.program_nodes.proofs.program.Function.blocks.Goals as goal

pub invariant_of-result : goal.invariant_of-result
invariant_of-result c = let F = function_is c.args.self in record { here = (good F.blocks, F.inside) }

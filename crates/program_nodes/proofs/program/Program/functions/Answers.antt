-- `program_nodes::program::Program::functions`: they stand behind the head. Assumes nothing.
use Rattle.program_nodes.proofs.program.Program.functions.Goals as goal

pub invariant_of-result : goal.invariant_of-result
invariant_of-result c = record { here = c.args.self.passed }

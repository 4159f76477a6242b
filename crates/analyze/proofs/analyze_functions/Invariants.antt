-- `analyze::analyze_functions`: what is left of the functions gives what all of them give. Assumes nothing.
use Rattle.contract_nodes.specs.Nodes.{contract_in}
use Rattle.analyze.specs.Whole.{check_bodies}
use Rattle.analyze.proofs.Turning.{Going}
use Rattle.analyze.proofs.analyze_functions.Given as goal

abbrev pub invariant-loop-f : goal.invariant-loop-f
invariant-loop-f l = Going l.contract.sheet.now (check_bodies (contract_in l.contract)) l.env l.f-iterator

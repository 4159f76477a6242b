use Rattle.contract_nodes.proofs.Standing.{ready}
use Rattle.contract_nodes.proofs.Children.{size_fits}
use Rattle.contract_nodes.proofs.stmt.Stmt.end.Goals as goal

pub read-requires : goal.read-requires
read-requires c = size_fits (ready c.args.self.ready)

-- `lower_layout::function_size`: the start, its parameters and locals, and the blocks. Assumes nothing.
use Rattle.contract_nodes.specs.Nodes.{function_in}
use Rattle.lower_layout.proofs.Records.{sized}
use Rattle.lower_layout.proofs.function_size.Goals as goal

pub returns : goal.returns
returns c = sized (function_in c.args.f) c.args.ctx.now _ c.param_count-params.ensures.count c.locals.ensures.is c.blocks_size.ensures.is

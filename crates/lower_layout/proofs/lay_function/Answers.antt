-- `lower_layout::lay_function`: the start and the blocks, if there is room for both. Assumes nothing.
use Rattle.contract_nodes.specs.Nodes.{function_in}
use Rattle.lower_layout.proofs.Storing.{behind_in, laid_none, laid_put}
use Rattle.lower_layout.proofs.Records.{kept, blocks_room, whole_length, whole_put}
use Rattle.lower_layout.proofs.lay_function.Goals as goal

pub returns-in_err-end : goal.returns-in_err-end
returns-in_err-end c =
    let a = c.args in
    let z = whole_length a.id.0 (function_in a.f) a.ctx.now c.function_size-size.ensures in
    rw c.from_residual.ensures (kept a.id.0 (function_in a.f) a.ctx.now c.is_whole.ensures c.if-not-is_whole.false (laid_none z c.in_err-end.ensures))

pub lay_blocks-requires-clause-room : goal.lay_blocks-requires-clause-room
lay_blocks-requires-clause-room c =
    let a = c.args in
    blocks_room a.id.0 (function_in a.f) a.ctx.now c.function_size-size.ensures (rw c.locals.ensures.is at c.lay_head-blocks.ensures) (behind_in _ _ _ c.in_ok-end.ensures)

pub returns : goal.returns
returns c =
    let a = c.args in
    let e = c.function_size-size.ensures in
    let p = whole_put a.id.0 (function_in a.f) a.ctx.now e (rw c.locals.ensures.is at c.lay_head-blocks.ensures) c.lay_blocks.ensures in
    kept a.id.0 (function_in a.f) a.ctx.now c.is_whole.ensures c.if-not-is_whole.false (laid_put (whole_length a.id.0 (function_in a.f) a.ctx.now e) c.in_ok-end.ensures p)

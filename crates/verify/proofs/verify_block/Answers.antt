-- `verify::verify_block`: the first record, or the end. Assumes nothing.
use Rattle.program_nodes.specs.Nodes.{block_in, node_in}
use Rattle.ir.proofs.Exits.{exit}
use Rattle.program_nodes.proofs.Takes.{an_instr, a_term}
use Rattle.verify.proofs.Seconds.{whole_block, instr_failed, instr_passed, terminator_says, missing}
use Rattle.verify.proofs.verify_block.Goals as goal

pub loop-record-init : goal.loop-record-init
loop-record-init c = let E = c.records-record-items.ensures in rw c.into_iter-record-iterator.ensures.into_iter_gives (whole_block c.args.block E.instrs E.terminator)

pub returns-in_err-verify_instr-in-Instr : goal.returns-in_err-verify_instr-in-Instr
returns-in_err-verify_instr-in-Instr c =
    let F = an_instr c.in-Some.ensures.steps c.in-Instr.is in
    rw (exit c.from_residual.ensures.1)
    (instr_failed (block_in c.args.block).id c.loop-record.invariant (node_in c.in-Instr.instr) _ F.instrs F.terminator c.node.ensures c.in_err-verify_instr-in-Instr.ensures)

pub loop-record-preserved : goal.loop-record-preserved
loop-record-preserved c =
    let F = an_instr c.in-Some.ensures.steps c.in-Instr.is in
    instr_passed (block_in c.args.block).id c.loop-record.invariant (node_in c.in-Instr.instr) _ F.instrs F.terminator c.node.ensures c.in_ok-verify_instr-in-Instr.ensures

pub returns-in-Term : goal.returns-in-Term
returns-in-Term c =
    let F = a_term c.next.new.self c.in-Some.ensures.steps c.in-Term.is in
    terminator_says (block_in c.args.block).id c.loop-record.invariant F.instrs F.terminator c.node-in-Term.ensures c.verify_terminator.ensures

pub returns : goal.returns
returns c = let N = c.in-None.ensures.steps.0 in missing (block_in c.args.block).id c.loop-record.invariant c.id.ensures N.instrs N.terminator

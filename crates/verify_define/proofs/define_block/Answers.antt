-- `verify_define::define_block`: the first instruction, or it is over. Assumes nothing.
use Rattle.definitions.specs.Verify.{define_results}
use Rattle.program_nodes.specs.Nodes.{node_in}
use Rattle.ir.proofs.Exits.{exit}
use Rattle.program_nodes.proofs.Takes.{an_instr, a_term}
use Rattle.verify_define.proofs.Firsts.{start, result_failed, result_passed, instrs_over}
use Rattle.verify_define.proofs.define_block.Goals as goal

pub loop-record-init : goal.loop-record-init
loop-record-init c = let E = c.records-record-items.ensures in rw c.into_iter-record-iterator.ensures.into_iter_gives (start define_results E.definitions E.instrs)

pub returns-in_err-define_result-in-Instr : goal.returns-in_err-define_result-in-Instr
returns-in_err-define_result-in-Instr c =
    let F = an_instr c.in-Some.ensures.steps c.in-Instr.is in
    rw (exit c.from_residual.ensures.1) (result_failed _ c.in-Instr.instr.at (node_in c.in-Instr.instr) F.definitions F.instrs c.loop-record.invariant c.in_err-define_result-in-Instr.ensures)

pub loop-record-preserved : goal.loop-record-preserved
loop-record-preserved c =
    let F = an_instr c.in-Some.ensures.steps c.in-Instr.is in
    result_passed _ c.in-Instr.instr.at (node_in c.in-Instr.instr) F.definitions F.instrs c.loop-record.invariant c.in_ok-define_result-in-Instr.ensures

pub returns-in-Term : goal.returns-in-Term
returns-in-Term c = instrs_over (a_term c.next.new.self c.in-Some.ensures.steps c.in-Term.is).instrs c.loop-record.invariant

pub returns : goal.returns
returns c = instrs_over c.in-None.ensures.steps.0.instrs c.loop-record.invariant

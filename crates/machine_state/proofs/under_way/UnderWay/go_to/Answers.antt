-- `machine_state::under_way::UnderWay::go_to`: the first block with the id, if there is one. Assumes nothing.
use mathlib.Core.Path.{refl, sym}
use Rattle.definitions.specs.Bench.{go_to}
use Rattle.definitions.proofs.Results.{told}
use Rattle.ir.specs.Answers.{option_of}
use Rattle.program_nodes.specs.Nodes.{block_in}
use Rattle.machine_state.proofs.Asking.{halts_by}
use Rattle.machine_state.proofs.Running.{moved}
use Rattle.machine_state.proofs.Blocks.{block_left_lem, finds}
use Rattle.machine_state.proofs.under_way.UnderWay.go_to.Goals as goal

pub returns-in_err-block : goal.returns-in_err-block
unfolding go_to
returns-in_err-block c =
    let none_there = sym (told (option_of block_in) c.in_err-block.ensures.ok_part c.find_block.ensures.is) in
    record {
      run = λ memory frames state outside m R. rw (halts_by _ c.in_err-block.ensures.value c.from_residual.ensures.1, finds _ R none_there) refl;
      kept = λ h e. refl;
    }

pub returns : goal.returns
unfolding go_to
returns c =
    let there = sym (told (option_of block_in) c.in_ok-block.ensures.ok_part c.find_block.ensures.is) in
    let same_sheet = rw c.in_ok-block.ensures.ok_part at c.find_block.ensures.same_sheet in
    record {
      run = λ memory frames state outside m R. rw (finds _ R there) (moved R (block_left_lem _ _ _ there same_sheet c.records.ensures));
      kept = λ h e. cc;
    }

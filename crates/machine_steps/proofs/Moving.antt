-- A step from the machine's side: the next entry of the block, and the block moved on behind it. What a function of a kind promises is then the step. Assumes nothing.
use mathlib.Core.Path.{◌≡◌, refl, ◌∙◌}
use mathlib.Core.Bool.{true}
use mathlib.Core.List.{List, []}
use mathlib.Core.Option as maths
use Prim.Native.Nat.{ℕ}
use lib.ListN.{length}
use Rattle.std.specs.Prelude.{None, Some, Err}
use Rattle.definitions.specs.Ir.{BasicBlock}
use Rattle.definitions.specs.Bench.{Machine, Lent, plain_words, with_top, into_block, step_instr, step_terminator, step_next, step_block}
use Rattle.definitions.proofs.Sheets.Passed.{both_true}
use Rattle.program_nodes.specs.Nodes.{instrs_in, result_in, instr_in, term_in, FirstInstr, FirstTerm, NoRecord}
use Rattle.program_nodes.specs.declared.block.Records.{Records}
use Rattle.program_nodes.specs.declared.instr.Instr.{Instr}
use Rattle.program_nodes.specs.declared.term.Term.{Term}
use Rattle.machine_slots.specs.Slots.{id_or_none, block_results, Among}
use Rattle.machine_slots.proofs.Indices.{among}
use Rattle.machine_state.specs.Owned.{writes_below, instrs_write_below}
use Rattle.machine_state.specs.Frames.{frame_function, frame_ids}
use Rattle.machine_state.specs.Running.{BlockLeft, BlockIs, Running, Stepped, Gone, at}
use Rattle.machine_state.specs.declared.frame.Frame.{Frame}
use Rattle.machine_state.specs.declared.under_way.UnderWay.{UnderWay}
use Rattle.machine_state.specs.declared.halt.Halt.TheVariants as halts
use Rattle.machine_state.proofs.Running.{moved}
use Rattle.machine_state.proofs.Blocks.{among_right}

-- what is left of the block behind an instruction, and what is known of it
module _ {t : Frame} {old new : Records} {i : Instr} {b : BasicBlock} (L : BlockLeft t old b) (F : FirstInstr old new i) where
  parts : (writes_below (length (frame_function t).locals) (instr_in i) ≡ true) × (instrs_write_below (length (frame_function t).locals) (instrs_in new) ≡ true)
  unfolding instrs_write_below
  parts = both_true _ _ (rw F.instrs at L.own)

  pub left_behind : BlockLeft t new (record { id = b.id; instrs = instrs_in new; terminator = b.terminator })
  unfolding block_results
  left_behind = record {
    instrs = refl;
    terminator = L.terminator ∙ F.terminator;
    sheet = F.rest_sheet ∙ L.sheet;
    among = λ v h. L.among v (rw F.instrs (among_right v (id_or_none (result_in i)) (block_results (instrs_in new)) h));
    own = parts.1;
  }

  pub result_among : (v : ℕ) → result_in i ≡ maths.some v → Among v (frame_ids t)
  unfolding block_results
  result_among v e = L.among v (rw (F.instrs, e) (among v [] (block_results (instrs_in new))))

  -- an instruction writes a local of its function
  pub own_local : writes_below (length (frame_function t).locals) (instr_in i) ≡ true
  own_local = parts.0

-- ONE STEP of a machine that the code stands for, by what its block has next
module _ {before frames state outside : List ℕ} {t : Frame} {r : Records} {depth : ℕ} {m : Machine ℕ} (lent : Lent) (R : Running before frames state outside (at t (Some r) depth) m) (after waiting words rest : List ℕ) (u : UnderWay) (x : Stepped) where
  -- an instruction, whatever it changes
  pub instr_steps : {new : Records} {i : Instr} → FirstInstr r new i
      → ((n : Machine ℕ) → Running before frames state outside (at t (Some new) depth) n → Gone after waiting words rest u x (step_instr plain_words lent n (result_in i) (instr_in i)))
      → Gone after waiting words rest u x (step_block plain_words lent m m.top.block)
  unfolding step_block step_next
  instr_steps {new} {i} F D = go m.top.block R.top.block_is
    where
      go : (o : maths.Option BasicBlock) → BlockIs t (Some r) o → Gone after waiting words rest u x (step_block plain_words lent m o)
      go maths.none h = absurd h
      go (maths.some b) h =
          rw (h.instrs ∙ F.instrs)
          (D (with_top (into_block (record { id = b.id; instrs = instrs_in new; terminator = b.terminator }) m.top) m)
          (moved R (left_behind h F)))

  -- a terminator
  pub term_steps : {i : Term} → FirstTerm r i → Gone after waiting words rest u x (step_terminator plain_words m (term_in i)) → Gone after waiting words rest u x (step_block plain_words lent m m.top.block)
  unfolding step_block step_next
  term_steps F g = go m.top.block R.top.block_is
    where
      go : (o : maths.Option BasicBlock) → BlockIs t (Some r) o → Gone after waiting words rest u x (step_block plain_words lent m o)
      go maths.none h = absurd h
      go (maths.some b) h = rw (h.instrs ∙ F.instrs, h.terminator ∙ F.terminator) g

-- nothing is left; no block
module _ {memory frames state outside : List ℕ} {t : Frame} {depth : ℕ} {m : Machine ℕ} (lent : Lent) where
  pub end_steps : {r : Records} → Running memory frames state outside (at t (Some r) depth) m → NoRecord r → Gone memory frames state outside (at t (Some r) depth) (Err halts.Unset) (step_block plain_words lent m m.top.block)
  unfolding step_block step_next
  end_steps {r} R F = go m.top.block R.top.block_is
    where
      go : (o : maths.Option BasicBlock) → BlockIs t (Some r) o → Gone memory frames state outside (at t (Some r) depth) (Err halts.Unset) (step_block plain_words lent m o)
      go maths.none h = absurd h
      go (maths.some b) h = rw (h.instrs ∙ F.instrs, h.terminator ∙ F.terminator) refl

  pub none_steps : Running memory frames state outside (at t None depth) m → Gone memory frames state outside (at t None depth) (Err halts.NoStartBlock) (step_block plain_words lent m m.top.block)
  unfolding step_block
  none_steps R = go m.top.block R.top.block_is
    where
      go : (o : maths.Option BasicBlock) → BlockIs t None o → Gone memory frames state outside (at t None depth) (Err halts.NoStartBlock) (step_block plain_words lent m o)
      go maths.none h = refl
      go (maths.some b) h = absurd h

-- A block of the function under way that a search found. Assumes nothing.
use mathlib.Core.Path.{◌≡◌, ap, sym, ◌∙◌, subst}
use mathlib.Core.Bool.{true}
use mathlib.Core.List.{List, [], ◌∷◌, ◌++◌, map}
use mathlib.Core.Option.{Option, some}
use Prim.Native.Nat.{ℕ}
use native.Mathlib.Omega.{arith}
use borrow.Author.Tests.{ltb-true, ltb-false}
use lib.Dec.{eqb, ltb}
use lib.ListN.{length, length-append}
use Rattle.definitions.specs.Ir.{BasicBlock, IrFunction, find}
use Rattle.definitions.specs.Bench.{Machine}
use Rattle.definitions.proofs.Results.{by_test}
use Rattle.definitions.proofs.Sheets.Passed.{both_true}
use Rattle.program_nodes.specs.Nodes.{block_in, RecordsOf}
use Rattle.program_nodes.specs.declared.block.Block.{Block}
use Rattle.program_nodes.specs.declared.block.Records.{Records}
use Rattle.machine_slots.specs.Slots.{block_results, blocks_results, param_id, value_ids, index_of, Among}
use Rattle.machine_slots.proofs.Indices.{index_high, in_front, behind}
use Rattle.machine_state.specs.Owned.{instrs_write_below, blocks_write_below}
use Rattle.machine_state.specs.Frames.{frame_function}
use Rattle.machine_state.specs.Running.{frame_sheet, BlockLeft, Running}
use Rattle.machine_state.specs.declared.frame.Frame.{Frame}
use Rattle.machine_state.specs.declared.under_way.UnderWay.{UnderWay}

-- IDS of a part are ids of the whole
pub among_left : (v : ℕ) (xs ys : List ℕ) → Among v xs → Among v (xs ++ ys)
among_left v xs ys h = rw (in_front v xs ys h, length-append) (omega arith)

pub among_right : (v : ℕ) (xs ys : List ℕ) → Among v ys → Among v (xs ++ ys)
among_right v xs ys h =
    by_test (ltb (index_of v xs) (length xs))
    (λ q. among_left v xs ys (ltb-true (index_of v xs) (length xs) q))
    (λ q. rw (behind v xs ys (omega (arith, ltb-false (index_of v xs) (length xs) q, index_high v xs)), length-append) (omega arith))

-- of a block that is found: its result ids, and the locals that it writes
found_among : (k v : ℕ) (bs : List BasicBlock) (b : BasicBlock) → find k bs ≡ some b → Among v (block_results b.instrs) → Among v (blocks_results bs)
unfolding blocks_results
found_among k v [] b e h = absurd cc
found_among k v (x ∷ xs) b e h =
    by_test (eqb x.id k)
    (λ q. let z = rw (q, find) at e in let y : x ≡ b = cc in among_left v (block_results x.instrs) (blocks_results xs) (rw y h))
    (λ q. among_right v (block_results x.instrs) (blocks_results xs) (found_among k v xs b (rw (q, find) at e) h))

found_own : (n k : ℕ) (bs : List BasicBlock) (b : BasicBlock) → find k bs ≡ some b → blocks_write_below n bs ≡ true → instrs_write_below n b.instrs ≡ true
unfolding blocks_write_below
found_own n k [] b e w = cc
found_own n k (x ∷ xs) b e w =
    let p = both_true (instrs_write_below n x.instrs) (blocks_write_below n xs) w in
    by_test (eqb x.id k)
    (λ q. let z = rw (q, find) at e in let y : x ≡ b = cc in rw (← y) p.0)
    (λ q. found_own n k xs b (rw (q, find) at e) p.1)

-- what is left of a block that was found, and has not begun
pub block_left_lem : {t : Frame} (k : ℕ) (b : Block) (r : Records) → find k (frame_function t).blocks ≡ some (block_in b) → b.sheet.now ≡ frame_sheet t → RecordsOf b r → BlockLeft t r (block_in b)
unfolding value_ids
block_left_lem {t} k b r e s R = record {
  instrs = sym R.instrs;
  terminator = sym R.terminator;
  sheet = R.sheet ∙ s;
  among = λ v h.
      among_right v (map param_id (frame_function t).params) (blocks_results (frame_function t).blocks)
      (found_among k v (frame_function t).blocks (block_in b) e (subst (λ l. Among v (block_results l)) R.instrs h));
  own = rw R.instrs (found_own (length (frame_function t).locals) k (frame_function t).blocks (block_in b) e t.own);
}

-- the machine finds what the code finds
pub finds : {memory frames state outside : List ℕ} {t : UnderWay} {m : Machine ℕ} {o : Option BasicBlock} (k : ℕ) → Running memory frames state outside t m → find k (frame_function t.frame).blocks ≡ o → find k m.top.function.blocks ≡ o
finds k R z = ap (λ (f : IrFunction). find k f.blocks) R.top.function_is ∙ z

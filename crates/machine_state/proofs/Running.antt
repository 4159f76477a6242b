-- The machine and the code side by side: what a store to the frame on top does. Assumes nothing.
use mathlib.Core.Path.{◌≡◌, refl, ap, sym, ◌∙◌}
use mathlib.Core.List.{List}
use mathlib.Core.Logic.{inl}
use mathlib.Core.Option as maths
use Prim.Native.Nat.{ℕ, ◌+◌, ◌^◌, ◌≤◌, ◌<◌}
use native.Mathlib.Omega.{arith}
use lib.ListN.{length}
use Rattle.std.specs.Prelude.{Option, Some}
use Rattle.definitions.specs.Ir.{BasicBlock}
use Rattle.definitions.specs.Bench.{Notes, Open, Waiting, Machine, word_at, with_top, into_block, note_result, note_local, give_result}
use Rattle.program_nodes.specs.declared.block.Records.{Records}
use Rattle.machine_memory.specs.Cells.{cell_width, cell, stored}
use Rattle.machine_slots.specs.Slots.{Among}
use Rattle.machine_slots.proofs.Indices.{slot_low, frame_bytes}
use Rattle.machine_state.specs.Frames.{frame_function, frame_ids, word_of, CellWithin, value_cell, local_cell, value_held, local_held, InCells, given, forgotten}
use Rattle.machine_state.specs.Running.{StandsFor, BlockLeft, Callers, nobody, waits, Running, at}
use Rattle.machine_state.specs.declared.frame.Frame.{Frame}
use Rattle.machine_state.specs.declared.under_way.UnderWay.{UnderWay}
use Rattle.machine_state.proofs.Frames.{Changed, put_changes, forget_changes, value_changed, local_changed, not_touched}

-- WHAT IS BELOW A STORE STAYS
pub standing_kept : {memory after : List ℕ} {t : Frame} {block : Option Records} {f : Open ℕ} → StandsFor memory t block f → length after ≡ length memory
    → ((r : ℕ) → t.base ≤ r → CellWithin t r → cell after r ≡ cell memory r) → StandsFor after t block f
standing_kept S long h = record { fits = omega (arith, S.fits); function_is = S.function_is; held = not_touched S.held h; block_is = S.block_is }

pub callers_kept : {sheet memory after frames : List ℕ} {d base : ℕ} {ws : List (Waiting ℕ)} → Callers sheet memory frames d base ws → length after ≡ length memory
    → ((r : ℕ) → r + cell_width ≤ base → cell after r ≡ cell memory r) → Callers sheet after frames d base ws
callers_kept nobody long h = nobody
callers_kept (waits W C) long h =
    let b = W.below in
    waits
    (record {
      frame = W.frame;
      same_sheet = W.same_sheet;
      block = W.block;
      id = W.id;
      numbers = W.numbers;
      caller = standing_kept W.caller long (λ r x y. h r (omega arith));
      below = W.below;
      result_is = W.result_is;
      small = W.small;
      among = W.among;
    })
    (callers_kept C long (λ r x. h r (omega arith)))

-- A STORE TO THE FRAME ON TOP, one cell of it
module _ {memory after frames state outside : List ℕ} {t : UnderWay} {m : Machine ℕ} (R : Running memory frames state outside t m) where
  pub top_changed : {p : ℕ} {w : maths.Option ℕ} {values locals : Notes ℕ} → Changed memory after p w → t.frame.base ≤ p → InCells after t.frame values locals
      → Running after frames state outside t (with_top (record { function = m.top.function; block = m.top.block; values = values; locals = locals }) m)
  top_changed c lo h =
      let S = R.top in
      record {
        top = record { fits = omega (arith, S.fits, c.long); function_is = S.function_is; held = h; block_is = S.block_is };
        callers = callers_kept R.callers c.long (λ r l. c.apart r (inl (omega arith)));
        state_is = R.state_is;
        outside_is = R.outside_is;
        shallow = R.shallow;
      }

module _ {memory frames state outside : List ℕ} {t : UnderWay} {m : Machine ℕ} (R : Running memory frames state outside t m) where
  -- a value took a word, or became unset
  took : {after : List ℕ} {w : maths.Option ℕ} (v : ℕ) → Among v (frame_ids t.frame) → Changed memory after (value_cell t.frame v) w → Running after frames state outside t (with_top (note_result (maths.some v) w m.top) m)
  took v a c = top_changed R c (omega arith) (value_changed R.top.held v a c)

  -- its cell stands within the memory
  value_fits : (v : ℕ) → Among v (frame_ids t.frame) → value_cell t.frame v + cell_width ≤ length memory
  value_fits v a = omega (arith, R.top.fits, slot_low (frame_ids t.frame) v a, frame_bytes (frame_function t.frame))

  -- a value, where there is one, took a word
  pub gave : (o : maths.Option ℕ) (w : ℕ) → w < 2 ^ 64 → ((v : ℕ) → o ≡ maths.some v → Among v (frame_ids t.frame)) → Running (given memory t.frame o w) frames state outside t (give_result o w m)
  unfolding given
  gave maths.none w h l = R
  gave (maths.some v) w h l = took v (l v refl) (put_changes memory (value_cell t.frame v) w h (value_fits v (l v refl)))

  -- it became unset
  pub forgot : (o : maths.Option ℕ) → ((v : ℕ) → o ≡ maths.some v → Among v (frame_ids t.frame)) → Running (forgotten memory t.frame o) frames state outside t (with_top (note_result o maths.none m.top) m)
  unfolding forgotten
  forgot maths.none l = R
  forgot (maths.some v) l = took v (l v refl) (forget_changes memory (value_cell t.frame v) (value_fits v (l v refl)))

  -- a local was written
  pub wrote : (l w : ℕ) → w < 2 ^ 64 → l < length (frame_function t.frame).locals → Running (stored memory (local_cell t.frame l) w) frames state outside t (with_top (note_local l w m.top) m)
  wrote l w h low =
      let c = put_changes memory (local_cell t.frame l) w h (omega (arith, R.top.fits, frame_bytes (frame_function t.frame))) in
      top_changed R c (omega arith) (local_changed R.top.held l low c)

  -- it goes on in another block
  pub moved : {r : Records} {b : BasicBlock} → BlockLeft t.frame r b → Running memory frames state outside (at t.frame (Some r) t.depth) (with_top (into_block b m.top) m)
  moved L = record {
    top = record { fits = R.top.fits; function_is = R.top.function_is; held = R.top.held; block_is = L };
    callers = R.callers;
    state_is = R.state_is;
    outside_is = R.outside_is;
    shallow = R.shallow;
  }

  -- what the code read is what the machine has
  module _ {o p : Option ℕ} where
    pub value_is : (v : ℕ) → word_of o ≡ value_held memory t.frame v → o ≡ p → word_at v m.top.values ≡ word_of p
    value_is v e z = R.top.held.value v ∙ (sym e ∙ ap word_of z)

    pub local_is : (l : ℕ) → word_of o ≡ local_held memory t.frame l → o ≡ p → word_at l m.top.locals ≡ word_of p
    local_is l e z = R.top.held.local l ∙ (sym e ∙ ap word_of z)

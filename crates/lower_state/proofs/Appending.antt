-- Appending to a log, from what was stored behind its end. Assumes nothing.
use mathlib.Core.Path.{◌≡◌, refl, sym, ◌∙◌}
use mathlib.Core.Bool.{Bool, true, false}
use mathlib.Core.List.{List, [], ◌++◌}
use Prim.Native.Nat.{ℕ, suc, ◌+◌, ◌*◌, ◌≤◌, ◌<◌}
use native.Mathlib.Omega.{arith}
use borrow.Author.Tests.{lt-leb, le-leb}
use lib.Dec.{leb}
use lib.ListN.{length, take, drop, length-append}
use lib.Seq.{sets, sets-eq, take_at, length-take-le}
use Rattle.std.specs.Prelude.{Option, None, Some}
use Rattle.definitions.proofs.Fields.{length_bytes}
use Rattle.definitions.specs.Fine.{fields_start}
use Rattle.writer.proofs.Stores.{sets_append}
use Rattle.lower_walk.specs.Log.{Log, room, append, capped, log_of}
use Rattle.lower_state.specs.Bytes.{log_end, record_bytes, Put, Added}
use Rattle.lower_state.proofs.Items.{length_ids}

-- what does not fit, and what does
lost : (x : List ℕ) (c : Log) → room < c.at + length x → append x c ≡ record { value = c.value; at = suc room; bytes = [] }
unfolding append
lost x c h = rw (lt-leb (c.at + length x) room h)

kept : (x : List ℕ) (c : Log) → c.at + length x ≤ room → append x c ≡ record { value = c.value; at = c.at + length x; bytes = c.bytes ++ x }
unfolding append
kept x c h = rw (le-leb (c.at + length x) room h)

-- nothing is appended to a lost log
pub lost_log : (l x : List ℕ) (to : Option ℕ) (w : ℕ) → ((n : ℕ) → to ≡ Some n → ⊥) → log_of l w (log_end to) ≡ append x (log_of l w (log_end to))
lost_log l x None w h = sym (lost x (record { value = w; at = suc room; bytes = [] }) (omega arith))
lost_log l x (Some n) w h = absurd (h n refl)

-- there is no room for x
pub put_lost : {m : List ℕ} (l x : List ℕ) (at : ℕ) → room < at + length x → Added l at x m None
put_lost l x at h = record { is = λ w. sym (lost x (log_of l w at) (go (leb at room) refl)); fits = tt }
  where
    go : (t : Bool) → leb at room ≡ t → room < capped at + length x
    go true q = rw q h
    go false q = rw q (omega arith)

-- there is, and x is written
pub put_kept : {l x m : List ℕ} {at to n : ℕ} → length x ≡ n → length l ≡ room → at + n ≤ room → Put x l at m to → Added l at x m (Some to)
put_kept {l} {x} {at = at} e f h s =
    let a : at + length x ≤ length l = omega arith in
    let b : length (take at l ++ x) ≡ at + length x = rw (length-append, length-take-le at l (omega arith)) (omega arith) in
    let t : take (at + length x) (sets l at x) ≡ take at l ++ x = rw (sets-eq x l at a, take_at (take at l ++ x) (drop (at + length x) l) (at + length x) b) in
    rw (s.is, s.past) (record { is = λ w. rw (kept x (log_of l w at) (rw (le-leb at room (omega arith)) (omega arith)), le-leb (at + length x) room (omega arith), le-leb at room (omega arith), t); fits = omega arith })

infixl 5 ◌then◌
-- one after the other
pub ◌then◌ : {x y l m n : List ℕ} {a b c : ℕ} → Put x l a m b → Put y m b n c → Put (x ++ y) l a n c
◌then◌ {x} {y} {l} {m} {n} {a} {b} {c} p q =
    record { is = q.is ∙ rw (p.past, p.is) (sym (sets_append x y l a)); past = rw length-append (omega (arith, p.past, q.past)) }

-- a record's size
pub length_record : (kind first : ℕ) (a b c : ℕ × ℕ) (ids : List ℕ) → length (record_bytes kind first a b c ids) ≡ fields_start + 2 + a.0 + b.0 + c.0 + 2 * length ids
unfolding record_bytes
length_record kind first a b c ids = simp (length-append, length_bytes, length_ids) (omega arith)

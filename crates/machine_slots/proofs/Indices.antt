-- Positions in a list of ids; two ids of it have two slots, each within the frame. Assumes nothing.
use mathlib.Core.Path.{◌≡◌, refl, ap, sym, ◌∙◌}
use mathlib.Core.List.{List, [], ◌∷◌, ◌++◌}
use mathlib.Core.Option.{Option, none, some}
use Prim.Native.Nat.{ℕ, suc, ◌+◌, ◌*◌, ◌≤◌, ◌<◌}
use native.Mathlib.Omega.{arith}
use borrow.Author.Tests.{eq-eqb, eqb-true, ltb-true, ltb-false, leb-true}
use lib.Dec.{eqb, ltb, leb}
use lib.ListN.{length, get_or, length-append, length-map}
use Rattle.definitions.specs.Ir.{InstrNode, BasicBlock, IrFunction}
use Rattle.definitions.specs.Records.{pick}
use Rattle.definitions.specs.Bench.{result_ids, result_ids_in, bytes_for}
use Rattle.definitions.proofs.Results.{by_test}
use Rattle.machine_slots.specs.Slots.{id_or_none, block_results, blocks_results, value_ids, index_of, Among, above, above_all, slot_for}

-- POSITIONS
pub index_high : (v : ℕ) (ids : List ℕ) → index_of v ids ≤ length ids
unfolding index_of
index_high v [] = omega arith
index_high v (x ∷ xs) = by_test (eqb x v) (λ q. rw (q, index_of) (omega arith)) (λ q. rw (q, index_of) (omega (arith, index_high v xs)))

index_at : (v : ℕ) (ids : List ℕ) → Among v ids → get_or ids (index_of v ids) 0 ≡ v
unfolding index_of
index_at v [] h = absurd (omega arith)
index_at v (x ∷ xs) h =
    by_test (eqb x v) (λ q. rw (q, index_of) (eqb-true x v q))
    (λ q. let k : suc (index_of v xs) < suc (length xs) = rw (q, index_of) at h in rw (q, index_of) (index_at v xs (omega arith)))

pub in_front : (v : ℕ) (xs ys : List ℕ) → Among v xs → index_of v (xs ++ ys) ≡ index_of v xs
unfolding index_of
in_front v [] ys h = absurd (omega arith)
in_front v (x ∷ xs) ys h =
    by_test (eqb x v) (λ q. rw (q, index_of))
    (λ q. let k : suc (index_of v xs) < suc (length xs) = rw (q, index_of) at h in rw (q, index_of) (ap suc (in_front v xs ys (omega arith))))

pub behind : (v : ℕ) (xs ys : List ℕ) → index_of v xs ≡ length xs → index_of v (xs ++ ys) ≡ length xs + index_of v ys
unfolding index_of
behind v [] ys h = omega arith
behind v (x ∷ xs) ys h =
    by_test (eqb x v)
    (λ q. let k : 0 ≡ suc (length xs) = rw (q, index_of) at h in absurd (omega arith))
    (λ q. let k : suc (index_of v xs) ≡ suc (length xs) = rw (q, index_of) at h in rw (q, index_of) (omega (arith, behind v xs ys (omega arith))))

-- what stands in a list is among its ids
pub among : (v : ℕ) (xs ys : List ℕ) → Among v (xs ++ (v ∷ ys))
unfolding index_of
among v [] ys = rw (eq-eqb v v refl) (omega arith)
among v (x ∷ xs) ys = by_test (eqb x v) (λ q. rw (q, index_of) (omega arith)) (λ q. rw (q, index_of) (omega (arith, among v xs ys)))

-- ABOVE
pub above_append : (xs ys : List ℕ) (m : ℕ) → above (xs ++ ys) m ≡ above ys (above xs m)
unfolding above
above_append [] ys m = refl
above_append (x ∷ xs) ys m = above_append xs ys (pick (ltb x m) m (suc x))

above_low : (ids : List ℕ) (m : ℕ) → m ≤ above ids m
unfolding above
above_low [] m = omega arith
above_low (x ∷ xs) m = by_test (ltb x m) (λ q. rw (q, above) (above_low xs m)) (λ q. rw (q, above) (omega (arith, above_low xs (suc x), ltb-false x m q)))

below_above : (v : ℕ) (ids : List ℕ) (m : ℕ) → Among v ids → v < above ids m
unfolding above index_of
below_above v [] m h = absurd (omega arith)
below_above v (x ∷ xs) m h =
    by_test (eqb x v)
    (λ q. let e : x ≡ v = eqb-true x v q in by_test (ltb x m) (λ r. rw (r, above) (omega (arith, above_low xs m, ltb-true x m r))) (λ r. rw (r, above) (omega (arith, above_low xs (suc x)))))
    (λ q. let k : suc (index_of v xs) < suc (length xs) = rw (q, index_of) at h in below_above v xs (pick (ltb x m) m (suc x)) (omega arith))

-- SLOTS: within the frame, and two for two
pub slot_low : (ids : List ℕ) (v : ℕ) → Among v ids → slot_for ids v < length ids
unfolding slot_for
slot_low ids v h =
    by_test (leb (above_all ids) (length ids))
    (λ q. rw (q, slot_for) (omega (arith, below_above v ids 0 h, leb-true (above_all ids) (length ids) q)))
    (λ q. rw (q, slot_for) h)

pub slot_one : (ids : List ℕ) (v u : ℕ) → slot_for ids v < length ids → slot_for ids v ≡ slot_for ids u → v ≡ u
unfolding slot_for
slot_one ids v u =
    by_test (leb (above_all ids) (length ids))
    (λ q. rw (q, slot_for) (λ h e. e))
    (λ q. rw (q, slot_for) (λ h e. sym (index_at v ids h) ∙ (ap (λ (i : ℕ). get_or ids i 0) e ∙ index_at u ids (rw e at h))))

-- THE FRAME has the bytes that the bench asks for
results_in : (ns : List InstrNode) → length (block_results ns) ≡ result_ids ns
unfolding block_results
results_in [] = refl
results_in (n ∷ ns) = go n.result (results_in ns)
  where
    go : (o : Option ℕ) → length (block_results ns) ≡ result_ids ns → length (id_or_none o ++ block_results ns) ≡ elim o [ none ↦ result_ids ns | some v ↦ suc (result_ids ns) ]
    go none e = e
    go (some v) e = ap suc e

results_of : (bs : List BasicBlock) → length (blocks_results bs) ≡ result_ids_in bs
unfolding blocks_results
results_of [] = refl
results_of (b ∷ bs) = rw (length-append, results_in b.instrs, results_of bs)

pub frame_bytes : (f : IrFunction) → bytes_for f ≡ 9 * (length (value_ids f) + length f.locals)
unfolding value_ids
frame_bytes f = rw (length-append, length-map, results_of f.blocks)

-- The parts of the log behind the blocks' heads are the function's record. Assumes nothing.
use Prim.Native.Nat.{ℕ, zero, suc, ◌+◌, ◌-◌, ◌≤◌, ◌<◌}
use mathlib.Core.Path.{◌≡◌, refl, ◌∙◌, ap, ap₂}
use mathlib.Core.List.{List, [], ◌∷◌, ◌++◌, append-nil}
use mathlib.Core.Option.{some}
use mathlib.Core.Bool.{Bool, true}
use lib.Dec.{eqb}
use lib.Seq.{take-append_seam, drop-append_seam}
use lib.ListN.{length, length-append, get_or}
use native.Mathlib.Omega.{arith}
use borrow.Author.Tests.{eq-eqb, ne_eqb, eqb-false}
use Rattle.definitions.specs.Fields.{bytes}
use Rattle.definitions.specs.Ast.{Function}
use Rattle.definitions.specs.Ir.{IrType, BasicBlock, IrFunction, find}
use Rattle.definitions.specs.Lower.{FnCtx, ir_function}
use Rattle.definitions.specs.Verify.{block_ids}
use Rattle.definitions.specs.Records.{tnil, trees_of, write_item, write_value, write_values, write_record, write_tree, write_trees}
use Rattle.definitions.specs.ProgramSheet.{block_tree, ir_function_tree}
use Rattle.definitions.proofs.Results.{by_test}
use Rattle.definitions.proofs.Runs.Safe.{find_hit, find_miss, in_nil}
use Rattle.lower_walk.specs.Stmts.{LogCtx}
use Rattle.lower_walk.specs.Layout.{slice, block_bytes, blocks_bytes, param_values, head_bytes, function_bytes}
use Rattle.lower_walk.proofs.Parts.{Marks, written, weight, up_from, Closed, Parts}

-- ---- slices
slice_is : {out : List ℕ} {a z : ℕ} {x : List ℕ} → Closed out a z x → slice out a z ≡ x
slice_is {out} {a} {z} {x} c =
    let n : z - a ≡ length x = omega arith in
    rw (n, c.start, c.is, drop-append_seam, take-append_seam)

-- ---- blocks
block_is : (log : List ℕ) (b : BasicBlock) (k a z : ℕ) → b.id ≡ k → slice log a z ≡ written b → write_tree (block_tree b) ≡ block_bytes log k a z
unfolding write_tree write_values write_value write_item block_bytes
block_is log b k a z e h = rw (h, e) (ap (λ (x : List ℕ). write_record 53 (x ++ written b)) (append-nil (bytes 2 k)))

blocks_are : (log starts stops : List ℕ) (k n : ℕ) (bs : List BasicBlock) → block_ids bs ≡ up_from k n → ((j : ℕ) (b : BasicBlock) → k ≤ j → find j bs ≡ some b → slice log (get_or starts j 0) (get_or stops j 0) ≡ written b) → write_trees (trees_of block_tree bs tnil) ≡ blocks_bytes log starts stops k n
unfolding write_trees blocks_bytes
blocks_are log starts stops k zero [] e h = refl
blocks_are log starts stops k (suc n) [] e h = absurd (let z : ◌≡◌ {A = ℕ} 0 1 = cc in omega arith)
blocks_are log starts stops k zero (b ∷ bs) e h = absurd (let z : ◌≡◌ {A = ℕ} 0 1 = cc in omega arith)
blocks_are log starts stops k (suc n) (b ∷ bs) e h =
    let i : b.id ≡ k = cc in
    let t : block_ids bs ≡ up_from (suc k) n = cc in
    ap₂ {A = List ℕ} {B = List ℕ} ◌++◌ (block_is log b k _ _ i (h k b (omega arith) (find_hit k b bs (eq-eqb b.id k i))))
    (blocks_are log starts stops (suc k) n bs t (λ j d le f. h j d (omega arith) (find_miss j b bs (ne_eqb b.id j (λ q. omega arith)) ∙ f)))

-- ---- a function
pub function_is : (i : ℕ) (f : Function) (c : FnCtx) (d : LogCtx) {cur : ℕ} → c.locals ≡ d.locals → Parts true [] cur d.next_block c.blocks d.log.bytes (record { starts = d.starts; stops = d.stops }) → write_tree (ir_function_tree (ir_function i f (param_values 0 f.params) c)) ≡ function_bytes i f d
unfolding write_tree function_bytes
function_is i f c d e P = ap₂ (λ (ls : List IrType) (x : List ℕ). write_record 51 (head_bytes i f ls ++ x)) e (blocks_are d.log.bytes d.starts d.stops 0 d.next_block c.blocks P.ids (λ j b le h. slice_is (P.each j b h (λ q. in_nil q) (λ q. refl))))

-- a function's record is no shorter than its log
weight_least : (bs : List BasicBlock) → weight bs ≤ length (write_trees (trees_of block_tree bs tnil))
unfolding write_tree write_record
weight_least [] = omega arith
weight_least (b ∷ bs) = simp length-append (omega (arith, weight_least bs))

pub log_least : (g : IrFunction) {e : Bool} {Q : List ℕ} {cur count : ℕ} {out : List ℕ} {k : Marks} → Parts e Q cur count g.blocks out k → (n : ℕ) → n < length out → n < length (write_tree (ir_function_tree g))
unfolding write_tree write_record
log_least g P n h = simp length-append (omega (arith, weight_least g.blocks, P.total))

-- ---- each block's part lies in the log
ids_find : (a n k : ℕ) (bs : List BasicBlock) → block_ids bs ≡ up_from a n → a ≤ k → k < a + n → (b : BasicBlock) × (find k bs ≡ some b)
ids_find a zero k bs e l m = absurd (omega arith)
ids_find a (suc n) k [] e l m = absurd (let z : ◌≡◌ {A = ℕ} 0 1 = cc in omega arith)
ids_find a (suc n) k (b ∷ bs) e l m =
    by_test (eqb b.id k)
    (λ q. (b, find_hit k b bs q))
    (λ q.
    let i : b.id ≡ a = cc in
    let t : block_ids bs ≡ up_from (suc a) n = cc in
    let r : (c : BasicBlock) × (find k bs ≡ some c) = ids_find (suc a) n k bs t (omega (arith, eqb-false b.id k q)) (omega arith) in
    (r.0, find_miss k b bs q ∙ r.1))

closed_inside : {out : List ℕ} {a z : ℕ} {x : List ℕ} → Closed out a z x → (a ≤ z) × (z ≤ length out)
closed_inside c = (omega arith, omega (arith, simp length-append at (ap length c.is)))

pub part_inside : {cur count : ℕ} {bs : List BasicBlock} {out : List ℕ} {k : Marks} → Parts true [] cur count bs out k → (j : ℕ) → j < count → (get_or k.starts j 0 ≤ get_or k.stops j 0) × (get_or k.stops j 0 ≤ length out)
part_inside {cur} {count} {bs} {out} {k} P j l =
    let r : (b : BasicBlock) × (find j bs ≡ some b) = ids_find 0 count j bs P.ids (omega arith) (omega (arith, l)) in
    closed_inside (P.each j r.0 r.1 (λ q. in_nil q) (λ q. refl))

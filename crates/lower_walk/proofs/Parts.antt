-- The blocks of a function under way, and their parts of the log. Assumes nothing.
use Prim.Native.Nat.{ℕ, zero, suc, ◌+◌, ◌≤◌, ◌<◌}
use mathlib.Core.Path.{◌≡◌, refl, sym, ◌∙◌, ap}
use mathlib.Core.List.{List, [], ◌∷◌, ◌++◌, append_assoc}
use mathlib.Core.Option.{none, some}
use mathlib.Core.Bool.{Bool, true, false}
use lib.Dec.{eqb}
use lib.ListN.{length, get_or}
use native.Mathlib.Omega.{arith}
use borrow.Author.Tests.{eq-eqb, ne_eqb}
use Rattle.definitions.specs.Ir.{Terminator, InstrNode, BasicBlock, find, update}
use Rattle.definitions.specs.Lower.{empty_block, add_instr, put_terminator, is_terminated}
use Rattle.definitions.specs.Verify.{block_ids}
use Rattle.definitions.specs.Records.{write_tree, write_trees, trees_of}
use Rattle.definitions.specs.ProgramSheet.{instr_tree, term_tree, opt_term_tree}
use Rattle.definitions.proofs.Results.{by_test}
use Rattle.definitions.proofs.Runs.Safe.{In, find_hit, find_miss}
use Rattle.definitions.proofs.Runs.Blocks.{update_hit, update_miss, find_append_new, Distinct}
use Rattle.lower_walk.proofs.Trees.{trees_end, trees_more}

-- where blocks start and stop in the log
pub record Marks : Type 0 where
  pub starts : List ℕ
  pub stops : List ℕ

-- the bytes of a block behind its head
abbrev pub written : BasicBlock → List ℕ
written b = write_trees (trees_of instr_tree b.instrs (opt_term_tree b.terminator))

abbrev pub weight : List BasicBlock → ℕ
weight [] = 0
weight (b ∷ bs) = length (written b) + weight bs

abbrev pub up_from : ℕ → ℕ → List ℕ
up_from a zero = []
up_from a (suc n) = a ∷ up_from (suc a) n

-- the bytes x stand from a to z
pub record Closed (out : List ℕ) (a z : ℕ) (x : List ℕ) : Type 0 where
  pub pre : List ℕ
  pub post : List ℕ
  pub is : out ≡ pre ++ (x ++ post)
  pub start : a ≡ length pre
  pub stop : z ≡ length pre + length x

-- the current block: open to the log's end, or terminated
pub data Here (cur : ℕ) (bs : List BasicBlock) (out : List ℕ) (k : Marks) : Bool → Type 0 where
  opened : (b : BasicBlock) (pre : List ℕ) → find cur bs ≡ some b → b.terminator ≡ none → out ≡ pre ++ written b → get_or k.starts cur 0 ≡ length pre → Here cur bs out k false
  closed : (b : BasicBlock) → find cur bs ≡ some b → is_terminated (some b) ≡ true → Here cur bs out k true

-- The blocks bs, of which `cur` is the current one, and their records `out`. The blocks Q are made and not yet switched to.
pub record Parts (e : Bool) (Q : List ℕ) (cur count : ℕ) (bs : List BasicBlock) (out : List ℕ) (k : Marks) : Type 0 where
  pub spot : Here cur bs out k e
  pub each : (j : ℕ) (b : BasicBlock) → find j bs ≡ some b → (In j Q → ⊥) → (j ≡ cur → e ≡ true) → Closed out (get_or k.starts j 0) (get_or k.stops j 0) (written b)
  pub fresh : (j : ℕ) → In j Q → find j bs ≡ some (empty_block j)
  pub ids : block_ids bs ≡ up_from 0 count
  pub distinct : Distinct (cur ∷ Q)
  pub below : (j : ℕ) → In j (cur ∷ Q) → j < count
  pub few : count ≤ 256
  pub starts : length k.starts ≡ 256
  pub stops : length k.stops ≡ 256
  pub total : weight bs ≡ length out

-- ---- bytes
pub closed_more : {out : List ℕ} {a z : ℕ} {x : List ℕ} (y : List ℕ) → Closed out a z x → Closed (out ++ y) a z x
closed_more y c = record { pre = c.pre; post = c.post ++ y; is = rw c.is (simp append_assoc); start = c.start; stop = c.stop }

pub added : (n : InstrNode) (b : BasicBlock) → b.terminator ≡ none → written (add_instr n b) ≡ written b ++ write_tree (instr_tree n)
added n b e = rw e (trees_more instr_tree b.instrs n)

pub ended : (t : Terminator) (b : BasicBlock) → b.terminator ≡ none → written (put_terminator t b) ≡ written b ++ write_tree (term_tree t)
ended t b e = rw e (trees_end instr_tree b.instrs (term_tree t))

-- ---- blocks
pub weight_update : (j : ℕ) (g : BasicBlock → BasicBlock) (keeps : (b : BasicBlock) → (g b).id ≡ b.id) (bs : List BasicBlock) (b : BasicBlock) (n : ℕ) → find j bs ≡ some b → length (written (g b)) ≡ length (written b) + n → weight (update j g bs) ≡ weight bs + n
weight_update j g keeps [] b n e h = cc
weight_update j g keeps (x ∷ bs) b n e h =
    by_test (eqb x.id j)
    (λ q.
    let xb : x ≡ b = cc (find_hit j x bs q) in
    rw (update_hit j g keeps x bs q, xb) (omega arith))
    (λ q. rw (update_miss j g keeps x bs q) (omega (arith, weight_update j g keeps bs b n (sym (find_miss j x bs q) ∙ e) h)))

pub weight_snoc : (bs : List BasicBlock) (k : ℕ) → weight (bs ++ (empty_block k ∷ [])) ≡ weight bs
unfolding write_trees
weight_snoc [] k = refl
weight_snoc (b ∷ bs) k = ap (λ (n : ℕ). length (written b) + n) (weight_snoc bs k)

pub ids_none : (a n : ℕ) (bs : List BasicBlock) → block_ids bs ≡ up_from a n → find (a + n) bs ≡ none
ids_none a n [] e = refl
ids_none a zero (b ∷ bs) e = absurd (let z : ◌≡◌ {A = ℕ} 0 1 = cc in omega arith)
ids_none a (suc n) (b ∷ bs) e =
    let h : b.id ≡ a = cc in
    let t : block_ids bs ≡ up_from (suc a) n = cc in
    find_miss (a + suc n) b bs (ne_eqb b.id (a + suc n) (λ q. omega arith)) ∙ (ap (λ (m : ℕ). find m bs) (omega arith) ∙ ids_none (suc a) n bs t)

pub ids_snoc : (a n : ℕ) (bs : List BasicBlock) → block_ids bs ≡ up_from a n → block_ids (bs ++ (empty_block (a + n) ∷ [])) ≡ up_from a (suc n)
ids_snoc a zero [] e = ap (λ (m : ℕ). m ∷ []) (omega arith)
ids_snoc a (suc n) [] e = absurd (let z : ◌≡◌ {A = ℕ} 0 1 = cc in omega arith)
ids_snoc a zero (b ∷ bs) e = absurd (let z : ◌≡◌ {A = ℕ} 0 1 = cc in omega arith)
ids_snoc a (suc n) (b ∷ bs) e =
    let h : b.id ≡ a = cc in
    let t : block_ids bs ≡ up_from (suc a) n = cc in
    let m : a + suc n ≡ suc a + n = omega arith in
    rw (m, h) (ap (λ (l : List ℕ). a ∷ l) (ids_snoc (suc a) n bs t))

pub find_new : (k : ℕ) (bs : List BasicBlock) → find k bs ≡ none → find k (bs ++ (empty_block k ∷ [])) ≡ some (empty_block k)
find_new k bs e = find_append_new k bs (empty_block k) e ∙ find_hit k (empty_block k) [] (eq-eqb k k refl)

pub find_old : (j k : ℕ) → (j ≡ k → ⊥) → (bs : List BasicBlock) → find j (bs ++ (empty_block k ∷ [])) ≡ find j bs
find_old j k ne [] = find_miss j (empty_block k) [] (ne_eqb k j (λ e. ne (sym e)))
find_old j k ne (y ∷ bs) =
    by_test (eqb y.id j)
    (λ q. cc (find_hit j y bs q, find_hit j y (bs ++ (empty_block k ∷ [])) q))
    (λ q. cc (find_miss j y bs q, find_miss j y (bs ++ (empty_block k ∷ [])) q, find_old j k ne bs))

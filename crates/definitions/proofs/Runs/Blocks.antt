-- A list of blocks after `update` and after one more block: what `find` gives, which values are defined, which ids there are. Assumes nothing.
use Prim.Native.Nat.{ℕ, suc}
use mathlib.Core.Path.{◌≡◌, refl, sym, ◌∙◌, ap}
use mathlib.Core.Logic.{◌⊎◌, inl, inr}
use mathlib.Core.List.{List, [], ◌∷◌, ◌++◌}
use mathlib.Core.Option.{Option, map, none, some}
use mathlib.Core.Bool.{true, false}
use lib.Dec.{eqb}
use lib.ListN.{length}
use borrow.Author.Tests.{eqb-true, eqb-false, eq-eqb, ne_eqb}
use Rattle.definitions.specs.Ir.{BasicBlock, InstrNode, Instruction, find, update}
use Rattle.definitions.specs.Lower.{add_instr, empty_block}
use Rattle.definitions.specs.Verify.{block_ids}
use Rattle.definitions.proofs.Results.{by_test, some_none}
use Rattle.definitions.proofs.Runs.Safe.{In, here, there, First, in_nil, with_result, find_hit, find_miss}

-- ---- the values that the blocks define
abbrev pub results : List InstrNode → List ℕ
results [] = []
results (n ∷ ns) = with_result n.result (results ns)

abbrev pub defs : List BasicBlock → List ℕ
defs [] = []
defs (b ∷ bs) = results b.instrs ++ defs bs

abbrev pub Distinct : List ℕ → Type 0
Distinct [] = Unit {0}
Distinct (x ∷ xs) = (In x xs → ⊥) × Distinct xs

-- `b` is `a` with `x` put in somewhere
pub data Ins (x : ℕ) : List ℕ → List ℕ → Type 0 where
  now : {a : List ℕ} → Ins x a (x ∷ a)
  later : {y : ℕ} {a b : List ℕ} → Ins x a b → Ins x (y ∷ a) (y ∷ b)

pub ins_in : {x v : ℕ} {a b : List ℕ} → Ins x a b → In v b → In v a ⊎ (x ≡ v)
ins_in now (here e) = inr e
ins_in now (there h) = inl h
ins_in (later i) (here e) = inl (here e)
ins_in {x} {v} (later {y = y} {a = a} i) (there h) = up (ins_in i h)
  where
    up : In v a ⊎ (x ≡ v) → In v (y ∷ a) ⊎ (x ≡ v)
    up (inl g) = inl (there g)
    up (inr e) = inr e

pub ins_distinct : {x : ℕ} {a b : List ℕ} → Ins x a b → (In x a → ⊥) → Distinct a → Distinct b
ins_distinct now n d = (n, d)
ins_distinct {x} (later {y = y} {a = a} {b = b} i) n d = (λ h. no (ins_in i h), ins_distinct i (λ h. n (there h)) d.1)
  where
    no : In y a ⊎ (x ≡ y) → ⊥
    no (inl h) = d.0 h
    no (inr e) = n (here (sym e))

pub ins_length : {x : ℕ} {a b : List ℕ} → Ins x a b → length b ≡ suc (length a)
ins_length now = refl
ins_length (later i) = ap suc (ins_length i)

ins_left : {x : ℕ} {a b : List ℕ} (c : List ℕ) → Ins x a b → Ins x (a ++ c) (b ++ c)
ins_left c now = now
ins_left c (later i) = later (ins_left c i)

ins_right : {x : ℕ} {a b : List ℕ} (c : List ℕ) → Ins x a b → Ins x (c ++ a) (c ++ b)
ins_right [] i = i
ins_right (y ∷ c) i = later (ins_right c i)

with_ins : (r : Option ℕ) {x : ℕ} {a b : List ℕ} → Ins x a b → Ins x (with_result r a) (with_result r b)
with_ins none i = i
with_ins (some y) i = later i

results_none : (ns : List InstrNode) (i : Instruction) → results (ns ++ (record { result = none; instr = i } ∷ [])) ≡ results ns
results_none [] i = refl
results_none (n ∷ ns) i = rw (results_none ns i)

results_some : (x : ℕ) (ns : List InstrNode) (i : Instruction) → Ins x (results ns) (results (ns ++ (record { result = some x; instr = i } ∷ [])))
results_some x [] i = now
results_some x (n ∷ ns) i = with_ins n.result (results_some x ns i)

-- ---- after `update`: what was found is the changed block, or another one
pub data Case (j : ℕ) (g : BasicBlock → BasicBlock) (bs : List BasicBlock) (k : ℕ) (b : BasicBlock) : Type 0 where
  changed : (a : BasicBlock) → find j bs ≡ some a → b ≡ g a → k ≡ j → Case j g bs k b
  same : find k bs ≡ some b → (k ≡ j → ⊥) → Case j g bs k b

map_some : {A B : Type 0} (f : A → B) (o : Option A) (b : B) → map f o ≡ some b → (a : A) × (o ≡ some a) × (b ≡ f a)
map_some f none b e = absurd (some_none b (sym e))
map_some f (some a) b e = (a, refl, cc)

find_behind : (k : ℕ) (x : BasicBlock) (xs bs : List BasicBlock) → find k xs ≡ find k bs → find k (x ∷ xs) ≡ find k (x ∷ bs)
find_behind k x xs bs e = by_test (eqb x.id k) (λ q. cc (find_hit k x xs q, find_hit k x bs q)) (λ q. cc (find_miss k x xs q, find_miss k x bs q))

module _ (j : ℕ) (g : BasicBlock → BasicBlock) (keeps : (b : BasicBlock) → (g b).id ≡ b.id) where
  pub update_hit : (x : BasicBlock) (bs : List BasicBlock) → eqb x.id j ≡ true → update j g (x ∷ bs) ≡ g x ∷ bs
  update_hit x bs q = rw (q, update)

  pub update_miss : (x : BasicBlock) (bs : List BasicBlock) → eqb x.id j ≡ false → update j g (x ∷ bs) ≡ x ∷ update j g bs
  update_miss x bs q = rw (q, update)

  pub find_other : (k : ℕ) → (k ≡ j → ⊥) → (bs : List BasicBlock) → find k (update j g bs) ≡ find k bs
  find_other k ne [] = refl
  find_other k ne (x ∷ bs) =
      by_test (eqb x.id j)
      (λ q.
      let xj : x.id ≡ j = eqb-true x.id j q in
      let xk : eqb x.id k ≡ false = ne_eqb x.id k (λ e. ne (sym e ∙ xj)) in
      let gk : eqb (g x).id k ≡ false = ne_eqb (g x).id k (λ e. ne (sym e ∙ (keeps x ∙ xj))) in
      cc (update_hit x bs q, find_miss k (g x) bs gk, find_miss k x bs xk))
      (λ q. ap (find k) (update_miss x bs q) ∙ find_behind k x (update j g bs) bs (find_other k ne bs))

  find_changed : (bs : List BasicBlock) → find j (update j g bs) ≡ map g (find j bs)
  find_changed [] = refl
  find_changed (x ∷ bs) =
      by_test (eqb x.id j)
      (λ q. rw (update_hit x bs q, find_hit j x bs q, find_hit j (g x) bs (eq-eqb (g x).id j (keeps x ∙ eqb-true x.id j q))))
      (λ q. rw (update_miss x bs q, find_miss j x bs q, find_miss j x (update j g bs) q, find_changed bs))

  pub find_mine : (bs : List BasicBlock) (b : BasicBlock) → find j bs ≡ some b → find j (update j g bs) ≡ some (g b)
  find_mine bs b e = find_changed bs ∙ ap (map g) e

  pub find_there : (bs : List BasicBlock) (k : ℕ) (b : BasicBlock) → find k bs ≡ some b → (a : BasicBlock) × (find k (update j g bs) ≡ some a)
  find_there bs k b e =
      by_test (eqb k j)
      (λ q. let kj : k ≡ j = eqb-true k j q in (g b, rw kj (find_mine bs b (rw kj at e))))
      (λ q. (b, find_other k (eqb-false k j q) bs ∙ e))

  pub cases : (bs : List BasicBlock) (k : ℕ) (b : BasicBlock) → find k (update j g bs) ≡ some b → Case j g bs k b
  cases bs k b e =
      by_test (eqb k j)
      (λ q.
      let kj : k ≡ j = eqb-true k j q in
      let r = map_some g (find j bs) b (sym (find_changed bs) ∙ rw kj at e) in
      changed r.0 r.1 r.2 kj)
      (λ q. same (sym (find_other k (eqb-false k j q) bs) ∙ e) (eqb-false k j q))

  -- the first block stays the first, with its id
  pub first_update : (bs : List BasicBlock) → First bs → First (update j g bs)
  first_update [] f = f
  first_update (x ∷ bs) f =
      let z : x.id ≡ 0 = cc (f.1.1, f.1.2) in
      by_test (eqb x.id j) (λ q. (g x, (bs, update_hit x bs q, keeps x ∙ z))) (λ q. (x, (update j g bs, update_miss x bs q, z)))

  pub ids_update : (bs : List BasicBlock) → block_ids (update j g bs) ≡ block_ids bs
  ids_update [] = refl
  ids_update (b ∷ bs) = by_test (eqb b.id j) (λ q. rw (update_hit b bs q, keeps b)) (λ q. rw (update_miss b bs q, ids_update bs))

  -- a change that leaves the results alone
  pub defs_same : ((b : BasicBlock) → results (g b).instrs ≡ results b.instrs) → (bs : List BasicBlock) → defs (update j g bs) ≡ defs bs
  defs_same s [] = refl
  defs_same s (b ∷ bs) = by_test (eqb b.id j) (λ q. rw (update_hit b bs q, s b)) (λ q. rw (update_miss b bs q, defs_same s bs))

  -- a change that puts a result in, of a block that is there
  defs_more : (x : ℕ) → ((b : BasicBlock) → Ins x (results b.instrs) (results (g b).instrs)) → (bs : List BasicBlock) (a : BasicBlock) → find j bs ≡ some a → Ins x (defs bs) (defs (update j g bs))
  defs_more x s [] a e = absurd (some_none a (sym e))
  defs_more x s (b ∷ bs) a e =
      by_test (eqb b.id j)
      (λ q. rw (update_hit b bs q) (ins_left (defs bs) (s b)))
      (λ q. rw (update_miss b bs q) (ins_right (results b.instrs) (defs_more x s bs a (sym (find_miss j b bs q) ∙ e))))

pub defs_none : (j : ℕ) (i : Instruction) (bs : List BasicBlock) → defs (update j (add_instr (record { result = none; instr = i })) bs) ≡ defs bs
defs_none j i = defs_same j (add_instr (record { result = none; instr = i })) (λ b. refl) (λ b. results_none b.instrs i)

pub defs_some : (j x : ℕ) (i : Instruction) (bs : List BasicBlock) (a : BasicBlock) → find j bs ≡ some a → Ins x (defs bs) (defs (update j (add_instr (record { result = some x; instr = i })) bs))
defs_some j x i = defs_more j (add_instr (record { result = some x; instr = i })) (λ b. refl) x (λ b. results_some x b.instrs i)

-- ---- one more block at the end
abbrev found_or : Option BasicBlock → Option BasicBlock → Option BasicBlock
found_or none o = o
found_or (some b) o = some b

find_append : (k : ℕ) (bs : List BasicBlock) (x : BasicBlock) → find k (bs ++ (x ∷ [])) ≡ found_or (find k bs) (find k (x ∷ []))
find_append k [] x = refl
find_append k (y ∷ bs) x =
    by_test (eqb y.id k)
    (λ q. rw (find_hit k y bs q, find_hit k y (bs ++ (x ∷ [])) q))
    (λ q. rw (find_miss k y bs q, find_miss k y (bs ++ (x ∷ [])) q, find_append k bs x))

pub find_append_old : (k : ℕ) (bs : List BasicBlock) (x b : BasicBlock) → find k bs ≡ some b → find k (bs ++ (x ∷ [])) ≡ some b
find_append_old k bs x b e = find_append k bs x ∙ ap (λ (o : Option BasicBlock). found_or o (find k (x ∷ []))) e

pub find_append_new : (k : ℕ) (bs : List BasicBlock) (x : BasicBlock) → find k bs ≡ none → find k (bs ++ (x ∷ [])) ≡ find k (x ∷ [])
find_append_new k bs x e = find_append k bs x ∙ ap (λ (o : Option BasicBlock). found_or o (find k (x ∷ []))) e

pub only : (n k : ℕ) (b : BasicBlock) → find k (empty_block n ∷ []) ≡ some b → (b ≡ empty_block n) × (n ≡ k)
only n k b e =
    by_test (eqb n k)
    (λ q. (cc (find_hit k (empty_block n) [] q), eqb-true n k q))
    (λ q. absurd (some_none b (sym e ∙ find_miss k (empty_block n) [] q)))

pub defs_grown : (bs : List BasicBlock) (k : ℕ) → defs (bs ++ (empty_block k ∷ [])) ≡ defs bs
defs_grown [] k = refl
defs_grown (b ∷ bs) k = rw (defs_grown bs k)

-- an id is there exactly if it is found
pub found_in : (k : ℕ) (bs : List BasicBlock) (b : BasicBlock) → find k bs ≡ some b → In k (block_ids bs)
found_in k [] b e = absurd (some_none b (sym e))
found_in k (x ∷ bs) b e = by_test (eqb x.id k) (λ q. here (eqb-true x.id k q)) (λ q. there (found_in k bs b (sym (find_miss k x bs q) ∙ e)))

not_found : (k : ℕ) (bs : List BasicBlock) → find k bs ≡ none → In k (block_ids bs) → ⊥
not_found k [] e h = in_nil h
not_found k (b ∷ bs) e (here q) = some_none b (sym (find_hit k b bs (eq-eqb b.id k q)) ∙ e)
not_found k (b ∷ bs) e (there h) =
    by_test (eqb b.id k) (λ q. some_none b (sym (find_hit k b bs q) ∙ e)) (λ q. not_found k bs (sym (find_miss k b bs q) ∙ e) h)

pub ids_grown : (n : ℕ) (bs : List BasicBlock) → find n bs ≡ none → Distinct (block_ids bs) → Distinct (block_ids (bs ++ (empty_block n ∷ [])))
ids_grown n bs e d = ins_distinct (at_end bs) (not_found n bs e) d
  where
    at_end : (xs : List BasicBlock) → Ins n (block_ids xs) (block_ids (xs ++ (empty_block n ∷ [])))
    at_end [] = now
    at_end (x ∷ xs) = later (at_end xs)

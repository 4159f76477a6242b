-- A certificate for a function: which locals are written on entry to each block. A function with one never lacks. Assumes nothing.
use Prim.Native.Nat.{ℕ, zero, suc, ◌<◌, ◌≤◌}
use mathlib.Core.Path.{◌≡◌, refl, subst}
use mathlib.Core.Logic.{◌⊎◌, inl, inr}
use mathlib.Core.List.{List, [], ◌∷◌, ◌++◌}
use mathlib.Core.Option.{Option, none, some}
use mathlib.Core.Bool.{true, false}
use lib.Dec.{eqb}
use lib.ListN.{length}
use native.Mathlib.Omega.{arith}
use borrow.Author.Tests.{eqb-true, eq-eqb}
use Rattle.definitions.specs.Ir.{BasicBlock, InstrNode, Instruction, IrFunction, IrType, Terminator, contains, find, local_read, local_written, operands, result_type}
use Rattle.definitions.specs.Run.{Pick, Place, State, Way, all_held, all_written, at, else_way, ended, enter, enter_at, follow, held_at_entry, hold_result, holds, lacks, params_held, run, start, step, step_entry, steps, term_reads, then_way}
use Rattle.definitions.proofs.Results.{by_test}

-- the functions that an instruction calls
abbrev pub callees : Instruction → List ℕ
callees (Instruction.Const t v) = []
callees (Instruction.Binary op t l r) = []
callees (Instruction.Load t b o) = []
callees (Instruction.Store b o v) = []
callees (Instruction.StateRead t s) = []
callees (Instruction.StateWrite s v) = []
callees (Instruction.ReadLocal l t) = []
callees (Instruction.WriteLocal l v) = []
callees (Instruction.Call f a t) = f ∷ []
callees (Instruction.Assert c) = []
callees (Instruction.Poseidon l r) = []
callees (Instruction.Emit e a) = []
callees (Instruction.ContextRead k) = []

-- ---- membership
pub data In {A : Type 0} (v : A) : List A → Type 0 where
  here : {x : A} {xs : List A} → x ≡ v → In v (x ∷ xs)
  there : {x : A} {xs : List A} → In v xs → In v (x ∷ xs)

abbrev pub Sub : {A : Type 0} → List A → List A → Type 0
Sub {A} a b = (v : A) → In v a → In v b

pub sub_refl : {A : Type 0} {a : List A} → Sub a a
sub_refl v h = h

pub sub_trans : {A : Type 0} {a b c : List A} → Sub a b → Sub b c → Sub a c
sub_trans f g v h = g v (f v h)

pub sub_there : {A : Type 0} {a b : List A} {x : A} → Sub a b → Sub a (x ∷ b)
sub_there f v h = there (f v h)

pub sub_cons : {A : Type 0} {a b : List A} {x : A} → Sub a b → Sub (x ∷ a) (x ∷ b)
sub_cons f v (here e) = here e
sub_cons f v (there h) = there (f v h)

pub sub_nil : {A : Type 0} {b : List A} → Sub [] b
sub_nil v h = elim h [ ]

pub in_nil : {A : Type 0} {v : A} → In v [] → ⊥
in_nil h = elim h [ ]

pub sub_pair : {A : Type 0} {a b : List A} {x : A} → In x b → Sub a b → Sub (x ∷ a) b
sub_pair {A} {b = b} h f v (here e) = subst (λ (y : A). In y b) e h
sub_pair h f v (there i) = f v i

pub sub_one : {A : Type 0} {b : List A} {x : A} → In x b → Sub (x ∷ []) b
sub_one h = sub_pair h sub_nil

pub in_one : {A : Type 0} (P : A → Type 0) {x v : A} → P x → In v (x ∷ []) → P v
in_one P p (here e) = subst P e p
in_one P p (there h) = absurd (in_nil h)

pub in_left : {A : Type 0} (a b : List A) (v : A) → In v a → In v (a ++ b)
in_left [] b v h = elim h [ ]
in_left (x ∷ a) b v (here e) = here e
in_left (x ∷ a) b v (there h) = there (in_left a b v h)

pub in_right : {A : Type 0} (a b : List A) (v : A) → In v b → In v (a ++ b)
in_right [] b v h = h
in_right (x ∷ a) b v h = there (in_right a b v h)

pub in_either : {A : Type 0} (a b : List A) (v : A) → In v (a ++ b) → In v a ⊎ In v b
in_either [] b v h = inr h
in_either (x ∷ a) b v (here e) = inl (here e)
in_either (x ∷ a) b v (there h) = lift (in_either a b v h)
  where
    lift : In v a ⊎ In v b → In v (x ∷ a) ⊎ In v b
    lift (inl y) = inl (there y)
    lift (inr y) = inr y

pub sub_append : {A : Type 0} (a : List A) {b c : List A} → Sub b c → Sub (a ++ b) (a ++ c)
sub_append [] f = f
sub_append (x ∷ a) f = sub_cons (sub_append a f)

-- ---- what a block's entries may read
abbrev pub with_result : Option ℕ → List ℕ → List ℕ
with_result none H = H
with_result (some v) H = v ∷ H

pub record NodeOk (F L : ℕ) (H W : List ℕ) (n : InstrNode) : Type 0 where
  pub reads : Sub (operands n.instr) H
  pub written : Sub (local_read n.instr) W
  pub bound : (l : ℕ) → In l (local_read n.instr ++ local_written n.instr) → l < L
  pub calls : (f : ℕ) → In f (callees n.instr) → f < F
  pub typed : (v : ℕ) → n.result ≡ some v → (t : IrType) × (result_type n.instr ≡ some t)

abbrev pub Ok : ℕ → ℕ → List ℕ → List ℕ → List InstrNode → Type 0
Ok F L H W [] = Unit {0}
Ok F L H W (n ∷ ns) = NodeOk F L H W n × Ok F L (with_result n.result H) (local_written n.instr ++ W) ns

abbrev pub held_after : List ℕ → List InstrNode → List ℕ
held_after H [] = H
held_after H (n ∷ ns) = held_after (with_result n.result H) ns

abbrev pub written_after : List ℕ → List InstrNode → List ℕ
written_after W [] = W
written_after W (n ∷ ns) = written_after (local_written n.instr ++ W) ns

pub held_snoc : (H : List ℕ) (ns : List InstrNode) (n : InstrNode) → held_after H (ns ++ (n ∷ [])) ≡ with_result n.result (held_after H ns)
held_snoc H [] n = refl
held_snoc H (m ∷ ns) n = held_snoc (with_result m.result H) ns n

pub written_snoc : (W : List ℕ) (ns : List InstrNode) (n : InstrNode) → written_after W (ns ++ (n ∷ [])) ≡ local_written n.instr ++ written_after W ns
written_snoc W [] n = refl
written_snoc W (m ∷ ns) n = written_snoc (local_written m.instr ++ W) ns n

pub ok_snoc : (F L : ℕ) (H W : List ℕ) (ns : List InstrNode) (n : InstrNode) → Ok F L H W ns → NodeOk F L (held_after H ns) (written_after W ns) n → Ok F L H W (ns ++ (n ∷ []))
ok_snoc F L H W [] n o p = (p, tt)
ok_snoc F L H W (m ∷ ns) n o p = (o.0, ok_snoc F L (with_result m.result H) (local_written m.instr ++ W) ns n o.1 p)

pub ok_more : (F L L' : ℕ) → L ≤ L' → (H W : List ℕ) (ns : List InstrNode) → Ok F L H W ns → Ok F L' H W ns
ok_more F L L' h H W [] o = tt
ok_more F L L' h H W (n ∷ ns) o = (record { reads = o.0.reads; written = o.0.written; bound = λ l i. omega (arith, o.0.bound l i); calls = o.0.calls; typed = o.0.typed }, ok_more F L L' h (with_result n.result H) (local_written n.instr ++ W) ns o.1)

abbrev pub targets : Terminator → List ℕ
targets (Terminator.Jump k) = k ∷ []
targets (Terminator.Branch v t e) = t ∷ e ∷ []
targets (Terminator.Return v) = []
targets Terminator.Unreachable = []

pub record TermOk (cert : ℕ → List ℕ) (blocks : ℕ) (H W : List ℕ) (t : Terminator) : Type 0 where
  pub reads : Sub (term_reads t) H
  pub goes : (k : ℕ) → In k (targets t) → (k < blocks) × Sub (cert k) W

-- what is held on entry: the parameters in block 0
abbrev pub entry_held : List ℕ → ℕ → List ℕ
entry_held ps zero = ps
entry_held ps (suc k) = []

pub record BlockOk (F L : ℕ) (cert : ℕ → List ℕ) (blocks : ℕ) (ps : List ℕ) (b : BasicBlock) : Type 0 where
  pub code : Ok F L (entry_held ps b.id) (cert b.id) b.instrs
  pub end : (t : Terminator) → b.terminator ≡ some t → TermOk cert blocks (held_after (entry_held ps b.id) b.instrs) (written_after (cert b.id) b.instrs) t

abbrev pub ids : List (ℕ × IrType) → List ℕ
ids [] = []
ids (p ∷ ps) = p.0 ∷ ids ps

-- there is a first block, and its id is 0
abbrev pub First : List BasicBlock → Type 0
First bs = (b : BasicBlock) × ((rest : List BasicBlock) × (bs ≡ b ∷ rest) × (b.id ≡ 0))

pub record GoodFn (F : ℕ) (f : IrFunction) : Type 0 where
  pub cert : ℕ → List ℕ
  pub count : ℕ
  pub each : (k : ℕ) (b : BasicBlock) → find k f.blocks ≡ some b → BlockOk F (length f.locals) cert count (ids f.params) b
  pub found : (k : ℕ) → k < count → (b : BasicBlock) × (find k f.blocks ≡ some b)
  pub closed : (k : ℕ) (b : BasicBlock) → find k f.blocks ≡ some b → b.terminator ≡ none → ⊥
  pub first : First f.blocks
  pub some_block : 0 < count
  pub entry : cert 0 ≡ []

-- the two ways a search by id can go, with the equation kept
pub find_hit : (k : ℕ) (x : BasicBlock) (bs : List BasicBlock) → eqb x.id k ≡ true → find k (x ∷ bs) ≡ some x
find_hit k x bs q = rw (q, find)

pub find_miss : (k : ℕ) (x : BasicBlock) (bs : List BasicBlock) → eqb x.id k ≡ false → find k (x ∷ bs) ≡ find k bs
find_miss k x bs q = rw (q, find)

pub find_id : (k : ℕ) (bs : List BasicBlock) (b : BasicBlock) → find k bs ≡ some b → b.id ≡ k
find_id k [] b e = cc
find_id k (x ∷ bs) b e =
    by_test (eqb x.id k)
    (λ q. let h : x.id ≡ k = eqb-true x.id k q in cc (find_hit k x bs q))
    (λ q. find_id k bs b (cc (find_miss k x bs q)))

-- ---- a run stays at a good place
pub record PlaceOk (F L : ℕ) (cert : ℕ → List ℕ) (n : ℕ) (s : Place) : Type 0 where
  pub H : List ℕ
  pub W : List ℕ
  pub code : Ok F L H W s.rest
  pub end : TermOk cert n (held_after H s.rest) (written_after W s.rest) s.end
  pub held : (v : ℕ) → In v H → holds v s.held ≡ true
  pub written : (l : ℕ) → In l W → contains l s.written ≡ true

abbrev pub Safe : ℕ → ℕ → (ℕ → List ℕ) → ℕ → State → Type 0
Safe F L cert n (at s) = PlaceOk F L cert n s
Safe F L cert n ended = Unit {0}
Safe F L cert n lacks = ⊥

all_held_lem : (vs : List ℕ) (hs : List (ℕ × ℕ)) → ((v : ℕ) → In v vs → holds v hs ≡ true) → all_held vs hs ≡ true
all_held_lem [] hs h = refl
all_held_lem (v ∷ vs) hs h = rw (h v (here refl), all_held_lem vs hs (λ w i. h w (there i)))

all_in : (vs hs : List ℕ) → ((v : ℕ) → In v vs → contains v hs ≡ true) → all_written vs hs ≡ true
all_in [] hs h = refl
all_in (v ∷ vs) hs h = rw (h v (here refl), all_in vs hs (λ w i. h w (there i)))

has_cons : (x v : ℕ) (xs : List ℕ) → contains v xs ≡ true → contains v (x ∷ xs) ≡ true
has_cons x v xs h = by_test (eqb x v) (λ q. rw (q, contains)) (λ q. rw (q, contains) h)

has_here : (x v : ℕ) (xs : List ℕ) → x ≡ v → contains v (x ∷ xs) ≡ true
has_here x v xs e = rw (eq-eqb x v e, contains)

holds_here : (x w v : ℕ) (xs : List (ℕ × ℕ)) → x ≡ v → holds v ((x, w) ∷ xs) ≡ true
holds_here x w v xs e = rw (eq-eqb x v e, holds)

holds_cons : (x w v : ℕ) (xs : List (ℕ × ℕ)) → holds v xs ≡ true → holds v ((x, w) ∷ xs) ≡ true
holds_cons x w v xs h = by_test (eqb x v) (λ q. rw (q, holds)) (λ q. rw (q, holds) h)

has_append : (a : List ℕ) (W xs : List ℕ) → ((l : ℕ) → In l W → contains l xs ≡ true) → (l : ℕ) → In l (a ++ W) → contains l (a ++ xs) ≡ true
has_append [] W xs h l i = h l i
has_append (x ∷ a) W xs h l (here e) = has_here x l (a ++ xs) e
has_append (x ∷ a) W xs h l (there i) = has_cons x l (a ++ xs) (has_append a W xs h l i)

holds_result : (r : Option ℕ) (w : ℕ) (H : List ℕ) (hs : List (ℕ × ℕ)) → ((v : ℕ) → In v H → holds v hs ≡ true) → (v : ℕ) → In v (with_result r H) → holds v (hold_result r w hs) ≡ true
holds_result none w H hs h v i = h v i
holds_result (some x) w H hs h v (here e) = holds_here x w v hs e
holds_result (some x) w H hs h v (there i) = holds_cons x w v hs (h v i)

holds_params : (ps : List (ℕ × IrType)) (ws : List ℕ) → length ws ≡ length ps → (v : ℕ) → In v (ids ps) → holds v (params_held ps ws) ≡ true
holds_params [] ws e v i = elim i [ ]
holds_params (p ∷ ps) [] e v i = absurd (omega (arith, e))
holds_params (p ∷ ps) (w ∷ ws) e v (here q) = holds_here p.0 w v (params_held ps ws) q
holds_params (p ∷ ps) (w ∷ ws) e v (there i) = holds_cons p.0 w v (params_held ps ws) (holds_params ps ws (omega (arith, e)) v i)

module _ (F : ℕ) (f : IrFunction) (G : GoodFn F f) (ws : List ℕ) (fits : length ws ≡ length f.params) where
  Fine : State → Type 0
  Fine s = Safe F (length f.locals) G.cert G.count s

  first_held : (k : ℕ) (v : ℕ) → In v (entry_held (ids f.params) k) → holds v (held_at_entry f ws k) ≡ true
  first_held zero v i = rw (G.first.1.1, eq-eqb G.first.0.id 0 G.first.1.2, held_at_entry) (holds_params f.params ws fits v i)
  first_held (suc k) v i = elim i [ ]

  enter_fine : (k : ℕ) (written : List ℕ) → k < G.count → ((l : ℕ) → In l (G.cert k) → contains l written ≡ true) → Fine (enter f ws k written)
  unfolding Fine enter
  enter_fine k written h g = rw e (ends b.terminator refl)
    where
      b : BasicBlock
      b = (G.found k h).0

      e : find k f.blocks ≡ some b
      e = (G.found k h).1

      same : b.id ≡ k
      same = find_id k f.blocks b e

      good : BlockOk F (length f.locals) G.cert G.count (ids f.params) b
      good = G.each k b e

      ends : (t : Option Terminator) → b.terminator ≡ t → Safe F (length f.locals) G.cert G.count (enter_at (held_at_entry f ws k) written (some b))
      ends none q = absurd (G.closed k b e q)
      ends (some t) q = rw (q, enter_at) (record { H = entry_held (ids f.params) b.id; W = G.cert b.id; code = good.code; end = good.end t q; held = λ v i. first_held k v (rw same at i); written = λ l i. g l (rw same at i) })

  follow_fine : (t : Terminator) (way : Way) (H W written : List ℕ) → TermOk G.cert G.count H W t → ((l : ℕ) → In l W → contains l written ≡ true) → Fine (follow f ws t way written)
  unfolding Fine follow
  follow_fine (Terminator.Jump k) way H W written o g = enter_fine k written (o.goes k (here refl)).0 (λ l i. g l ((o.goes k (here refl)).1 l i))
  follow_fine (Terminator.Branch v t e) then_way H W written o g = enter_fine t written (o.goes t (here refl)).0 (λ l i. g l ((o.goes t (here refl)).1 l i))
  follow_fine (Terminator.Branch v t e) else_way H W written o g = enter_fine e written (o.goes e (there (here refl))).0 (λ l i. g l ((o.goes e (there (here refl))).1 l i))
  follow_fine (Terminator.Return v) way H W written o g = tt
  follow_fine Terminator.Unreachable way H W written o g = tt

  entry_fine : (p : Pick) (s : Place) (ns : List InstrNode) (H W : List ℕ) → Ok F (length f.locals) H W ns → TermOk G.cert G.count (held_after H ns) (written_after W ns) s.end → ((v : ℕ) → In v H → holds v s.held ≡ true) → ((l : ℕ) → In l W → contains l s.written ≡ true) → Fine (step_entry f ws p s ns)
  unfolding Fine step_entry
  entry_fine p s [] H W o t h g = rw (all_held_lem (term_reads s.end) s.held (λ v i. h v (t.reads v i)), step_entry) (follow_fine s.end p.1 H W s.written t g)
  entry_fine p s (n ∷ ns) H W o t h g =
      rw (all_held_lem (operands n.instr) s.held (λ v i. h v (o.0.reads v i)), all_in (local_read n.instr) s.written (λ l i. g l (o.0.written l i)), step_entry)
      (record { H = with_result n.result H; W = local_written n.instr ++ W; code = o.1; end = t; held = holds_result n.result p.0 H s.held h; written = has_append (local_written n.instr) W s.written g })

  step_fine : (p : Pick) (s : State) → Fine s → Fine (step f ws p s)
  unfolding Fine step
  step_fine p (at s) o = entry_fine p s s.rest o.H o.W o.code o.end o.held o.written
  step_fine p ended o = tt
  step_fine p lacks o = absurd o

  steps_fine : (ps : List Pick) (s : State) → Fine s → Fine (steps f ws ps s)
  unfolding steps
  steps_fine [] s o = o
  steps_fine (p ∷ ps) s o = steps_fine ps (step f ws p s) (step_fine p s o)

  start_enters : (b : BasicBlock) (bs : List BasicBlock) → f.blocks ≡ b ∷ bs → b.id ≡ 0 → start f ws f.blocks ≡ enter f ws 0 []
  unfolding start enter
  start_enters b bs e z = rw (e, eq-eqb b.id 0 z, find, held_at_entry)

  start_fine : Fine (start f ws f.blocks)
  start_fine = rw (start_enters G.first.0 G.first.1.0 G.first.1.1 G.first.1.2) (enter_fine 0 [] G.some_block (λ l i. absurd (in_nil (rw G.entry at i))))

  not_lacks : (s : State) → Fine s → s ≡ lacks → ⊥
  unfolding Fine
  not_lacks s o e = rw e at o

  pub never_lacks : (ps : List Pick) → run f ws ps ≡ lacks → ⊥
  unfolding run
  never_lacks ps e = not_lacks (steps f ws ps (start f ws f.blocks)) (steps_fine ps (start f ws f.blocks) start_fine) e

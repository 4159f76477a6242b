-- A lowered program whose sheet is short enough fits; demand 3 on its sheet. Assumes nothing.
use Prim.Native.Nat.{ℕ, zero, suc, ◌+◌, ◌≤◌, ◌<◌}
use mathlib.Core.Path.{◌≡◌, refl, sym, ◌∙◌, ap, subst}
use mathlib.Core.List.{List, [], ◌∷◌, ◌++◌, map}
use mathlib.Core.Option.{Option, none, some}
use lib.Dec.{eqb}
use lib.ListN.{length, length-append}
use native.Mathlib.Omega.{arith}
use borrow.Author.Tests.{eq-eqb, ne_eqb}
use Rattle.definitions.specs.Ast.{Contract, Function}
use Rattle.definitions.specs.Fields.{bytes}
use Rattle.definitions.specs.Ir.{BasicBlock, InstrNode, Instruction, IrFunction, IrProgram, IrType, Terminator, find, local_read, local_written, operands}
use Rattle.definitions.specs.Lower.{function_names, lower_contract, lower_function, lower_functions, set_name}
use Rattle.definitions.specs.ProgramSheet.{block_tree, function_name_tree, ir_function_tree, instr_tree, opt_term_tree, param_item, write_program}
use Rattle.definitions.specs.Records.{Item, Tree, Trees, FieldValue, group, node, tnil, trees_of, write_item, write_items, write_tree, write_trees, write_value, write_values}
use Rattle.definitions.specs.Result.{ok}
use Rattle.definitions.specs.Run.{term_reads}
use Rattle.definitions.specs.Verify.{block_ids}
use Rattle.definitions.proofs.Results.{by_test, ok_inj, taking}
use Rattle.definitions.proofs.Runs.Safe.{callees, In, here, there, in_nil, in_left, in_right, with_result, Ok, held_after, targets, entry_held, BlockOk, ids, GoodFn, find_hit, find_miss}
use Rattle.definitions.proofs.Runs.Blocks.{results, defs, Distinct, found_in}
use Rattle.definitions.proofs.Runs.Keeping.{fns}
use Rattle.definitions.proofs.Runs.Functions.{FnOk, function_ok}
use Rattle.definitions.specs.All.{All, anil, acons}
use Rattle.definitions.proofs.Programs.Fits.{Id, FitsType, FitsOpt, FitsInstr, FitsTerm, FitsNode, FitsBlock, FitsFunction, Fits}
use Rattle.definitions.proofs.Contracts.Bounds.{SmallFunction, Small}
use Rattle.definitions.proofs.Sheets.Trees.{wrap_long, tree_long}
use Rattle.definitions.proofs.Programs.Contents.{Content, NodeFits, CodeFits, FnFits, function_fit}

-- HOW LONG A SHEET IS, AT LEAST
abbrev sum : {A : Type 0} → (A → ℕ) → List A → ℕ
sum w [] = 0
sum w (a ∷ l) = w a + sum w l

trees_length : {A : Type 0} (t : A → Tree) (w : A → ℕ) → ((a : A) → w a ≤ length (write_tree (t a))) → (l : List A) (ts : Trees) → sum w l + length (write_trees ts) ≤ length (write_trees (trees_of t l ts))
unfolding write_tree
trees_length t w h [] ts = omega arith
trees_length t w h (a ∷ l) ts = rw length-append (omega (arith, h a, trees_length t w h l ts))

results_few : (ns : List InstrNode) → length (results ns) ≤ sum (λ (n : InstrNode). 1) ns
results_few [] = omega arith
results_few (n ∷ ns) = go n.result (results_few ns)
  where
    go : (r : Option ℕ) → length (results ns) ≤ sum (λ (n : InstrNode). 1) ns → length (with_result r (results ns)) ≤ 1 + sum (λ (n : InstrNode). 1) ns
    go none h = omega arith
    go (some v) h = omega arith

node_length : (at k : ℕ) (vs : List FieldValue) (ts : Trees) → length (write_tree (node at k vs ts)) ≡ 6 + (length (write_values vs) + length (write_trees ts))
unfolding write_tree
node_length at k vs ts = wrap_long k (write_values vs ++ write_trees ts) ∙ ap (λ (x : ℕ). 6 + x) (length-append (write_values vs) (write_trees ts))

abbrev block_weight : BasicBlock → ℕ
block_weight b = length (results b.instrs)

block_length : (b : BasicBlock) → block_weight b ≤ length (write_tree (block_tree b))
block_length b =
    rw node_length (omega (
      arith,
      results_few b.instrs,
      trees_length instr_tree (λ (n : InstrNode). 1) (λ n. omega (arith, tree_long (instr_tree n))) b.instrs (opt_term_tree b.terminator),
    ))

defs_sum : (bs : List BasicBlock) → length (defs bs) ≡ sum block_weight bs
defs_sum [] = refl
defs_sum (b ∷ bs) = rw length-append (omega (arith, defs_sum bs))

params_long : (ps : List (ℕ × IrType)) → length ps ≤ length (write_items (map param_item ps))
unfolding write_items write_item bytes
params_long [] = omega arith
params_long (p ∷ ps) = simp length-append (omega (arith, params_long ps))

abbrev fn_weight : IrFunction → ℕ
fn_weight g = length g.params + length (defs g.blocks)

values_long : (a b c : FieldValue) (is : List Item) (vs : List FieldValue) (n : ℕ) → n ≤ length (write_items is) → n ≤ length (write_values (a ∷ b ∷ c ∷ group is ∷ vs))
unfolding write_values write_value
values_long a b c is vs n h = simp length-append (omega arith)

node_weighs : (at k : ℕ) (vs : List FieldValue) (ts : Trees) (m n : ℕ) → m ≤ length (write_values vs) → n ≤ length (write_trees ts) → m + n ≤ length (write_tree (node at k vs ts))
node_weighs at k vs ts m n g h = omega (arith, node_length at k vs ts)

blocks_long : (bs : List BasicBlock) → length (defs bs) ≤ length (write_trees (trees_of block_tree bs tnil))
blocks_long bs = omega (arith, defs_sum bs, trees_length block_tree block_weight block_length bs tnil)

fn_length : (g : IrFunction) → fn_weight g ≤ length (write_tree (ir_function_tree g))
fn_length g = node_weighs 0 51 _ _ (length g.params) (length (defs g.blocks)) (values_long _ _ _ (map param_item g.params) _ (length g.params) (params_long g.params)) (blocks_long g.blocks)

-- every function of a program is at most as long as its sheet
all_below : {A : Type 0} (w : A → ℕ) (n : ℕ) (l : List A) → sum w l ≤ n → All (λ (a : A). w a ≤ n) l
all_below w n [] h = anil
all_below w n (a ∷ l) h = let k : w a ≤ n = omega arith in acons k (all_below w n l (omega arith))

program_length : (p : IrProgram) → sum fn_weight p.functions ≤ length (write_program p)
unfolding write_program
program_length p = rw node_length (omega (arith, trees_length ir_function_tree fn_weight fn_length p.functions (trees_of function_name_tree p.function_names tnil)))

-- THE NUMBERS OF A FUNCTION
all_ids : (n : ℕ) (l : List ℕ) → ((v : ℕ) → In v l → v < 65535) → All Id l
all_ids n [] h = anil
all_ids n (v ∷ l) h = acons (h v (here refl)) (all_ids n l (λ w i. h w (there i)))

instr_fits : (i : Instruction) → Content i → ((v : ℕ) → In v (operands i) → v < 65535) → ((l : ℕ) → In l (local_read i ++ local_written i) → l < 65535) → ((f : ℕ) → In f (callees i) → f < 65535) → FitsInstr i
instr_fits (Instruction.Const t v) c o l f = c
instr_fits (Instruction.Binary op t a b) c o l f = (c, o a (here refl), o b (there (here refl)))
instr_fits (Instruction.Load t b k) c o l f = (c.0, o b (here refl), c.1)
instr_fits (Instruction.Store b k v) c o l f = (o b (here refl), c, o v (there (here refl)))
instr_fits (Instruction.StateRead t s) c o l f = c
instr_fits (Instruction.StateWrite s v) c o l f = (c, o v (here refl))
instr_fits (Instruction.ReadLocal k t) c o l f = (l k (here refl), c)
instr_fits (Instruction.WriteLocal k v) c o l f = (l k (here refl), o v (here refl))
instr_fits (Instruction.Call g a t) c o l f = (f g (here refl), all_ids 0 a o, c)
instr_fits (Instruction.Assert k) c o l f = o k (here refl)
instr_fits (Instruction.Poseidon a b) c o l f = (o a (here refl), o b (there (here refl)))
instr_fits (Instruction.Emit e a) c o l f = (c, all_ids 0 a o)
instr_fits (Instruction.ContextRead k) c o l f = c

result_fits : (r : Option ℕ) (vs : List ℕ) → ((v : ℕ) → In v (with_result r vs) → v < 65535) → FitsOpt r
result_fits none vs h = tt
result_fits (some v) vs h = h v (here refl)

with_low : (r : Option ℕ) (H vs : List ℕ) → ((v : ℕ) → In v H → v < 65535) → ((v : ℕ) → In v (with_result r vs) → v < 65535) → (v : ℕ) → In v (with_result r H) → v < 65535
with_low none H vs h k v i = h v i
with_low (some x) H vs h k v (here e) = k v (here e)
with_low (some x) H vs h k v (there i) = h v i

rest_low : (r : Option ℕ) (vs : List ℕ) → ((v : ℕ) → In v (with_result r vs) → v < 65535) → (v : ℕ) → In v vs → v < 65535
rest_low none vs k v i = k v i
rest_low (some x) vs k v i = k v (there i)

module _ (F L : ℕ) (h_f : F ≤ 65535) (h_l : L ≤ 65535) where
  nodes_fit : (H W : List ℕ) (ns : List InstrNode) → Ok F L H W ns → All NodeFits ns → ((v : ℕ) → In v H → v < 65535) → ((v : ℕ) → In v (results ns) → v < 65535) → All FitsNode ns
  nodes_fit H W [] o c h k = anil
  nodes_fit H W (n ∷ ns) o (acons p c) h k =
      acons (record { result = result_fits n.result (results ns) k; instr = instr_fits n.instr p (λ v i. h v (o.0.reads v i)) (λ l i. omega (arith, o.0.bound l i)) (λ f i. omega (arith, o.0.calls f i)) })
      (nodes_fit (with_result n.result H) (local_written n.instr ++ W) ns o.1 c (with_low n.result H (results ns) h k) (rest_low n.result (results ns) k))

held_low : (H : List ℕ) (ns : List InstrNode) → ((v : ℕ) → In v H → v < 65535) → ((v : ℕ) → In v (results ns) → v < 65535) → (v : ℕ) → In v (held_after H ns) → v < 65535
held_low H [] h k = h
held_low H (n ∷ ns) h k = held_low (with_result n.result H) ns (with_low n.result H (results ns) h k) (rest_low n.result (results ns) k)

term_fits : (t : Terminator) → ((v : ℕ) → In v (term_reads t) → v < 65535) → ((k : ℕ) → In k (targets t) → k < 65535) → FitsTerm (some t)
term_fits (Terminator.Jump b) r g = g b (here refl)
term_fits (Terminator.Branch c a b) r g = (r c (here refl), g a (here refl), g b (there (here refl)))
term_fits (Terminator.Return none) r g = tt
term_fits (Terminator.Return (some v)) r g = r v (here refl)
term_fits Terminator.Unreachable r g = tt

-- blocks by their ids
id_low : (k : ℕ) (bs : List BasicBlock) → All CodeFits bs → In k (block_ids bs) → k < 65535
id_low k [] _ h = elim h [ ]
id_low k (b ∷ bs) (acons p c) (here e) = omega (arith, p.0, e)
id_low k (b ∷ bs) (acons p c) (there i) = id_low k bs c i

-- what holds of each block that can be found, and of each block's code, holds of each block
every : (P Q R : BasicBlock → Type 0) → ((b : BasicBlock) → P b → Q b → ((v : ℕ) → In v (results b.instrs) → v < 65535) → R b)
    → (bs : List BasicBlock) → Distinct (block_ids bs) → ((k : ℕ) (b : BasicBlock) → find k bs ≡ some b → P b) → All Q bs → ((v : ℕ) → In v (defs bs) → v < 65535) → All R bs
every P Q R m [] d f c h = anil
every P Q R m (x ∷ bs) d f (acons q c) h =
    acons (m x (f x.id x (find_hit x.id x bs (eq-eqb x.id x.id refl))) q (λ v i. h v (in_left (results x.instrs) (defs bs) v i)))
    (every P Q R m bs d.1 (λ k b e. f k b (find_miss k x bs (ne_eqb x.id k (λ z. d.0 (rw z (found_in k bs b e)))) ∙ e)) c (λ v i. h v (in_right (results x.instrs) (defs bs) v i)))

entry_low : (ps : List ℕ) (k : ℕ) → ((v : ℕ) → In v ps → v < 65535) → (v : ℕ) → In v (entry_held ps k) → v < 65535
entry_low ps zero h = h
entry_low ps (suc k) h = λ v i. absurd (in_nil i)

params_fit : (ps : List (ℕ × IrType)) → ((v : ℕ) → In v (ids ps) → v < 65535) → All (λ (v : ℕ × IrType). FitsType v.1) ps → All (λ (p : ℕ × IrType). Id p.0 × FitsType p.1) ps
params_fit [] h c = anil
params_fit (p ∷ ps) h (acons t c) = acons (h p.0 (here refl), t) (params_fit ps (λ v i. h v (there i)) c)

module _ (F : ℕ) (h_f : F ≤ 65535) (g : IrFunction) (h_l : length g.locals ≤ 65535) (G : GoodFn F g) (code : All CodeFits g.blocks) (low : (v : ℕ) → In v (ids g.params) → v < 65535) where
  block_fits : (b : BasicBlock) → BlockOk F (length g.locals) G.cert G.count (ids g.params) b → CodeFits b → ((v : ℕ) → In v (results b.instrs) → v < 65535) → FitsBlock b
  block_fits b o c k =
      let h : (v : ℕ) → In v (entry_held (ids g.params) b.id) → v < 65535 = entry_low (ids g.params) b.id low in
      record { id = omega (arith, c.0); instrs = nodes_fit F (length g.locals) h_f h_l _ _ b.instrs o.code c.1 h k; terminator = go b.terminator refl h }
    where
      go : (t : Option Terminator) → b.terminator ≡ t → ((v : ℕ) → In v (entry_held (ids g.params) b.id) → v < 65535) → FitsTerm t
      go none e h = tt
      go (some t) e h =
          let T = o.end t e in
          term_fits t (λ v i. held_low _ b.instrs h k v (T.reads v i))
          (λ n i. let w = G.found n (T.goes n i).0 in id_low n g.blocks code (found_in n g.blocks w.0 w.1))

module _ (K : Contract) (S : Small K) where
  function_fits : (i : ℕ) (f : Function) (g : IrFunction) → SmallFunction f → i < 65535 → fn_weight g ≤ 32768 → lower_function K i f ≡ ok g → FitsFunction g
  function_fits i f g s hi w e = made (function_ok K i f g e) (function_fit K S i f g s e)
    where
      made : FnOk (fns K) i g → FnFits K S f g → FitsFunction g
      made O j =
          let low : (v : ℕ) → In v (ids g.params) → v < 65535 = (λ v h. omega (arith, O.params_low v h, O.few_params)) in
          let high : (v : ℕ) → In v (defs g.blocks) → v < 65535 = (λ v h. omega (arith, O.values_low v h, O.few, O.few_params)) in
          let h_f : fns K ≤ 65535 = omega (arith, S.count) in
          let h_l : length g.locals ≤ 65535 = omega (arith, j.local_count) in
          record {
            id = rw O.id hi;
            name = rw j.name s.name;
            params = params_fit g.params low j.typed;
            param_count = omega arith;
            ret_ty = j.ret_ty;
            blocks = every _ CodeFits FitsBlock (block_fits (fns K) h_f g h_l O.good j.code low) g.blocks O.blocks_distinct O.good.each j.code high;
            locals = j.locals;
            local_count = omega (arith, j.local_count);
          }

  functions_fit : (i : ℕ) (fs : List Function) (gs : List IrFunction) → All SmallFunction fs → i + length fs ≤ 64 → All (λ (g : IrFunction). fn_weight g ≤ 32768) gs → lower_functions K i fs ≡ ok gs → All FitsFunction gs
  unfolding lower_functions
  functions_fit i [] gs s h w e = subst (All FitsFunction) (ok_inj e) anil
  functions_fit i (f ∷ fs) gs (acons s ss) h w e =
      taking (lower_function K i f) _ e λ g eg e₁.
      taking (lower_functions K (suc i) fs) _ e₁ λ r er e₂.
      more g r (ok_inj e₂) eg (λ w. functions_fit (suc i) fs r ss (omega arith) w er)
    where
      split : (g : IrFunction) (r : List IrFunction) → All (λ (g : IrFunction). fn_weight g ≤ 32768) (g ∷ r) → (fn_weight g ≤ 32768) × All (λ (g : IrFunction). fn_weight g ≤ 32768) r
      split g r (acons p q) = (p, q)

      more : (g : IrFunction) (r : List IrFunction) → g ∷ r ≡ gs → lower_function K i f ≡ ok g → (All (λ (g : IrFunction). fn_weight g ≤ 32768) r → All FitsFunction r) → All FitsFunction gs
      more g r eq eg below =
          let w' = split g r (subst (All (λ (g : IrFunction). fn_weight g ≤ 32768)) (sym eq) w) in
          subst (All FitsFunction) eq (acons (function_fits i f g s (omega arith) w'.0 eg) (below w'.1))

abbrev NameFits : ℕ × ℕ → Type 0
NameFits n = Id n.0 × Id n.1

set_name_lem : (n i : ℕ) → Id n → Id i → (rs : List (ℕ × ℕ)) → All NameFits rs → All NameFits (set_name n i rs)
set_name_lem n i hn hi [] h = acons (hn, hi) anil
set_name_lem n i hn hi (r ∷ rs) (acons p h) = by_test (eqb r.0 n) (λ q. rw (q, set_name) (acons (hn, hi) h)) (λ q. rw (q, set_name) (acons p (set_name_lem n i hn hi rs h)))

names_fit : (i : ℕ) (fs : List Function) (rs : List (ℕ × ℕ)) → All SmallFunction fs → i + length fs ≤ 64 → All NameFits rs → All NameFits (function_names i fs rs)
names_fit i [] rs s h r = r
names_fit i (f ∷ fs) rs (acons s ss) h r = names_fit (suc i) fs (set_name f.name i rs) ss (omega arith) (set_name_lem f.name i s.name (omega arith) rs r)

-- a lowered program whose sheet is no longer than 32,768 fits
pub lowered_fits : (K : Contract) (p : IrProgram) → Small K → lower_contract K ≡ ok p → length (write_program p) ≤ 32768 → Fits p
unfolding lower_contract
lowered_fits K p S e l =
    taking (lower_functions K 0 K.functions) _ e λ fs ef e₁.
    made fs ef (ok_inj e₁)
  where
    whole : List IrFunction → IrProgram
    whole fs = record { functions = fs; function_names = function_names 0 K.functions [] }

    made : (fs : List IrFunction) → lower_functions K 0 K.functions ≡ ok fs → whole fs ≡ p → Fits p
    made fs ef q =
        let l₀ : length (write_program (whole fs)) ≤ 32768 = subst (λ (x : IrProgram). length (write_program x) ≤ 32768) (sym q) l in
        let n : 0 + length K.functions ≤ 64 = omega (arith, S.count) in
        let w : sum fn_weight fs ≤ 32768 = omega (arith, program_length (whole fs)) in
        subst Fits q (record {
          functions = functions_fit K S 0 K.functions fs S.functions n (all_below fn_weight 32768 fs w) ef;
          function_names = names_fit 0 K.functions [] S.functions n anil;
          long = omega arith;
        })

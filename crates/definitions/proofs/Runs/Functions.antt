-- Demand 3, its run half: no list of picks brings a lack. Assumes nothing.
use Prim.Native.Nat.{ℕ, suc, ◌<◌, ◌≤◌, ◌+◌}
use mathlib.Core.Path.{◌≡◌, refl, sym, ◌∙◌, subst}
use mathlib.Core.List.{List, Memᴰ, [], ◌∷◌}
use mathlib.Core.Option.{none}
use lib.Dec.{ltb}
use lib.ListN.{length}
use native.Mathlib.Omega.{arith}
use borrow.Author.Tests.{eq-eqb, ne_eqb}
use Rattle.definitions.specs.Ast.{Param, Contract, Function}
use Rattle.definitions.specs.Ir.{Instruction, IrFunction, IrProgram, IrType, Terminator}
use Rattle.definitions.specs.Lower.{FnCtx, LoweringError, Value, defined, empty_block, fresh_local, fresh_value, init_local, ir_function, lower_contract, lower_function, lower_functions, lower_params, lower_stmts, new_ctx, parse_ir_type, push_instr, set_scopes, terminate_if_open, with_local}
use Rattle.definitions.specs.Result.{ok}
use Rattle.definitions.specs.Run.{Pick, lacks, run}
use Rattle.definitions.specs.Verify.{block_ids}
use Rattle.definitions.proofs.Results.{by_test, ok_inj, taking, some_none}
use Rattle.definitions.proofs.Runs.Safe.{In, here, there, Sub, sub_refl, sub_trans, sub_cons, sub_nil, in_nil, ids, GoodFn, find_hit, find_miss, never_lacks}
use Rattle.definitions.proofs.Runs.Blocks.{defs, Distinct, only, defs_none}
use Rattle.definitions.proofs.Runs.Invariant.{Inv, weaken, scopes_keep}
use Rattle.definitions.proofs.Runs.Keeping.{fns, hold_inv, Stands, stands_kept}
use Rattle.definitions.proofs.Traversal.Keeps.{Post, bad, good, given, Known}
use Rattle.definitions.proofs.Traversal.Lowering.{locals_of, defined_in, body_keeps}

-- ---- the start
start_inv : (F : ℕ) (ps : List ℕ) (i : ℕ) → Inv F 0 ps (λ k. []) (0 ∷ []) ps [] (new_ctx i)
start_inv F ps i = record {
  built = record {
    each = λ k b e. rw (only 0 k b e).0 (record { code = tt; end = λ t q. absurd (some_none t (sym q)) });
    found = λ k h. (empty_block 0, find_hit k (empty_block 0) [] (eq-eqb 0 k (omega arith)));
    absent = λ k h. find_miss k (empty_block 0) [] (ne_eqb 0 k (λ e. omega arith));
    certs = λ k h l j. absurd (in_nil j);
    first = (empty_block 0, ([], refl, refl));
  };
  opens = λ k b e z. here (only 0 k b e).1;
  spot = record { inside = omega arith; held = λ b e. rw (only 0 0 b e).0 sub_refl; written = λ b e. sub_nil; bounded = λ l h. absurd (in_nil h) };
  values = record { distinct = tt; range = λ v h. absurd (in_nil h); after = omega arith; few = omega arith; blocks = (in_nil, tt) };
}

take_keeps : {F : ℕ} {ps : List ℕ} {cert : ℕ → List ℕ} {Q H W : List ℕ} {c : FnCtx} → defs c.blocks ≡ [] → Inv F c.next_value ps cert Q H W c → Inv F (suc c.next_value) ps cert Q H W (fresh_value c)
unfolding fresh_value
take_keeps plain I = record { built = I.built; opens = I.opens; spot = I.spot; values = record { distinct = I.values.distinct; range = λ v h. absurd (in_nil (rw plain at h)); after = omega arith; few = omega arith; blocks = I.values.blocks } }

-- ---- the parameters: no value is defined by a block yet
-- a parameter's local, written at once
record Hold (F m : ℕ) (ps : List ℕ) (cert : ℕ → List ℕ) (Q H W : List ℕ) (c : FnCtx) (q : FnCtx × ℕ) : Type 0 where
  inv : Inv F m ps cert Q H (q.1 ∷ W) q.0
  scopes : q.0.scopes ≡ c.scopes
  current_block : q.0.current_block ≡ c.current_block
  values : defs q.0.blocks ≡ defs c.blocks
  next_value : q.0.next_value ≡ c.next_value

hold_keeps : {F m : ℕ} {ps : List ℕ} {cert : ℕ → List ℕ} {Q H W : List ℕ} {c : FnCtx} (t : IrType) (v : ℕ) → In v H → Inv F m ps cert Q H W c → Post (Hold F m ps cert Q H W c) (init_local t v c)
unfolding init_local fresh_local with_local push_instr
hold_keeps {c = c} t v i I =
    by_test (ltb (length c.locals) 256)
    (λ q. rw (q, fresh_local) (good _ (record { inv = hold_inv t v i I; scopes = refl; current_block = refl; values = defs_none c.current_block (Instruction.WriteLocal (length c.locals) v) c.blocks; next_value = refl })))
    (λ q. rw (q, fresh_local) (bad (LoweringError.TooManyBlocksOrLocals c.fid)))

pub record Begun (F : ℕ) (ps : List ℕ) (H : List ℕ) (c : FnCtx) (q : FnCtx × List Value) : Type 0 where
  pub W' : List Value
  pub inv : Inv F q.0.next_value ps (λ k. []) (0 ∷ []) H (ids W') q.0
  pub counted : q.0.next_value ≤ c.next_value + length q.1
  pub scoped : Sub (locals_of q.0.scopes) W'
  pub current_block : q.0.current_block ≡ 0
  pub plain : defs q.0.blocks ≡ []
  pub range : (v : ℕ) → In v (ids q.1) → (c.next_value ≤ v) × (v < q.0.next_value)
  pub distinct : Distinct (ids q.1)
  pub grows : c.next_value ≤ q.0.next_value

params_begin : (F : ℕ) (ps : List ℕ) (l : List Param) (H : List ℕ) (W : List Value) (c : FnCtx) (q : FnCtx × List Value) → lower_params l c ≡ ok q → Sub (ids q.1) H → Sub (locals_of c.scopes) W → c.current_block ≡ 0 → defs c.blocks ≡ [] → Inv F c.next_value ps (λ k. []) (0 ∷ []) H (ids W) c → Begun F ps H c q
unfolding lower_params set_scopes fresh_value
params_begin F ps [] H W c q e sub sc cur plain I = subst (Begun F ps H c) (ok_inj e) (record { W' = W; inv = I; counted = omega arith; scoped = sc; current_block = cur; plain = plain; range = λ v h. absurd (in_nil h); distinct = tt; grows = omega arith })
params_begin F ps (p ∷ l) H W c q e sub sc cur plain I =
    taking (init_local (parse_ir_type p.ty) c.next_value (fresh_value c)) _ e λ x ex e₁.
    taking (lower_params l (set_scopes (defined p.name x.1 (parse_ir_type p.ty) x.0.scopes) x.0)) _ e₁ λ r er e₂.
    more x ex r er (ok_inj e₂) (λ H W s. params_begin F ps l H W (set_scopes (defined p.name x.1 (parse_ir_type p.ty) x.0.scopes) x.0) r er s)
  where
    t : IrType
    t = parse_ir_type p.ty

    after : FnCtx × ℕ → FnCtx
    after x = set_scopes (defined p.name x.1 t x.0.scopes) x.0

    more : (x : FnCtx × ℕ) → init_local t c.next_value (fresh_value c) ≡ ok x → (r : FnCtx × List Value) → lower_params l (after x) ≡ ok r → (r.0, (c.next_value, t) ∷ r.1) ≡ q
        → ((H : List ℕ) (W : List Value) → Sub (ids r.1) H → Sub (locals_of (after x).scopes) W → (after x).current_block ≡ 0 → defs (after x).blocks ≡ [] → Inv F (after x).next_value ps (λ k. []) (0 ∷ []) H (ids W) (after x) → Begun F ps H (after x) r) → Begun F ps H c q
    more x ex r er eq below =
        let s : Sub (c.next_value ∷ ids r.1) H = subst (λ (z : FnCtx × List Value). Sub (ids z.1) H) (sym eq) sub in
        let h = given (hold_keeps t c.next_value (s c.next_value (here refl)) (take_keeps plain I)) ex in
        let B = below H ((x.1, t) ∷ W) (λ v i. s v (there i)) (sub_trans (defined_in p.name x.1 t x.0.scopes) (sub_cons (rw h.scopes sc))) (h.current_block ∙ cur) (h.values ∙ plain) (subst (λ (k : ℕ). Inv F k ps (λ k. []) (0 ∷ []) H (x.1 ∷ ids W) (after x)) (sym h.next_value) (scopes_keep (defined p.name x.1 t x.0.scopes) h.inv)) in
        let nv : x.0.next_value ≡ suc c.next_value = h.next_value in
        let g : x.0.next_value ≤ r.0.next_value = B.grows in
        subst (Begun F ps H c) eq (record { W' = B.W'; inv = B.inv; counted = omega (arith, B.counted); scoped = B.scoped; current_block = B.current_block; plain = B.plain; range = λ v i. rng v i x.0.next_value nv g B.range; distinct = (λ i. omega (arith, B.range c.next_value i), B.distinct); grows = omega arith })
      where
        rng : (v : ℕ) → In v (c.next_value ∷ ids r.1) → (n : ℕ) → n ≡ suc c.next_value → n ≤ r.0.next_value → ((v : ℕ) → In v (ids r.1) → (n ≤ v) × (v < r.0.next_value)) → (c.next_value ≤ v) × (v < r.0.next_value)
        rng v (here e) n nv g b = omega arith
        rng v (there i) n nv g b = omega (arith, b v i)

-- ---- a function
-- what holds of a lowered function
pub record FnOk (F : ℕ) (i : ℕ) (g : IrFunction) : Type 0 where
  pub id : g.id ≡ i
  pub good : GoodFn F g
  pub last : ℕ
  pub params_low : (v : ℕ) → In v (ids g.params) → v < last
  pub few_params : last ≤ length g.params
  pub next : ℕ
  pub values_low : (v : ℕ) → In v (defs g.blocks) → v < next
  pub few : next ≤ last + length (defs g.blocks)
  pub params_distinct : Distinct (ids g.params)
  pub values_high : (v : ℕ) → In v (defs g.blocks) → last ≤ v
  pub values_distinct : Distinct (defs g.blocks)
  pub blocks_distinct : Distinct (block_ids g.blocks)

good_of : {F m i : ℕ} (f : Function) {ps : List Value} {cert : ℕ → List ℕ} {c : FnCtx} → cert 0 ≡ [] → Inv F m (ids ps) cert [] [] [] c → GoodFn F (ir_function i f ps c)
good_of f {cert = cert} {c = c} z I = record { cert = cert; count = c.next_block; each = I.built.each; found = I.built.found; closed = λ k b q z. in_nil (I.opens k b q z); first = I.built.first; some_block = omega (arith, I.spot.inside); entry = z }

pub function_ok : (K : Contract) (i : ℕ) (f : Function) (g : IrFunction) → lower_function K i f ≡ ok g → FnOk (fns K) i g
unfolding lower_function
function_ok K i f g e =
    taking (lower_params f.params (new_ctx i)) _ e λ p ep e₁.
    taking (lower_stmts K f.body p.0) _ e₁ λ c ec e₂.
    subst (FnOk (fns K) i) (ok_inj e₂) (made p c ec (params_begin (fns K) (ids p.1) f.params (ids p.1) [] (new_ctx i) p ep sub_refl sub_nil refl refl (start_inv (fns K) (ids p.1) i)))
  where
    made : (p : FnCtx × List Value) (c : FnCtx) → lower_stmts K f.body p.0 ≡ ok c → Begun (fns K) (ids p.1) (ids p.1) (new_ctx i) p → FnOk (fns K) i (ir_function i f p.1 (terminate_if_open (Terminator.Return none) c))
    made p c ec B =
        let start : Stands K p.0.next_value (ids p.1) [] (0 ∷ []) [] B.W' p.0 = record { cert = λ k. []; inv = weaken sub_nil sub_refl B.inv; entry = refl; known = λ k h. absurd (in_nil h) } in
        ends (given (body_keeps K ⊥ (Stands K p.0.next_value (ids p.1)) (stands_kept K p.0.next_value (ids p.1)) f.body (λ s. absurd s) p.0 B.current_block B.scoped start) ec).inv
      where
        ends : {k : List Known} → Stands K p.0.next_value (ids p.1) k [] [] [] (terminate_if_open (Terminator.Return none) c) → FnOk (fns K) i (ir_function i f p.1 (terminate_if_open (Terminator.Return none) c))
        ends Z =
            record {
              id = refl;
              good = good_of f Z.entry Z.inv;
              last = p.0.next_value;
              params_low = λ v h. (B.range v h).1;
              few_params = omega (arith, B.counted);
              next = (terminate_if_open (Terminator.Return none) c).next_value;
              values_low = λ v h. (Z.inv.values.range v h).1;
              few = Z.inv.values.few;
              params_distinct = B.distinct;
              values_high = λ v h. (Z.inv.values.range v h).0;
              values_distinct = Z.inv.values.distinct;
              blocks_distinct = Z.inv.values.blocks;
            }

-- ---- a contract: function `k` of the program is the lowered function `k`
pub data Each (F : ℕ) : ℕ → List IrFunction → Type 0 where
  none_left : {i : ℕ} → Each F i []
  one_more : {i : ℕ} {g : IrFunction} {gs : List IrFunction} → FnOk F i g → Each F (suc i) gs → Each F i (g ∷ gs)

functions_ok : (K : Contract) (i : ℕ) (fs : List Function) (gs : List IrFunction) → lower_functions K i fs ≡ ok gs → Each (fns K) i gs
unfolding lower_functions
functions_ok K i [] gs e = subst (Each (fns K) i) (ok_inj e) none_left
functions_ok K i (f ∷ fs) gs e =
    taking (lower_function K i f) _ e λ g eg e₁.
    taking (lower_functions K (suc i) fs) _ e₁ λ r er e₂.
    subst (Each (fns K) i) (ok_inj e₂) (one_more (function_ok K i f g eg) (functions_ok K (suc i) fs r er))

pub contract_ok : (K : Contract) (p : IrProgram) → lower_contract K ≡ ok p → Each (fns K) 0 p.functions
unfolding lower_contract
contract_ok K p e = taking (lower_functions K 0 K.functions) _ e λ fs ef e₁. subst (λ (q : IrProgram). Each (fns K) 0 q.functions) (ok_inj e₁) (functions_ok K 0 K.functions fs ef)

-- ---- demand 3, the run
member_good : {F : ℕ} {f : IrFunction} {i : ℕ} {gs : List IrFunction} → Memᴰ f gs → Each F i gs → GoodFn F f
member_good {F} (Memᴰ.head e) (one_more o rest) = subst (GoodFn F) (sym e) o.good
member_good (Memᴰ.tail a) (one_more o rest) = member_good a rest

pub run_never_lacks : (K : Contract) (p : IrProgram) → lower_contract K ≡ ok p → (f : IrFunction) → Memᴰ f p.functions → (ws : List ℕ) → length ws ≡ length f.params → (ps : List Pick) → run f ws ps ≡ lacks → ⊥
run_never_lacks K p e f a ws fits ps = never_lacks (fns K) f (member_good a (contract_ok K p e)) ws fits ps

-- ONE TRAVERSAL OF LOWERING: what is kept at each of the things that lowering does (Keeps.antt) is kept by an expression and by a statement. Assumes nothing.
use Prim.Native.Nat.{ℕ, ◌*◌, ◌≤◌, ◌<◌}
use mathlib.Core.Path.{◌≡◌, refl, sym, ◌∙◌, ap, subst}
use mathlib.Core.List.{List, [], ◌∷◌, ◌++◌}
use mathlib.Core.Option.{Option, none, some}
use mathlib.Core.Bool.{true}
use lib.Dec.{eqb, ltb, lit<, lit≤}
use lib.ListN.{length}
use borrow.Author.Tests.{ltb-true}
use Rattle.definitions.specs.All.{All, anil, acons}
use Rattle.definitions.specs.Ast.{BinOp, Contract, Function, Param, Expr, Exprs, OptExpr, OptStmts, Stmt, Stmts, absent, econs, else_do, enil, no_else, present, scons, snil}
use Rattle.definitions.specs.Ir.{Instruction, IrFunction, IrType, Terminator, binary_type, result_type, unless_void}
use Rattle.definitions.specs.Lower.{Callee, FnCtx, Lowered, Lowering, LoweringError, Scope, Value, callee, context_fn, count, current_block_terminated, defined, field_position, for_header, for_step, fresh_block, fresh_local, fresh_value, in_scope, init_local, ir_function, lookup_local, lower_args, lower_body, lower_call, lower_else, lower_expr, lower_expr_value, lower_function, lower_params, lower_return, lower_stmt, lower_stmts, merkle_proof_fn, need_value, new_ctx, parse_ir_type, popped, poseidon_fn, push_instr, push_value, result_value, set_scopes, set_terminator, storage_named, struct_named, struct_name_of, switch_to, terminate_if_open, three_blocks, two_of, unless_terminated, user_fn, with_block, with_local}
use Rattle.definitions.specs.Names.{by_name}
use Rattle.definitions.specs.Result.{◌>>=◌, ok}
use Rattle.definitions.specs.Sema.{function_named, return_type}
use Rattle.definitions.proofs.Results.{by_test, some_none}
use Rattle.definitions.proofs.Contracts.Bounds.{SmallExpr, SmallExprs, SmallOpt, SmallStmt, SmallStmts, SmallElse, SmallFunction}
use Rattle.definitions.proofs.Runs.Safe.{In, here, there, Sub, sub_refl, sub_trans, sub_there, sub_cons, sub_nil, sub_pair, sub_one, in_left, in_right, sub_append, ids}
use Rattle.definitions.proofs.Traversal.Keeps.{Post, bad, good, bind, need, Known, Spot, Made, From, Ends, valued, Keeps}

-- ---- names: the locals of the scopes
abbrev pub scope_locals : Scope → List Value
scope_locals [] = []
scope_locals (e ∷ es) = (e.1, e.2) ∷ scope_locals es

abbrev pub locals_of : List Scope → List Value
locals_of [] = []
locals_of (s ∷ ss) = scope_locals s ++ locals_of ss

in_scope_lem : (n : ℕ) (s : Scope) (e : Value) → in_scope n s ≡ some e → In e (scope_locals s)
in_scope_lem n [] e q = absurd (some_none e (sym q))
in_scope_lem n (x ∷ s) e q =
    by_test (eqb x.0 n)
    (λ t. let z : some (x.1, x.2) ≡ some e = rw (t, in_scope) at q in here (cc))
    (λ t. there (in_scope_lem n s e (rw (t, in_scope) at q)))

lookup_in : (n : ℕ) (ss : List Scope) (e : Value) → lookup_local n ss ≡ some e → In e (locals_of ss)
lookup_in n [] e q = absurd (some_none e (sym q))
lookup_in n (s ∷ ss) e q = go (in_scope n s) refl (lookup_in n ss e)
  where
    go : (o : Option Value) → in_scope n s ≡ o → (lookup_local n ss ≡ some e → In e (locals_of ss)) → In e (scope_locals s ++ locals_of ss)
    go none h below = in_right (scope_locals s) (locals_of ss) e (below (rw (h, lookup_local) at q))
    go (some x) h below = in_left (scope_locals s) (locals_of ss) e (in_scope_lem n s e (h ∙ (rw (h, lookup_local) at q)))

pub defined_in : (n l : ℕ) (t : IrType) (ss : List Scope) → Sub (locals_of (defined n l t ss)) ((l, t) ∷ locals_of ss)
defined_in n l t [] = sub_nil
defined_in n l t (s ∷ ss) = sub_refl

defined_tail : (n l : ℕ) (t : IrType) (ss : List Scope) → popped (defined n l t ss) ≡ popped ss
defined_tail n l t [] = refl
defined_tail n l t (s ∷ ss) = refl

pub id_in_lem : {v : Value} {H : List Value} → In v H → In v.0 (ids H)
id_in_lem (here e) = here (ap (λ (x : Value). x.0) e)
id_in_lem (there i) = there (id_in_lem i)

ids_left : (vs H : List Value) → Sub (ids vs) (ids (vs ++ H))
ids_left [] H v h = elim h [ ]
ids_left (x ∷ vs) H v (here e) = here e
ids_left (x ∷ vs) H v (there i) = there (ids_left vs H v i)

-- ---- the callees
pub by_name_lem : {A : Type 0} (P : A → Type 0) (n : ℕ) (rs : List (ℕ × A)) (d : A) → All (λ (r : ℕ × A). P r.1) rs → P d → P (by_name n rs d)
by_name_lem P n [] d h p = p
by_name_lem P n (r ∷ rs) d (acons q h) p = by_test (eqb n r.0) (λ e. rw (e, by_name) q) (λ e. rw (e, by_name) (by_name_lem P n rs d h p))

abbrev ContextFits : Callee → Type 0
ContextFits (context_fn k) = k ≤ 2
ContextFits poseidon_fn = Unit {0}
ContextFits merkle_proof_fn = Unit {0}
ContextFits user_fn = Unit {0}

callee_small : (n : ℕ) → ContextFits (callee n)
callee_small n = by_name_lem ContextFits n _ user_fn (acons (lit≤ tt) (acons (lit≤ tt) (acons (lit≤ tt) (acons tt (acons tt anil))))) tt

two_in : (l : List ℕ) (p : ℕ × ℕ) → two_of l ≡ some p → Sub (p.0 ∷ p.1 ∷ []) l
two_in [] p e = absurd (some_none p (sym e))
two_in (a ∷ []) p e = absurd (some_none p (sym e))
two_in (a ∷ b ∷ []) p e = let x : a ≡ p.0 = cc in let y : b ≡ p.1 = cc in sub_pair (here x) (sub_pair (there (here y)) sub_nil)
two_in (a ∷ b ∷ d ∷ l) p e = absurd (some_none p (sym e))

-- ---- what an expression leaves as it was
pub record Same (c d : FnCtx) : Type 0 where
  pub scopes : d.scopes ≡ c.scopes
  pub current_block : d.current_block ≡ c.current_block

same_refl : (c : FnCtx) → Same c c
same_refl c = record { scopes = refl; current_block = refl }

same_trans : {c d e : FnCtx} → Same c d → Same d e → Same c e
same_trans p q = record { scopes = q.scopes ∙ p.scopes; current_block = q.current_block ∙ p.current_block }

push_same : {c : FnCtx} (i : Instruction) (d : FnCtx) → Same c d → Same c (push_instr i d)
unfolding push_instr
push_same i d s = record { scopes = s.scopes; current_block = s.current_block }

abbrev one : Option Value → List Value
one none = []
one (some v) = v ∷ []

call_one : (o : Option IrType) (v : ℕ) (H : List Value) → valued o v H ≡ one (result_value o v) ++ H
call_one none v H = refl
call_one (some t) v H = refl

all_head : {A : Type 0} {P : A → Type 0} {a : A} {l : List A} → All P (a ∷ l) → P a
all_head (acons p r) = p

all_tail : {A : Type 0} {P : A → Type 0} {a : A} {l : List A} → All P (a ∷ l) → All P l
all_tail (acons p r) = r

module _ (K : Contract) (S : Type 0) (J : Spot) (keeps : Keeps K S J) where
  -- EXPRESSIONS: the values `vs` are held as well
  record Kept (B : List Known) (Q : List ℕ) (H W : List Value) (c : FnCtx) (vs : List Value) (d : FnCtx) : Type 0 where
    inv : J B Q (vs ++ H) W d
    same : Same c d

  record Listed (B : List Known) (Q : List ℕ) (H W : List Value) (c : FnCtx) (r : FnCtx × List ℕ) : Type 0 where
    values : List Value
    are : ids values ≡ r.1
    kept : Kept B Q H W c values r.0

  abbrev After : List Known → List ℕ → List Value → List Value → FnCtx → Lowered → Type 0
  After B Q H W c r = Kept B Q H W c (one r.1) r.0

  gives : {B : List Known} {Q : List ℕ} {H H' W : List Value} {c d : FnCtx} (i : Instruction) (t : IrType) → result_type i ≡ some t → Made K S H' W i → Sub H H' → Same c d → J B Q H' W d → Post (After B Q H W c) (ok (push_value i t d))
  unfolding push_value
  gives {d = d} i t e m sub s I = good _ (record { inv = keeps.weaken sub_refl (sub_cons sub) sub_refl (rw e at (keeps.push m I)); same = push_same i d s })

  value_of : {B : List Known} {Q : List ℕ} {H W : List Value} {c : FnCtx} {r : Lowering Lowered} → Post (After B Q H W c) r → Post (λ (q : FnCtx × Value). Kept B Q H W c (q.1 ∷ []) q.0) (r >>= need_value)
  unfolding need_value
  value_of (bad x) = bad x
  value_of (good (d, none) k) = bad LoweringError.VoidAsValue
  value_of (good (d, some v) k) = good (d, v) k

  listed_in : {B : List Known} {Q : List ℕ} {H W : List Value} {c : FnCtx} {r : FnCtx × List ℕ} (l : Listed B Q H W c r) → Sub r.1 (ids (l.values ++ H))
  listed_in {H = H} l = subst (λ (vs : List ℕ). Sub vs (ids (l.values ++ H))) l.are (ids_left l.values H)

  call_keeps : (k : Callee) → ContextFits k → (n many : ℕ) (args : FnCtx → Lowering (FnCtx × List ℕ)) {B : List Known} {Q : List ℕ} {H W : List Value} (c : FnCtx) → Post (Listed B Q H W c) (args c) → J B Q H W c → Post (After B Q H W c) (lower_call K k n many args c)
  unfolding lower_call
  call_keeps (context_fn k) small n many args c a I = gives (Instruction.ContextRead k) IrType.U64 refl (Made.context_read k small) sub_refl (same_refl c) I
  call_keeps poseidon_fn small n many args {H = H} c a I =
      by_test (eqb many 2)
      (λ q. rw (q, lower_call) (
      bind _ a λ r l.
      need (two_of r.1) LoweringError.PoseidonArguments _ λ p ep.
      gives (Instruction.Poseidon p.0 p.1) IrType.U64 refl (Made.poseidon p.0 p.1 (sub_trans (two_in r.1 p ep) (listed_in l))) (in_right l.values H) l.kept.same l.kept.inv))
      (λ q. rw (q, lower_call) (bad LoweringError.PoseidonArguments))
  call_keeps merkle_proof_fn small n many args c a I = bad LoweringError.MerkleProof
  call_keeps user_fn small n many args {H = H} c a I =
      need (function_named K n) (LoweringError.UndefinedFunction n) _ λ f ef.
      bind _ a λ r l.
      let t : Option IrType = unless_void (return_type f.1.return_type) in
      let I' = keeps.push (Made.call n f r.1 ef (listed_in l)) l.kept.inv in
      good _ (record {
        inv = keeps.weaken sub_refl (sub_append (one (result_value t r.0.next_value)) (in_right l.values H)) sub_refl (rw (call_one t r.0.next_value (l.values ++ H)) at I');
        same = push_same (Instruction.Call f.0 r.1 (return_type f.1.return_type)) r.0 l.kept.same;
      })

  mutual
    unfolding lower_expr

    expr_keeps : (x : Expr) → (S → SmallExpr x) → {B : List Known} {Q : List ℕ} {H W : List Value} (c : FnCtx) → Sub (locals_of c.scopes) W → J B Q H W c → Post (After B Q H W c) (lower_expr K x c)
    expr_keeps (Expr.Int p v) sm c sc I = gives (Instruction.Const IrType.U64 v) IrType.U64 refl (Made.const v sm) sub_refl (same_refl c) I
    expr_keeps (Expr.Ident p n) sm c sc I =
        need (lookup_local n c.scopes) (LoweringError.UndefinedVariable n) _ λ l el.
        gives (Instruction.ReadLocal l.0 l.1) l.1 refl (Made.read_local l.0 l.1 (sc l (lookup_in n c.scopes l el))) sub_refl (same_refl c) I
    expr_keeps (Expr.StorageRead p n) sm c sc I =
        need (storage_named K n) (LoweringError.UndefinedVariable n) _ λ s es.
        gives (Instruction.StateRead IrType.U64 s.0) IrType.U64 refl (Made.state_read n s es) sub_refl (same_refl c) I
    expr_keeps (Expr.MappingRead p n x) sm c sc I = bad LoweringError.MappingRead
    expr_keeps (Expr.FieldAccess p f x) sm c sc I =
        bind _ (value_of (expr_keeps x sm c sc I)) λ q k.
        need (struct_name_of q.1.1) LoweringError.FieldOfNonStruct _ λ s es.
        need (struct_named K s) (LoweringError.UnresolvedType s) _ λ d ed.
        need (field_position d.1.fields f) (LoweringError.NoSuchField s f) _ λ i ei.
        gives (Instruction.Load IrType.U64 q.1.0 (i * 8)) IrType.U64 refl (Made.load q.1.0 s f i d (here refl) ed ei) (sub_there sub_refl) k.same k.inv
    expr_keeps (Expr.StructLiteral p n fs) sm c sc I = bad LoweringError.StructLiteral
    expr_keeps (Expr.Binary p op x y) sm c sc I =
        bind _ (value_of (expr_keeps x (λ s. (sm s).0) c sc I)) λ q k.
        bind _ (value_of (expr_keeps y (λ s. (sm s).1) q.0 (rw k.same.scopes sc) k.inv)) λ r j.
        gives (Instruction.Binary op q.1.1 q.1.0 r.1.0) (binary_type op q.1.1) refl (Made.binary op q.1.1 q.1.0 r.1.0 (there (here refl)) (here refl)) (sub_there (sub_there sub_refl)) (same_trans k.same j.same) j.inv
    expr_keeps (Expr.Call p n args) sm c sc I = call_keeps (callee n) (callee_small n) n (count args) (λ d. lower_args K args d) c (args_keep args sm c sc I) I

    args_keep : (xs : Exprs) → (S → SmallExprs xs) → {B : List Known} {Q : List ℕ} {H W : List Value} (c : FnCtx) → Sub (locals_of c.scopes) W → J B Q H W c → Post (Listed B Q H W c) (lower_args K xs c)
    args_keep enil sm c sc I = good _ (record { values = []; are = refl; kept = record { inv = I; same = same_refl c } })
    args_keep (econs x xs) sm {H = H} c sc I =
        bind _ (value_of (expr_keeps x (λ s. (sm s).0) c sc I)) λ q k.
        bind _ (args_keep xs (λ s. (sm s).1) q.0 (rw k.same.scopes sc) k.inv) λ r l.
        good _ (record {
          values = q.1 ∷ l.values;
          are = ap (λ (vs : List ℕ). q.1.0 ∷ vs) l.are;
          kept = record { inv = keeps.weaken sub_refl (sub_pair (in_right l.values (q.1 ∷ H) q.1 (here refl)) (sub_append l.values (sub_there sub_refl))) sub_refl l.kept.inv; same = same_trans k.same l.kept.same };
        })

  value_keeps : (x : Expr) → (S → SmallExpr x) → {B : List Known} {Q : List ℕ} {H W : List Value} (c : FnCtx) → Sub (locals_of c.scopes) W → J B Q H W c → Post (λ (q : FnCtx × Value). Kept B Q H W c (q.1 ∷ []) q.0) (lower_expr_value K x c)
  unfolding lower_expr_value
  value_keeps x sm c sc I = value_of (expr_keeps x sm c sc I)

  -- STATEMENTS
  -- a local written at once
  pub record Hold (B : List Known) (Q : List ℕ) (H W : List Value) (t : IrType) (c : FnCtx) (q : FnCtx × ℕ) : Type 0 where
    pub inv : J B Q H ((q.1, t) ∷ W) q.0
    pub same : Same c q.0

  pub hold_keeps : {B : List Known} {Q : List ℕ} {H W : List Value} (t : IrType) (v : ℕ) (c : FnCtx) → From H t → In v (ids H) → J B Q H W c → Post (Hold B Q H W t c) (init_local t v c)
  unfolding init_local fresh_local with_local
  hold_keeps t v c f i I =
      by_test (ltb (length c.locals) 256)
      (λ q. rw (q, fresh_local) (good _ (record { inv = keeps.hold f i (ltb-true (length c.locals) 256 q) I; same = push_same (Instruction.WriteLocal (length c.locals) v) (with_local t c) (record { scopes = refl; current_block = refl }) })))
      (λ q. rw (q, fresh_local) (bad (LoweringError.TooManyBlocksOrLocals c.fid)))

  -- new blocks, entered with `W` written
  record Fresh (B : List Known) (Q : List ℕ) (H W : List Value) (c : FnCtx) (q : FnCtx × ℕ) : Type 0 where
    inv : J ((q.1, W) ∷ B) (q.1 ∷ Q) H W q.0
    same : Same c q.0

  block_keeps : {B : List Known} {Q : List ℕ} {H W : List Value} (c : FnCtx) → J B Q H W c → Post (Fresh B Q H W c) (fresh_block c)
  unfolding fresh_block with_block
  block_keeps c I =
      by_test (ltb c.next_block 256)
      (λ q. rw (q, fresh_block) (good _ (record { inv = keeps.block (ltb-true c.next_block 256 q) I; same = record { scopes = refl; current_block = refl } })))
      (λ q. rw (q, fresh_block) (bad (LoweringError.TooManyBlocksOrLocals c.fid)))

  abbrev three : List Known → List Value → FnCtx × ℕ × ℕ × ℕ → List Known
  three B W b = (b.3, W) ∷ (b.2, W) ∷ (b.1, W) ∷ B

  record Three (B : List Known) (P : List ℕ) (H W : List Value) (c : FnCtx) (b : FnCtx × ℕ × ℕ × ℕ) : Type 0 where
    inv : J (three B W b) (b.0.current_block ∷ b.1 ∷ b.2 ∷ b.3 ∷ P) H W b.0
    scopes : b.0.scopes ≡ c.scopes

  -- the current block `k`, the three new ones
  turned : {k a b d x : ℕ} {P : List ℕ} → x ≡ k → Sub (d ∷ b ∷ a ∷ k ∷ P) (x ∷ a ∷ b ∷ d ∷ P)
  turned e = sub_pair (there (there (there (here refl)))) (sub_pair (there (there (here refl))) (sub_pair (there (here refl)) (sub_pair (here e) (sub_there (sub_there (sub_there (sub_there sub_refl)))))))

  three_keep : {B : List Known} {P : List ℕ} {H W : List Value} (k : ℕ) (c : FnCtx) → c.current_block ≡ k → J B (k ∷ P) H W c → Post (Three B P H W c) (three_blocks c)
  unfolding three_blocks
  three_keep k c e I =
      bind _ (block_keeps c I) λ x X.
      bind _ (block_keeps x.0 X.inv) λ y Y.
      bind _ (block_keeps y.0 Y.inv) λ z Z.
      let s = same_trans X.same (same_trans Y.same Z.same) in
      good _ (record { inv = keeps.weaken (turned (s.current_block ∙ e)) sub_refl sub_refl Z.inv; scopes = s.scopes })

  -- the end of a block: only `P` may be open
  pub record Closed (B : List Known) (P : List ℕ) (c d : FnCtx) : Type 0 where
    pub inv : J B P [] [] d
    pub scopes : d.scopes ≡ c.scopes

  term_closes : {B : List Known} {P : List ℕ} {H W : List Value} {c : FnCtx} (k : ℕ) (t : Terminator) (d : FnCtx) → Same c d → d.current_block ≡ k → Ends B H W t → J B (k ∷ P) H W d → Closed B P c (set_terminator t d)
  unfolding set_terminator
  term_closes k t d s e o I = record { inv = keeps.weaken sub_refl sub_nil sub_nil (keeps.term o (keeps.weaken (sub_pair (here e) (sub_there sub_refl)) sub_refl sub_refl I)); scopes = s.scopes }

  ended_closed : {B : List Known} {P : List ℕ} {H W : List Value} {c : FnCtx} → current_block_terminated c ≡ true → J B (c.current_block ∷ P) H W c → Closed B P c c
  ended_closed q I = record { inv = keeps.weaken sub_refl sub_nil sub_nil (keeps.ended q I); scopes = refl }

  pub close_keeps : {B : List Known} {P : List ℕ} {H W : List Value} (t : Terminator) (c : FnCtx) → Ends B H W t → J B (c.current_block ∷ P) H W c → Closed B P c (terminate_if_open t c)
  unfolding terminate_if_open
  close_keeps t c o I = by_test (current_block_terminated c) (λ q. rw (q, terminate_if_open) (ended_closed q I)) (λ q. rw (q, terminate_if_open) (term_closes c.current_block t c (same_refl c) refl o I))

  header_closes : {B : List Known} {P : List ℕ} {W : List Value} (i e b x : ℕ) (c : FnCtx) (k : ℕ) → c.current_block ≡ k → In (i, IrType.U64) W → In (e, IrType.U64) W → In (b, W) B → In (x, W) B → J B (k ∷ P) [] W c → Closed B P c (for_header i e b x c)
  unfolding for_header push_instr
  header_closes i e b x c k ek hi he hb hx I =
      let I₁ = keeps.push (Made.read_local i IrType.U64 hi) I in
      let I₂ = keeps.push (Made.read_local e IrType.U64 he) I₁ in
      let I₃ = keeps.push (Made.binary BinOp.Lt IrType.U64 _ _ (there (here refl)) (here refl)) I₂ in
      term_closes k (Terminator.Branch _ b x) _ (record { scopes = refl; current_block = refl }) ek (Ends.branch _ b x _ _ (here refl) hb sub_refl hx sub_refl) I₃

  step_closes : {B : List Known} {P : List ℕ} {W X : List Value} (i h : ℕ) (c : FnCtx) → In (i, IrType.U64) W → In (h, X) B → Sub X W → J B (c.current_block ∷ P) [] W c → Closed B P c (for_step i h c)
  unfolding for_step push_instr
  step_closes i h c hi hh sub I =
      by_test (current_block_terminated c)
      (λ q. rw (q, for_step) (ended_closed q I))
      (λ q.
      let I₁ = keeps.push (Made.read_local i IrType.U64 hi) I in
      let I₂ = keeps.push (Made.const 1 (λ s. lit< tt)) I₁ in
      let I₃ = keeps.push (Made.binary BinOp.Add IrType.U64 _ _ (there (here refl)) (here refl)) I₂ in
      let I₄ = keeps.push (Made.write_local i _ (id_in_lem hi) (here refl)) I₃ in
      rw (q, for_step) (term_closes c.current_block (Terminator.Jump h) _ (record { scopes = refl; current_block = refl }) refl (Ends.jump h _ hh sub) I₄))

  -- what a statement leaves
  pub record Moved (B : List Known) (P : List ℕ) (W : List Value) (c d : FnCtx) : Type 0 where
    pub known : List Known
    pub written : List Value
    pub inv : J known (d.current_block ∷ P) [] written d
    pub more : Sub B known
    pub grows : Sub W written
    pub scoped : Sub (locals_of d.scopes) written
    pub tails : popped d.scopes ≡ popped c.scopes

  abbrev pub Lowers : (FnCtx → Lowering FnCtx) → Type 0
  Lowers body = (B : List Known) (P : List ℕ) (W : List Value) (c : FnCtx) → Sub (locals_of c.scopes) W → J B (c.current_block ∷ P) [] W c → Post (Moved B P W c) (body c)

  stays : {B : List Known} {P : List ℕ} {H W : List Value} {c d : FnCtx} → Same c d → Sub (locals_of c.scopes) W → J B (c.current_block ∷ P) H W d → Moved B P W c d
  stays {B} {W = W} s sc I = record { known = B; written = W; inv = keeps.weaken (sub_pair (here s.current_block) (sub_there sub_refl)) sub_nil sub_refl I; more = sub_refl; grows = sub_refl; scoped = rw s.scopes sc; tails = ap popped s.scopes }

  pushes : {B : List Known} {P : List ℕ} {H W : List Value} {c d : FnCtx} (i : Instruction) → Made K S H W i → Same c d → Sub (locals_of c.scopes) W → J B (c.current_block ∷ P) H W d → Post (Moved B P W c) (ok (push_instr i d))
  pushes {d = d} i m s sc I = good _ (stays (push_same i d s) sc (keeps.push m I))

  term_stays : {B : List Known} {P : List ℕ} {H W : List Value} {c d : FnCtx} (t : Terminator) → Ends B H W t → Same c d → Sub (locals_of c.scopes) W → J B (c.current_block ∷ P) H W d → Post (Moved B P W c) (ok (set_terminator t d))
  unfolding set_terminator
  term_stays t o s sc I =
      good _ (stays (record { scopes = s.scopes; current_block = s.current_block }) sc (keeps.weaken (sub_there sub_refl) sub_refl sub_refl (keeps.term o (keeps.weaken (sub_pair (here s.current_block) (sub_there sub_refl)) sub_refl sub_refl I))))

  then : {B : List Known} {P : List ℕ} {W : List Value} {c d : FnCtx} {r : Lowering FnCtx} (M : Moved B P W c d) → Post (Moved M.known P M.written d) r → Post (Moved B P W c) r
  then M (bad x) = bad x
  then M (good e N) = good e (record { known = N.known; written = N.written; inv = N.inv; more = sub_trans M.more N.more; grows = sub_trans M.grows N.grows; scoped = N.scoped; tails = N.tails ∙ M.tails })

  -- an arm or a body, in block `k`
  record Arm (B : List Known) (P : List ℕ) (c d : FnCtx) : Type 0 where
    known : List Known
    inv : J known P [] [] d
    more : Sub B known
    scopes : d.scopes ≡ c.scopes

  arm_keeps : {B : List Known} {P : List ℕ} {H W X : List Value} (k : ℕ) (s : Scope) (body : FnCtx → Lowering FnCtx) (fin : FnCtx → FnCtx) (c : FnCtx) → In (k, X) B → Sub (scope_locals s ++ locals_of c.scopes) X → Lowers body
      → ((a : FnCtx) (B' : List Known) (W' : List Value) → Sub B B' → Sub X W' → J B' (a.current_block ∷ P) [] W' a → Closed B' P a (fin a))
      → J B (k ∷ P) H W c → Post (Arm B P c) (lower_body k s body fin c)
  unfolding lower_body set_scopes switch_to
  arm_keeps {B} {P} {X = X} k s body fin c h sc below end I =
      bind _ (below B P X (set_scopes (s ∷ c.scopes) (switch_to k c)) sc (keeps.scopes (s ∷ c.scopes) (keeps.switch h I))) λ a M.
      let Z = end (set_scopes (popped a.scopes) a) M.known M.written M.more M.grows (keeps.scopes (popped a.scopes) M.inv) in
      good _ (record { known = M.known; inv = Z.inv; more = M.more; scopes = Z.scopes ∙ M.tails })

  -- a jump at the end, to a block that is entered with as much written
  jumps : {B : List Known} {P : List ℕ} {X : List Value} (k : ℕ) → In (k, X) B → (a : FnCtx) (B' : List Known) (W' : List Value) → Sub B B' → Sub X W' → J B' (a.current_block ∷ P) [] W' a → Closed B' P a (terminate_if_open (Terminator.Jump k) a)
  jumps {X = X} k h a B' W' more grows I = close_keeps (Terminator.Jump k) a (Ends.jump k X (more _ h) grows) I

  -- the block after an `if`, a `while` or a `for`
  leaves : {B B' : List Known} {P : List ℕ} {H W X : List Value} {c : FnCtx} (k : ℕ) (d : FnCtx) → In (k, X) B' → Sub B B' → d.scopes ≡ c.scopes → Sub W X → Sub (locals_of c.scopes) W → J B' (k ∷ P) H [] d → Moved B P W c (switch_to k d)
  unfolding switch_to
  leaves {B' = B'} {X = X} k d h more scopes grows sc I = record { known = B'; written = X; inv = keeps.switch h I; more = more; grows = grows; scoped = rw scopes (sub_trans sc grows); tails = ap popped scopes }

  live_keeps : (body : FnCtx → Lowering FnCtx) → Lowers body → Lowers (unless_terminated body)
  unfolding unless_terminated
  live_keeps body below B P W c sc I =
      by_test (current_block_terminated c)
      (λ q. rw (q, unless_terminated) (good c (stays (same_refl c) sc I)))
      (λ q. rw (q, unless_terminated) (below B P W c sc I))

  return_keeps : (x : OptExpr) → (S → SmallOpt x) → Lowers (lower_return K x)
  unfolding lower_return
  return_keeps absent sm B P W c sc I = term_stays (Terminator.Return none) (Ends.return none sub_nil) (same_refl c) sc I
  return_keeps (present x) sm B P W c sc I =
      bind _ (value_keeps x sm c sc I) λ q k.
      term_stays (Terminator.Return (some q.1.0)) (Ends.return (some q.1.0) (sub_one (here refl))) k.same sc k.inv

  first : {A : Type 0} {x y z : A} {l : List A} → In z (x ∷ y ∷ z ∷ l)
  first = there (there (here refl))

  second : {A : Type 0} {x y : A} {l : List A} → In y (x ∷ y ∷ l)
  second = there (here refl)

  -- the header of a loop
  loops : {B : List Known} {P : List ℕ} {H W : List Value} {c : FnCtx} {b : FnCtx × ℕ × ℕ × ℕ} → Three B P H W c b → J (three B W b) (b.1 ∷ b.2 ∷ b.3 ∷ P) [] W (switch_to b.1 (set_terminator (Terminator.Jump b.1) b.0))
  loops {b = b} T = keeps.switch first (keeps.term (Ends.jump b.1 _ first sub_refl) T.inv)

  mutual
    unfolding lower_stmt set_scopes set_terminator switch_to

    stmt_keeps : (s : Stmt) → (S → SmallStmt s) → Lowers (λ x. lower_stmt K s x)
    stmt_keeps (Stmt.Let p n x) sm B P W c sc I =
        bind _ (value_keeps x sm c sc I) λ q k.  -- the name is not held yet
        bind _ (hold_keeps q.1.1 q.1.0 q.0 (From.value q.1.0 q.1.1 (here refl)) (here refl) k.inv) λ l h.
        let s = same_trans k.same h.same in
        good _ (record { known = B; written = _; inv = keeps.scopes _ (keeps.weaken (sub_pair (here s.current_block) (sub_there sub_refl)) sub_nil sub_refl h.inv); more = sub_refl; grows = sub_there sub_refl; scoped = sub_trans (defined_in n l.1 q.1.1 l.0.scopes) (sub_cons (rw s.scopes sc)); tails = defined_tail n l.1 q.1.1 l.0.scopes ∙ ap popped s.scopes })
    stmt_keeps (Stmt.Constrain p x) sm B P W c sc I =
        bind _ (value_keeps x sm c sc I) λ q k.
        pushes (Instruction.Assert q.1.0) (Made.assert q.1.0 (here refl)) k.same sc k.inv
    stmt_keeps (Stmt.Assign p n x) sm B P W c sc I =
        bind _ (value_keeps x sm c sc I) λ q k.  -- then the name is looked up
        need (lookup_local n q.0.scopes) (LoweringError.UndefinedVariable n) _ λ l el.
        pushes (Instruction.WriteLocal l.0 q.1.0) (Made.write_local l.0 q.1.0 (id_in_lem (sc l (lookup_in n c.scopes l (rw k.same.scopes at el)))) (here refl)) k.same sc k.inv
    stmt_keeps (Stmt.StorageWrite p n x) sm B P W c sc I =
        need (storage_named K n) (LoweringError.UndefinedVariable n) _ λ s es.
        bind _ (value_keeps x sm c sc I) λ q k.
        pushes (Instruction.StateWrite s.0 q.1.0) (Made.state_write n q.1.0 s es (here refl)) k.same sc k.inv
    stmt_keeps (Stmt.MappingWrite p n x y) sm B P W c sc I = bad LoweringError.MappingWrite
    stmt_keeps (Stmt.If p x pt th el) sm B P W c sc I =
        bind _ (value_keeps x (λ s. (sm s).0) c sc I) λ q k.
        bind _ (three_keep c.current_block q.0 k.same.current_block k.inv) λ b T.
        let e : b.0.scopes ≡ c.scopes = T.scopes ∙ k.same.scopes in
        bind _ (arm_keeps b.1 [] (λ y. lower_stmts K th y) (terminate_if_open (Terminator.Jump b.3)) (set_terminator (Terminator.Branch q.1.0 b.1 b.2) b.0) first (rw e sc) (λ B P W c sc I. stmts_keep th (λ s. (sm s).1) B P W c sc I) (jumps b.3 (here refl)) (keeps.term (Ends.branch q.1.0 b.1 b.2 W W (here refl) first sub_refl second sub_refl) T.inv)) λ f A.
        bind _ (arm_keeps b.2 [] (λ y. lower_else K el y) (terminate_if_open (Terminator.Jump b.3)) f (A.more _ second) (rw (A.scopes ∙ e) sc) (λ B P W c sc I. else_keeps el (λ s. (sm s).2) B P W c sc I) (jumps b.3 (A.more _ (here refl))) A.inv) λ g A'.
        good _ (leaves b.3 g (A'.more _ (A.more _ (here refl))) (sub_trans (sub_there (sub_there (sub_there sub_refl))) (sub_trans A.more A'.more)) (A'.scopes ∙ (A.scopes ∙ e)) sub_refl sc A'.inv)
    stmt_keeps (Stmt.While p x pb body) sm B P W c sc I =
        bind _ (three_keep c.current_block c refl I) λ b T.
        bind _ (value_keeps x (λ s. (sm s).0) (switch_to b.1 (set_terminator (Terminator.Jump b.1) b.0)) (rw T.scopes sc) (loops T)) λ q k.
        let e : q.0.scopes ≡ c.scopes = k.same.scopes ∙ T.scopes in
        bind _ (arm_keeps b.2 [] (λ y. lower_stmts K body y) (terminate_if_open (Terminator.Jump b.1)) (set_terminator (Terminator.Branch q.1.0 b.2 b.3) q.0) second (rw e sc) (λ B P W c sc I. stmts_keep body (λ s. (sm s).1) B P W c sc I) (jumps b.1 first) (term_closes b.1 (Terminator.Branch q.1.0 b.2 b.3) q.0 k.same k.same.current_block (Ends.branch q.1.0 b.2 b.3 W W (here refl) second sub_refl (here refl) sub_refl) k.inv).inv) λ f A.
        good _ (leaves b.3 f (A.more _ (here refl)) (sub_trans (sub_there (sub_there (sub_there sub_refl))) A.more) (A.scopes ∙ e) sub_refl sc A.inv)
    stmt_keeps (Stmt.For p n x y pb body) sm B P W c sc I =
        bind _ (value_keeps x (λ s. (sm s).0) c sc I) λ q k.
        bind _ (value_keeps y (λ s. (sm s).1) q.0 (rw k.same.scopes sc) k.inv) λ r j.
        bind _ (hold_keeps IrType.U64 q.1.0 r.0 From.u64 (there (here refl)) j.inv) λ i h.
        bind _ (hold_keeps IrType.U64 r.1.0 i.0 From.u64 (here refl) h.inv) λ l g.
        let s = same_trans k.same (same_trans j.same (same_trans h.same g.same)) in
        bind _ (three_keep c.current_block l.0 s.current_block g.inv) λ b T.
        let Z = header_closes i.1 l.1 b.2 b.3 _ b.1 refl (there (here refl)) (here refl) second (here refl) (loops T) in
        let e = Z.scopes ∙ (T.scopes ∙ s.scopes) in
        bind _ (arm_keeps b.2 ((n, i.1, IrType.U64) ∷ []) (λ z. lower_stmts K body z) (for_step i.1 b.1) _ second (rw e (sub_pair (there (here refl)) (sub_trans sc (sub_there (sub_there sub_refl))))) (λ B P W c sc I. stmts_keep body (λ s. (sm s).2) B P W c sc I)
        (λ a B' W' more grows J'. step_closes i.1 b.1 a (grows _ (there (here refl))) (more _ first) grows J') Z.inv) λ f A.
        good _ (leaves b.3 f (A.more _ (here refl)) (sub_trans (sub_there (sub_there (sub_there sub_refl))) A.more) (A.scopes ∙ e) (sub_there (sub_there sub_refl)) sc A.inv)
    stmt_keeps (Stmt.Return p x) sm B P W c sc I = return_keeps x sm B P W c sc I
    stmt_keeps (Stmt.Emit p n xs) sm B P W c sc I =
        bind _ (args_keep xs (λ s. (sm s).1) c sc I) λ r l.
        pushes (Instruction.Emit n r.1) (Made.emit n r.1 (λ s. (sm s).0) (listed_in l)) l.kept.same sc l.kept.inv
    stmt_keeps (Stmt.ExprStmt p x) sm B P W c sc I =
        bind _ (expr_keeps x sm c sc I) λ r k.
        good _ (stays k.same sc k.inv)

    pub stmts_keep : (ss : Stmts) → (S → SmallStmts ss) → Lowers (λ x. lower_stmts K ss x)
    stmts_keep snil sm B P W c sc I = good c (stays (same_refl c) sc I)
    stmts_keep (scons s ss) sm B P W c sc I =
        bind _ (live_keeps (λ x. lower_stmt K s x) (λ B P W c sc I. stmt_keeps s (λ h. (sm h).0) B P W c sc I) B P W c sc I) λ a M.
        then M (stmts_keep ss (λ h. (sm h).1) M.known P M.written a M.scoped M.inv)

    else_keeps : (ss : OptStmts) → (S → SmallElse ss) → Lowers (λ x. lower_else K ss x)
    else_keeps no_else sm B P W c sc I = good c (stays (same_refl c) sc I)
    else_keeps (else_do p ss) sm B P W c sc I = stmts_keep ss sm B P W c sc I

  -- FUNCTIONS
  -- the parameters: each takes a value, and has a local to which it is written
  abbrev pub Takes : Type 0
  Takes = (n : ℕ) → (S → n < 65535) → (H W : List Value) (c : FnCtx) → J [] (0 ∷ []) H W c → J [] (0 ∷ []) ((c.next_value, parse_ir_type n) ∷ H) W (fresh_value c)

  pub record Begun (H : List Value) (q : FnCtx × List Value) : Type 0 where
    pub held : List Value
    pub written : List Value
    pub inv : J [] (0 ∷ []) held written q.0
    pub params : Sub q.1 held
    pub more : Sub H held
    pub scoped : Sub (locals_of q.0.scopes) written
    pub current_block : q.0.current_block ≡ 0

  params_keep : Takes → (l : List Param) → (S → All (λ (p : Param). p.ty < 65535) l) → {H W : List Value} (c : FnCtx) → Sub (locals_of c.scopes) W → c.current_block ≡ 0 → J [] (0 ∷ []) H W c → Post (Begun H) (lower_params l c)
  unfolding lower_params set_scopes fresh_value
  params_keep takes [] sm {H} {W} c sc cur I = good _ (record { held = H; written = W; inv = I; params = sub_nil; more = sub_refl; scoped = sc; current_block = cur })
  params_keep takes (p ∷ l) sm c sc cur I =
      bind _ (hold_keeps (parse_ir_type p.ty) c.next_value (fresh_value c) (From.value _ _ (here refl)) (here refl) (takes p.ty (λ s. all_head (sm s)) _ _ c I)) λ x X.
      bind _ (params_keep takes l (λ s. all_tail (sm s)) _ (sub_trans (defined_in p.name x.1 (parse_ir_type p.ty) x.0.scopes) (sub_cons (rw X.same.scopes sc))) (X.same.current_block ∙ cur) (keeps.scopes _ X.inv)) λ r R.
      good _ (record { held = R.held; written = R.written; inv = R.inv; params = sub_pair (R.more _ (here refl)) R.params; more = sub_trans (sub_there sub_refl) R.more; scoped = R.scoped; current_block = R.current_block })

  -- in the end no block is open
  pub record Whole (d : FnCtx) : Type 0 where
    pub known : List Known
    pub inv : J known [] [] [] d

  pub body_keeps : (ss : Stmts) → (S → SmallStmts ss) → {H W : List Value} (c : FnCtx) → c.current_block ≡ 0 → Sub (locals_of c.scopes) W → J [] (0 ∷ []) H W c → Post (λ (d : FnCtx). Whole (terminate_if_open (Terminator.Return none) d)) (lower_stmts K ss c)
  body_keeps ss sm {W = W} c e sc I = ends (stmts_keep ss sm [] [] W c sc (keeps.weaken (sub_pair (here e) sub_nil) sub_nil sub_refl I))
    where
      ends : {r : Lowering FnCtx} → Post (Moved [] [] W c) r → Post (λ (d : FnCtx). Whole (terminate_if_open (Terminator.Return none) d)) r
      ends (bad x) = bad x
      ends (good d M) = good d (record { known = M.known; inv = (close_keeps (Terminator.Return none) d (Ends.return none sub_nil) M.inv).inv })

  -- the lowered function is what was kept: its parameters as they were begun, its blocks and locals at the end
  pub record Function-kept (i : ℕ) (f : Function) (g : IrFunction) : Type 0 where
    pub params : List Value
    pub begin : FnCtx
    pub begun : Begun [] (begin, params)
    pub end : FnCtx
    pub whole : Whole end
    pub is : ir_function i f params end ≡ g

  pub function_keeps : Takes → (i : ℕ) (f : Function) → (S → SmallFunction f) → J [] (0 ∷ []) [] [] (new_ctx i) → Post (Function-kept i f) (lower_function K i f)
  unfolding lower_function
  function_keeps takes i f sm I =
      bind _ (params_keep takes f.params (λ s. (sm s).params) (new_ctx i) sub_refl refl I) λ p B.
      bind _ (body_keeps f.body (λ s. (sm s).body) p.0 B.current_block B.scoped B.inv) λ c Z.
      good _ (record { params = p.1; begin = p.0; begun = B; end = _; whole = Z; is = refl })

-- Demand 3, its verifier half: the verifier accepts a lowered program or refuses it for a type. Assumes nothing.
use Prim.Native.Nat.{ℕ, zero, suc, ◌<◌, ◌≤◌, ◌+◌}
use mathlib.Core.Path.{◌≡◌, refl, sym, ◌∙◌, ap, subst}
use mathlib.Core.Logic.{◌⊎◌, inl, inr, ◌≢◌}
use mathlib.Core.List.{List, [], ◌∷◌, ◌++◌}
use mathlib.Core.Option.{Option, none, some}
use mathlib.Core.Bool.{Bool, true, false, ◌&&◌}
use lib.Dec.{eqb, ltb}
use lib.ListN.{length}
use native.Mathlib.Omega.{arith}
use borrow.Author.Tests.{eqb-false, eq-eqb, ne_eqb, lt-ltb}
use Rattle.definitions.specs.Result.{Result, err, ok, ◌>>=◌, ◌>>◌, ok_or_else, map_err, Done, check}
use Rattle.definitions.specs.Ast.{Contract, Function}
use Rattle.definitions.specs.Ir.{IrType, eq_type, Instruction, result_type, operands, local_read, local_written, Terminator, InstrNode, BasicBlock, IrFunction, IrProgram, find, contains}
use Rattle.definitions.specs.Lower.{lower_contract, lower_functions, lower_function}
use Rattle.definitions.specs.Verify.{VerifyError, Checked, Defined, defined_type, insert, define_params, define_result, define_results, define_blocks, check_value_ref, check_value_refs, check_block_ref, check_local_ref, verify_instr, verify_instrs, return_matches, returned_type, verify_terminator, block_ids, verify_block, verify_blocks, verify_function, function_ids, verify_functions, verify_program}
use Rattle.definitions.specs.Run.{term_reads}
use Rattle.definitions.proofs.Results.{by_test, ok_inj, taking}
use Rattle.definitions.proofs.Runs.Safe.{callees, In, here, there, Sub, sub_refl, sub_trans, sub_nil, in_nil, sub_pair, in_left, in_right, in_either, with_result, Ok, held_after, written_after, TermOk, entry_held, BlockOk, ids, GoodFn, find_hit, find_miss}
use Rattle.definitions.proofs.Runs.Blocks.{results, defs, Distinct, found_in}
use Rattle.definitions.proofs.Runs.Keeping.{fns}
use Rattle.definitions.proofs.Runs.Functions.{FnOk, Each, none_left, one_more, contract_ok}

-- 45, 46 and 47
abbrev pub Typing : VerifyError → Type 0
Typing (VerifyError.UndefinedValue v) = ⊥
Typing (VerifyError.DuplicateValueDef v) = ⊥
Typing (VerifyError.UndefinedBlock b) = ⊥
Typing (VerifyError.MissingTerminator b) = ⊥
Typing (VerifyError.ReturnTypeMismatch e g) = Unit {0}
Typing (VerifyError.BranchConditionNotBool v t) = Unit {0}
Typing (VerifyError.OperandTypeMismatch l r) = Unit {0}
Typing (VerifyError.UndefinedLocal l) = ⊥
Typing (VerifyError.UndefinedFunction f) = ⊥
Typing (VerifyError.ResultOnNone i) = ⊥

-- refused with one of those, or an answer of which `P` holds
abbrev Fair : {A : Type 0} → (A → Type 0) → Checked A → Type 0
Fair P (err x) = Typing x
Fair P (ok a) = P a

abbrev Any : Unit {0} → Type 0
Any u = Unit {0}

and_then : {A B : Type 0} (P : A → Type 0) (R : B → Type 0) (r : Checked A) (k : A → Checked B) → Fair P r → ((a : A) → P a → Fair R (k a)) → Fair R (r >>= k)
and_then P R (err x) k h f = h
and_then P R (ok a) k h f = f a h

type_of_lem : (ds : Defined) (v : ℕ) → In v (ids ds) → (t : IrType) × (defined_type v ds ≡ some t)
type_of_lem (d ∷ ds) v h = go (eqb d.0 v) refl h (type_of_lem ds v)
  where
    go : (b : Bool) → eqb d.0 v ≡ b → In v (d.0 ∷ ids ds) → (In v (ids ds) → (t : IrType) × (defined_type v ds ≡ some t)) → (t : IrType) × (defined_type v (d ∷ ds) ≡ some t)
    go true q i below = (d.1, rw (q, defined_type))
    go false q (here e) below = absurd (eqb-false d.0 v q e)
    go false q (there i) below = ((below i).0, rw (q, defined_type) (below i).1)
type_of_lem [] v h = absurd (in_nil h)

type_none : (ds : Defined) (v : ℕ) → (In v (ids ds) → ⊥) → defined_type v ds ≡ none
type_none [] v n = refl
type_none (d ∷ ds) v n = rw (ne_eqb d.0 v (λ e. n (here e)), defined_type) (type_none ds v (λ h. n (there h)))

-- `e` is `ds` with the values `a` added
record Grew (a : List ℕ) (ds e : Defined) : Type 0 where
  to : Sub (ids e) (a ++ ids ds)
  from : Sub (a ++ ids ds) (ids e)

record New (a : List ℕ) (ds : Defined) : Type 0 where
  distinct : Distinct a
  apart : (v : ℕ) → In v a → In v (ids ds) → ⊥

distinct_left : (a b : List ℕ) → Distinct (a ++ b) → Distinct a
distinct_left [] b d = tt
distinct_left (x ∷ a) b d = (λ h. d.0 (in_left a b x h), distinct_left a b d.1)

distinct_right : (a b : List ℕ) → Distinct (a ++ b) → Distinct b
distinct_right [] b d = d
distinct_right (x ∷ a) b d = distinct_right a b d.1

distinct_apart : (a b : List ℕ) → Distinct (a ++ b) → (v : ℕ) → In v a → In v b → ⊥
distinct_apart [] b d v h i = elim h [ ]
distinct_apart (x ∷ a) b d v (here e) i = d.0 (in_right a b x (rw e i))
distinct_apart (x ∷ a) b d v (there h) i = distinct_apart a b d.1 v h i

new_left : (a b : List ℕ) {ds : Defined} → New (a ++ b) ds → New a ds
new_left a b n = record { distinct = distinct_left a b n.distinct; apart = λ v h i. n.apart v (in_left a b v h) i }

new_right : (a b : List ℕ) {ds e : Defined} → New (a ++ b) ds → Grew a ds e → New b e
new_right a b {ds} {e} n g = record { distinct = distinct_right a b n.distinct; apart = λ v h i. no v h (in_either a (ids ds) v (g.to v i)) }
  where
    no : (v : ℕ) → In v b → In v a ⊎ In v (ids ds) → ⊥
    no v h (inl i) = distinct_apart a b n.distinct v i h
    no v h (inr i) = n.apart v (in_right a b v h) i

-- `a` was added, then `b`
grew_then : (a b : List ℕ) {ds e f : Defined} → Grew a ds e → Grew b e f → Grew (a ++ b) ds f
grew_then a b {ds} {e} {f} g h = record { to = λ v i. up v (in_either b (ids e) v (h.to v i)); from = λ v i. down v (in_either (a ++ b) (ids ds) v i) }
  where
    over : (v : ℕ) → In v a ⊎ In v (ids ds) → In v ((a ++ b) ++ ids ds)
    over v (inl i) = in_left (a ++ b) (ids ds) v (in_left a b v i)
    over v (inr i) = in_right (a ++ b) (ids ds) v i

    up : (v : ℕ) → In v b ⊎ In v (ids e) → In v ((a ++ b) ++ ids ds)
    up v (inl i) = in_left (a ++ b) (ids ds) v (in_right a b v i)
    up v (inr i) = over v (in_either a (ids ds) v (g.to v i))

    one : (v : ℕ) → In v a ⊎ In v b → In v (ids f)
    one v (inl i) = h.from v (in_right b (ids e) v (g.from v (in_left a (ids ds) v i)))
    one v (inr i) = h.from v (in_left b (ids e) v i)

    down : (v : ℕ) → In v (a ++ b) ⊎ In v (ids ds) → In v (ids f)
    down v (inl i) = one v (in_either a b v i)
    down v (inr i) = h.from v (in_right b (ids e) v (g.from v (in_right a (ids ds) v i)))

-- two definers in a row
both : (a b : List ℕ) (ds : Defined) (r : Checked Defined) (k : Defined → Checked Defined) → New (a ++ b) ds → (New a ds → Fair (Grew a ds) r) → ((e : Defined) → New b e → Fair (Grew b e) (k e)) → Fair (Grew (a ++ b) ds) (r >>= k)
both a b ds r k n f g = and_then (Grew a ds) (Grew (a ++ b) ds) r k (f (new_left a b n)) (λ e h. next e h (k e) (g e (new_right a b n h)))
  where
    next : (e : Defined) → Grew a ds e → (x : Checked Defined) → Fair (Grew b e) x → Fair (Grew (a ++ b) ds) x
    next e h (err x) y = y
    next e h (ok z) y = grew_then a b h y

insert_fair : (v : ℕ) (t : IrType) (ds : Defined) → New (v ∷ []) ds → Fair (Grew (v ∷ []) ds) (insert v t ds)
insert_fair v t ds n = rw (type_none ds v (n.apart v (here refl)), insert) (record { to = sub_refl; from = sub_refl })

def_params : (ps ds : Defined) → New (ids ps) ds → Fair (Grew (ids ps) ds) (define_params ps ds)
unfolding define_params
def_params [] ds n = record { to = sub_refl; from = sub_refl }
def_params (p ∷ ps) ds n = both (p.0 ∷ []) (ids ps) ds (insert p.0 p.1 ds) _ n (insert_fair p.0 p.1 ds) (λ e m. def_params ps e m)

def_node : (i : Instruction) (r : Option ℕ) (ds : Defined) → ((v : ℕ) → r ≡ some v → (t : IrType) × (result_type i ≡ some t)) → New (with_result r []) ds → Fair (Grew (with_result r []) ds) (define_result i r ds)
unfolding define_result
def_node i none ds ty n = record { to = sub_refl; from = sub_refl }
def_node i (some v) ds ty n = rw (ty v refl).1 (insert_fair v (ty v refl).0 ds n)

with_append : (r : Option ℕ) (a : List ℕ) → with_result r [] ++ a ≡ with_result r a
with_append none a = refl
with_append (some v) a = refl

def_nodes : (F L : ℕ) (H W : List ℕ) (ns : List InstrNode) (ds : Defined) → Ok F L H W ns → New (results ns) ds → Fair (Grew (results ns) ds) (define_results ns ds)
unfolding define_results
def_nodes F L H W [] ds o n = record { to = sub_refl; from = sub_refl }
def_nodes F L H W (x ∷ ns) ds o n = subst (λ (l : List ℕ). Fair (Grew l ds) (define_results (x ∷ ns) ds)) (with_append x.result (results ns)) (both (with_result x.result []) (results ns) ds (define_result x.instr x.result ds) _ (rw (with_append x.result (results ns)) n) (def_node x.instr x.result ds o.0.typed) (λ e m. def_nodes F L (with_result x.result H) (local_written x.instr ++ W) ns e o.1 m))

-- every block of a list is ok
abbrev AllOk : ℕ → ℕ → (ℕ → List ℕ) → ℕ → List ℕ → List BasicBlock → Type 0
AllOk F L cert n ps [] = Unit {0}
AllOk F L cert n ps (b ∷ bs) = BlockOk F L cert n ps b × AllOk F L cert n ps bs

def_blocks : (F L : ℕ) (cert : ℕ → List ℕ) (n : ℕ) (ps : List ℕ) (bs : List BasicBlock) (ds : Defined) → AllOk F L cert n ps bs → New (defs bs) ds → Fair (Grew (defs bs) ds) (define_blocks bs ds)
unfolding define_blocks
def_blocks F L cert n ps [] ds o w = record { to = sub_refl; from = sub_refl }
def_blocks F L cert n ps (b ∷ bs) ds o w = both (results b.instrs) (defs bs) ds (define_results b.instrs ds) _ w (def_nodes F L (entry_held ps b.id) (cert b.id) b.instrs ds o.0.code) (λ e m. def_blocks F L cert n ps bs e o.1 m)

-- ---- the checks
and_next : {A : Type 0} (P : A → Type 0) (r : Checked A) (k : Checked Done) → Fair P r → Fair Any k → Fair Any (r >> k)
and_next P (err x) k h f = h
and_next P (ok a) k h f = f

check_fair : (b : Bool) (x : VerifyError) → b ≡ true → Fair Any (check b x)
check_fair b x e = rw e tt

check_typing : (b : Bool) (x : VerifyError) → Typing x → Fair Any (check b x)
check_typing true x t = tt
check_typing false x t = t

value_fair : {B : Type 0} (R : B → Type 0) (ds : Defined) (v : ℕ) (k : IrType → Checked B) → In v (ids ds) → ((t : IrType) → Fair R (k t)) → Fair R (check_value_ref v ds >>= k)
value_fair R ds v k i f = rw (type_of_lem ds v i).1 (f (type_of_lem ds v i).0)

values_fair : (vs : List ℕ) (ds : Defined) → Sub vs (ids ds) → Fair Any (check_value_refs vs ds)
unfolding check_value_refs
values_fair [] ds s = tt
values_fair (v ∷ vs) ds s = rw (type_of_lem ds v (s v (here refl))).1 (values_fair vs ds (λ w i. s w (there i)))

with_sub : (r : Option ℕ) (a : List ℕ) {H X : List ℕ} → Sub H X → Sub (with_result r a) X → Sub (with_result r H) X
with_sub none a h s = h
with_sub (some v) a h s = sub_pair (s v (here refl)) h

with_rest : (r : Option ℕ) (a : List ℕ) {X : List ℕ} → Sub (with_result r a) X → Sub a X
with_rest none a s = s
with_rest (some v) a s = λ w i. s w (there i)

module _ (F L : ℕ) (fids : List ℕ) (all : (f : ℕ) → f < F → contains f fids ≡ true) (ds : Defined) where
  local_fair : (l : ℕ) → l < L → Fair Any (check_local_ref l L)
  local_fair l h = check_fair (ltb l L) (VerifyError.UndefinedLocal l) (lt-ltb l L h)

  instr_fair : (i : Instruction) → Sub (operands i) (ids ds) → ((l : ℕ) → In l (local_read i ++ local_written i) → l < L) → ((f : ℕ) → In f (callees i) → f < F) → Fair Any (verify_instr i ds fids L)
  unfolding verify_instr
  instr_fair (Instruction.Const t v) s b c = tt
  instr_fair (Instruction.Binary op t l r) s b c =
      value_fair Any ds l _ (s l (here refl)) (λ x. value_fair Any ds r _ (s r (there (here refl))) (λ y. check_typing (eq_type x t && eq_type y t) (VerifyError.OperandTypeMismatch x y) tt))
  instr_fair (Instruction.Load t x o) s b c = values_fair (x ∷ []) ds s
  instr_fair (Instruction.Store x o v) s b c = values_fair (x ∷ v ∷ []) ds s
  instr_fair (Instruction.StateRead t x) s b c = tt
  instr_fair (Instruction.StateWrite x v) s b c = values_fair (v ∷ []) ds s
  instr_fair (Instruction.ReadLocal l t) s b c = local_fair l (b l (here refl))
  instr_fair (Instruction.WriteLocal l v) s b c = and_next Any (check_local_ref l L) _ (local_fair l (b l (here refl))) (values_fair (v ∷ []) ds s)
  instr_fair (Instruction.Call f a t) s b c = and_next Any (check (contains f fids) (VerifyError.UndefinedFunction f)) _ (check_fair (contains f fids) (VerifyError.UndefinedFunction f) (all f (c f (here refl)))) (values_fair a ds s)
  instr_fair (Instruction.Assert x) s b c = values_fair (x ∷ []) ds s
  instr_fair (Instruction.Poseidon l r) s b c = values_fair (l ∷ r ∷ []) ds s
  instr_fair (Instruction.Emit x a) s b c = values_fair a ds s
  instr_fair (Instruction.ContextRead k) s b c = tt

  nodes_fair : (H W : List ℕ) (ns : List InstrNode) → Sub H (ids ds) → Sub (results ns) (ids ds) → Ok F L H W ns → Fair Any (verify_instrs ns ds fids L)
  unfolding verify_instrs
  nodes_fair H W [] h s o = tt
  nodes_fair H W (n ∷ ns) h s o = and_next Any (verify_instr n.instr ds fids L) _ (instr_fair n.instr (sub_trans o.0.reads h) o.0.bound o.0.calls) (nodes_fair (with_result n.result H) (local_written n.instr ++ W) ns (with_sub n.result (results ns) h s) (with_rest n.result (results ns) s) o.1)

  held_sub : (H : List ℕ) (ns : List InstrNode) → Sub H (ids ds) → Sub (results ns) (ids ds) → Sub (held_after H ns) (ids ds)
  held_sub H [] h s = h
  held_sub H (n ∷ ns) h s = held_sub (with_result n.result H) ns (with_sub n.result (results ns) h s) (with_rest n.result (results ns) s)

in_contains : (l : List ℕ) {n : ℕ} → In n l → contains n l ≡ true
in_contains [] h = elim h [ ]
in_contains (x ∷ l) {n} (here e) = rw (eq-eqb x n e, contains)
in_contains (x ∷ l) {n} (there h) = by_test (eqb x n) (λ q. rw (q, contains)) (λ q. rw (q, contains) (in_contains l h))

-- ---- every block of the list, where no id stands twice
abbrev All : (BasicBlock → Type 0) → List BasicBlock → Type 0
All P [] = Unit {0}
All P (b ∷ bs) = P b × All P bs

every : (P : BasicBlock → Type 0) (bs : List BasicBlock) → Distinct (block_ids bs) → ((k : ℕ) (b : BasicBlock) → find k bs ≡ some b → P b) → All P bs
every P [] d f = tt
every P (x ∷ bs) d f = (f x.id x (find_hit x.id x bs (eq-eqb x.id x.id refl)), every P bs d.1 (λ k b e. f k b (find_miss k x bs (ne_eqb x.id k (λ q. d.0 (rw q (found_in k bs b e)))) ∙ e)))

block_fair : (bs : List BasicBlock) (k : ℕ) → In k (block_ids bs) → Fair Any (check_block_ref k (block_ids bs))
block_fair bs k h = check_fair (contains k (block_ids bs)) (VerifyError.UndefinedBlock k) (in_contains (block_ids bs) h)

returned_fair : (v : Option ℕ) (r : IrType) (ds : Defined) → Sub (term_reads (Terminator.Return v)) (ids ds) → Fair Any (returned_type v ds >>= λ g. check (return_matches r g) (VerifyError.ReturnTypeMismatch r g))
returned_fair none r ds s = check_typing (return_matches r none) (VerifyError.ReturnTypeMismatch r none) tt
returned_fair (some v) r ds s = rw (type_of_lem ds v (s v (here refl))).1 (check_typing (return_matches r (some (type_of_lem ds v (s v (here refl))).0)) (VerifyError.ReturnTypeMismatch r (some (type_of_lem ds v (s v (here refl))).0)) tt)

term_fair : (cert : ℕ → List ℕ) (n : ℕ) (bs : List BasicBlock) → ((k : ℕ) → k < n → In k (block_ids bs)) → (r : IrType) (ds : Defined) (H W : List ℕ) → Sub H (ids ds) → (t : Terminator) → TermOk cert n H W t → Fair Any (verify_terminator t r ds (block_ids bs))
unfolding verify_terminator
term_fair cert n bs found r ds H W h (Terminator.Jump k) o = block_fair bs k (found k (o.goes k (here refl)).0)
term_fair cert n bs found r ds H W h (Terminator.Branch v t e) o =
    value_fair Any ds v _ (h v (o.reads v (here refl))) (λ c.
    and_next Any (check (eq_type c IrType.BoolT) (VerifyError.BranchConditionNotBool v c)) _ (check_typing (eq_type c IrType.BoolT) (VerifyError.BranchConditionNotBool v c) tt)
    (and_next Any (check_block_ref t (block_ids bs)) _ (block_fair bs t (found t (o.goes t (here refl)).0))
    (block_fair bs e (found e (o.goes e (there (here refl))).0))))
term_fair cert n bs found r ds H W h (Terminator.Return v) o = returned_fair v r ds (sub_trans o.reads h)
term_fair cert n bs found r ds H W h Terminator.Unreachable o = tt

-- the parameters are among the values
entry_sub : (ps : List ℕ) (k : ℕ) {X : List ℕ} → Sub ps X → Sub (entry_held ps k) X
entry_sub ps zero h = h
entry_sub ps (suc k) h = sub_nil

module _ (F : ℕ) (fids : List ℕ) (all : (f : ℕ) → f < F → contains f fids ≡ true) (g : IrFunction) (i : ℕ) (O : FnOk F i g) where
  G : GoodFn F g
  G = O.good

  L : ℕ
  L = length g.locals

  abbrev Fit : BasicBlock → Type 0
  Fit b = BlockOk F (length g.locals) O.good.cert O.good.count (ids g.params) b × (b.terminator ≡ none → ⊥)

  fits : All Fit g.blocks
  fits = every Fit g.blocks O.blocks_distinct (λ k b e. (O.good.each k b e, O.good.closed k b e))

  ok_of : (bs : List BasicBlock) → All Fit bs → AllOk F (length g.locals) O.good.cert O.good.count (ids g.params) bs
  ok_of [] a = tt
  ok_of (b ∷ bs) a = (a.0.0, ok_of bs a.1)

  found : (k : ℕ) → k < O.good.count → In k (block_ids g.blocks)
  found k h = found_in k g.blocks (O.good.found k h).0 (O.good.found k h).1

  one_fair : (ds : Defined) (b : BasicBlock) → Sub (ids g.params) (ids ds) → Sub (results b.instrs) (ids ds) → Fit b → Fair Any (verify_block b g ds fids)
  unfolding verify_block
  one_fair ds b ps r a =
      and_next Any (verify_instrs b.instrs ds fids (length g.locals)) _
      (nodes_fair F (length g.locals) fids all ds (entry_held (ids g.params) b.id) (O.good.cert b.id) b.instrs h r a.0.code) (ends b.terminator refl)
    where
      h : Sub (entry_held (ids g.params) b.id) (ids ds)
      h = entry_sub (ids g.params) b.id ps

      ends : (t : Option Terminator) → b.terminator ≡ t → Fair Any (ok_or_else b.terminator (VerifyError.MissingTerminator b.id) >>= λ t. verify_terminator t g.ret_ty ds (block_ids g.blocks))
      ends none e = absurd (a.1 e)
      ends (some t) e = rw e (term_fair O.good.cert O.good.count g.blocks found g.ret_ty ds (held_after (entry_held (ids g.params) b.id) b.instrs) (written_after (O.good.cert b.id) b.instrs) (held_sub F (length g.locals) fids all ds (entry_held (ids g.params) b.id) b.instrs h r) t (a.0.end t e))

  blocks_fair : (ds : Defined) → Sub (ids g.params) (ids ds) → (bs : List BasicBlock) → Sub (defs bs) (ids ds) → All Fit bs → Fair Any (verify_blocks bs g ds fids)
  unfolding verify_blocks
  blocks_fair ds ps [] s a = tt
  blocks_fair ds ps (b ∷ bs) s a =
      and_next Any (verify_block b g ds fids) _ (one_fair ds b ps (λ v x. s v (in_left (results b.instrs) (defs bs) v x)) a.0)
      (blocks_fair ds ps bs (λ v y. s v (in_right (results b.instrs) (defs bs) v y)) a.1)

  function_fair : Fair Any (verify_function g fids)
  unfolding verify_function
  function_fair =
      and_then (Grew (ids g.params) []) Any (define_params g.params []) _ (def_params g.params [] (record { distinct = O.params_distinct; apart = λ v h j. in_nil j })) (λ ps P.
      and_then (Grew (defs g.blocks) ps) Any (define_blocks g.blocks ps) _ (def_blocks F (length g.locals) O.good.cert O.good.count (ids g.params) g.blocks ps (ok_of g.blocks fits) (record { distinct = O.values_distinct; apart = λ v h j. apart v h (in_either (ids g.params) [] v (P.to v j)) })) (λ ds D.
      blocks_fair ds (λ v h. D.from v (in_right (defs g.blocks) (ids ps) v (P.from v (in_left (ids g.params) [] v h)))) g.blocks (λ v h. D.from v (in_left (defs g.blocks) (ids ps) v h)) fits))
    where
      apart : (v : ℕ) → In v (defs g.blocks) → In v (ids g.params) ⊎ In v [] → ⊥
      apart v h (inl j) = omega (arith, O.values_high v h, O.params_low v j)
      apart v h (inr j) = in_nil j

-- ---- the program
has_fid : (F i : ℕ) (gs : List IrFunction) → Each F i gs → (f : ℕ) → i ≤ f → f < i + length gs → contains f (function_ids gs) ≡ true
has_fid F i [] none_left f h l = absurd (omega arith)
has_fid F i (g ∷ gs) (one_more o rest) f h l =
    by_test (eqb g.id f)
    (λ q. rw (q, contains))
    (λ q.
    let ne : i ≢ f = λ e. eqb-false g.id f q (o.id ∙ e) in
    rw (q, contains) (has_fid F (suc i) gs rest f (omega arith) (omega arith)))

functions_length : (K : Contract) (i : ℕ) (fs : List Function) (gs : List IrFunction) → lower_functions K i fs ≡ ok gs → length gs ≡ length fs
unfolding lower_functions
functions_length K i [] gs e = sym (ap length (ok_inj e))
functions_length K i (f ∷ fs) gs e =
    taking (lower_function K i f) _ e λ g eg e₁.
    taking (lower_functions K (suc i) fs) _ e₁ λ r er e₂.
    sym (ap length (ok_inj e₂)) ∙ ap suc (functions_length K (suc i) fs r er)

program_length : (K : Contract) (p : IrProgram) → lower_contract K ≡ ok p → length p.functions ≡ fns K
unfolding lower_contract
program_length K p e = taking (lower_functions K 0 K.functions) _ e λ fs ef e₁. subst (λ (q : IrProgram). length q.functions ≡ fns K) (ok_inj e₁) (functions_length K 0 K.functions fs ef)

-- accepted, or refused for a type
abbrev pub Expected : Result (ℕ × VerifyError) Done → Type 0
Expected (ok u) = Unit {0}
Expected (err x) = Typing x.1

functions_expected : (F : ℕ) (fids : List ℕ) → ((f : ℕ) → f < F → contains f fids ≡ true) → (i : ℕ) (gs : List IrFunction) → Each F i gs → Expected (verify_functions gs fids)
unfolding verify_functions
functions_expected F fids all i [] none_left = tt
functions_expected F fids all i (g ∷ gs) (one_more o rest) = go (verify_function g fids) (function_fair F fids all g i o) (functions_expected F fids all (suc i) gs rest)
  where
    go : (r : Checked Done) → Fair Any r → Expected (verify_functions gs fids) → Expected (map_err (λ (x : VerifyError). (g.name, x)) r >> verify_functions gs fids)
    go (err x) h below = h
    go (ok u) h below = below

pub verifier_expected : (K : Contract) (p : IrProgram) → lower_contract K ≡ ok p → Expected (verify_program p)
unfolding verify_program
verifier_expected K p e = functions_expected (fns K) (function_ids p.functions) (λ f h. has_fid (fns K) 0 p.functions (contract_ok K p e) f (omega arith) (omega (arith, program_length K p e))) 0 p.functions (contract_ok K p e)

-- What lowering writes into its instructions fits: types, constants, offsets, slots, names; and there are few blocks and locals. Assumes nothing.
use Prim.Native.Nat.{ℕ, suc, ◌*◌, ◌≤◌, ◌<◌, ◌^◌}
use mathlib.Core.Path.{◌≡◌, refl, sym, subst}
use mathlib.Core.List.{List, [], ◌∷◌, ◌++◌}
use mathlib.Core.Option.{Option, none, some}
use mathlib.Core.Bool.{Bool, true, false}
use lib.Dec.{eqb, lit<, lit≤}
use lib.ListN.{length, length-append}
use native.Mathlib.Omega.{arith}
use Rattle.definitions.specs.Ast.{BinOp, Param, Struct, Contract, Function, StorageField}
use Rattle.definitions.specs.Ir.{BasicBlock, InstrNode, Instruction, IrFunction, IrType, binary_type, result_type, unless_void, update}
use Rattle.definitions.specs.Lower.{FnCtx, Value, add_instr, fresh_value, lower_function, new_ctx, own_return_type, parse_ir_type, push_instr, put_terminator, set_scopes, set_terminator, switch_to, with_block, with_local}
use Rattle.definitions.specs.Names.{or_this, last_named}
use Rattle.definitions.specs.Result.{ok}
use Rattle.definitions.specs.Sema.{return_type}
use Rattle.definitions.proofs.Results.{by_test, some_none, last_below, first_below}
use Rattle.definitions.proofs.Runs.Safe.{In, here, there, in_nil}
use Rattle.definitions.proofs.Traversal.Keeps.{given, Known, Made, From, valued, Keeps}
use Rattle.definitions.proofs.Traversal.Lowering.{by_name_lem, function_keeps}
use Rattle.definitions.specs.All.{All, anil, acons}
use Rattle.definitions.proofs.Programs.Fits.{Id, FitsType, FitsOpt}
use Rattle.definitions.proofs.Contracts.Bounds.{SmallFunction, Small}

abbrev pub Content : Instruction → Type 0
Content (Instruction.Const t v) = FitsType t × (v < 256 ^ 8)
Content (Instruction.Binary op t l r) = FitsType t
Content (Instruction.Load t b o) = FitsType t × (o < 256 ^ 8)
Content (Instruction.Store b o v) = o < 256 ^ 8
Content (Instruction.StateRead t s) = FitsType t × (s < 256 ^ 4)
Content (Instruction.StateWrite s v) = s < 256 ^ 4
Content (Instruction.ReadLocal l t) = FitsType t
Content (Instruction.WriteLocal l v) = Unit {0}
Content (Instruction.Call f a t) = FitsType t
Content (Instruction.Assert c) = Unit {0}
Content (Instruction.Poseidon l r) = Unit {0}
Content (Instruction.Emit e a) = Id e
Content (Instruction.ContextRead k) = k ≤ 2

abbrev pub NodeFits : InstrNode → Type 0
NodeFits n = Content n.instr

abbrev pub CodeFits : BasicBlock → Type 0
CodeFits b = (b.id < 256) × All NodeFits b.instrs

-- what is kept of a function under way: its code and its locals fit, and the types of what is held and written
record Fit (B : List Known) (Q : List ℕ) (H W : List Value) (c : FnCtx) : Type 0 where
  code : All CodeFits c.blocks
  locals : All FitsType c.locals
  local_count : length c.locals ≤ 256
  held : (v : Value) → In v H → FitsType v.1
  written : (l : Value) → In l W → FitsType l.1
  known : (k : Known) → In k B → (l : Value) → In l k.1 → FitsType l.1

-- lists
all_snoc : {A : Type 0} {P : A → Type 0} {l : List A} {a : A} → All P l → P a → All P (l ++ (a ∷ []))
all_snoc anil p = acons p anil
all_snoc (acons q r) p = acons q (all_snoc r p)

all_update : {P : BasicBlock → Type 0} (k : ℕ) (g : BasicBlock → BasicBlock) → ((b : BasicBlock) → P b → P (g b)) → {bs : List BasicBlock} → All P bs → All P (update k g bs)
all_update k g f anil = anil
all_update {P} k g f (acons {a = b} {l = bs} p r) = by_test (eqb b.id k) (λ q. rw (q, update) (acons (f b p) r)) (λ q. rw (q, update) (acons p (all_update k g f r)))

-- the tables
small0 : 0 < 65535
small0 = lit< tt

own_fits : (n : ℕ) → n < 65535 → FitsType (parse_ir_type n)
own_fits n h = by_name_lem FitsType n _ (IrType.Struct n) (acons small0 (acons small0 (acons small0 (acons small0 (acons small0 anil))))) h

own_return_fits : (o : Option ℕ) → FitsOpt o → FitsType (own_return_type o)
own_return_fits none h = small0
own_return_fits (some n) h = own_fits n h

call_return_fits : (o : Option ℕ) → FitsOpt o → FitsType (return_type o)
call_return_fits none h = small0
call_return_fits (some n) h = by_name_lem FitsType n _ (IrType.Struct n) (acons small0 (acons small0 (acons small0 anil))) h

or_this_lem : {A : Type 0} (P : A → Type 0) (o : Option A) (t : Bool) (a b : A) → or_this o t a ≡ some b → (o ≡ some b → P b) → P a → P b
or_this_lem P (some x) t a b e f p = f e
or_this_lem P none true a b e f p = let q : a ≡ b = cc in subst P q p
or_this_lem P none false a b e f p = absurd (some_none b (sym e))

last_holds : {A : Type 0} (P : A → Type 0) (name : A → ℕ) (i : ℕ) (rs : List A) (n : ℕ) (r : ℕ × A) → All P rs → last_named name i rs n ≡ some r → P r.1
last_holds P name i [] n r h e = absurd (some_none r (sym e))
last_holds {A} P name i (a ∷ rs) n r (acons p h) e =
    or_this_lem (λ (r : ℕ × A). P r.1) (last_named name (suc i) rs n) (eqb (name a) n) (i, a) r e (λ q. last_holds P name (suc i) rs n r h q) p

bin_fits : (op : BinOp) (t : IrType) → FitsType t → FitsType (binary_type op t)
bin_fits BinOp.Add t h = h
bin_fits BinOp.Sub t h = h
bin_fits BinOp.Mul t h = h
bin_fits BinOp.Div t h = h
bin_fits BinOp.Eq t h = small0
bin_fits BinOp.Neq t h = small0
bin_fits BinOp.Lt t h = small0
bin_fits BinOp.Gt t h = small0
bin_fits BinOp.Lte t h = small0
bin_fits BinOp.Gte t h = small0

-- the type of a result
abbrev OptFits : Option IrType → Type 0
OptFits none = Unit {0}
OptFits (some t) = FitsType t

call_fits : (t : IrType) → FitsType t → OptFits (unless_void t)
call_fits IrType.U64 h = h
call_fits IrType.BoolT h = h
call_fits IrType.FieldT h = h
call_fits (IrType.Struct n) h = h
call_fits IrType.Void h = tt

valued_fit : (o : Option IrType) (n : ℕ) {H : List Value} → OptFits o → ((v : Value) → In v H → FitsType v.1) → (v : Value) → In v (valued o n H) → FitsType v.1
valued_fit none n f h v i = h v i
valued_fit (some t) n f h v (here e) = subst (λ (x : Value). FitsType x.1) e f
valued_fit (some t) n f h v (there i) = h v i

from_fits : {H : List Value} {t : IrType} → From H t → ((v : Value) → In v H → FitsType v.1) → FitsType t
from_fits (From.value v t i) h = h (v, t) i
from_fits From.u64 h = small0

module _ (K : Contract) (S : Small K) where
  made_fits : {H W : List Value} {i : Instruction} → Made K (Unit {0}) H W i → ((v : Value) → In v H → FitsType v.1) → ((l : Value) → In l W → FitsType l.1) → Content i × OptFits (result_type i)
  made_fits (Made.const v s) h w = ((small0, s tt), small0)
  made_fits (Made.binary op t v x i j) h w = (h (v, t) i, bin_fits op t (h (v, t) i))
  made_fits (Made.load v s f i d hv ed ei) h w =
      let few : length d.1.fields ≤ 64 = last_holds (λ (y : Struct). length y.fields ≤ 64) (λ (y : Struct). y.name) 0 K.structs s d S.structs ed in
      let b : i * 8 < 256 ^ 8 = omega (arith, first_below (λ (y : Param). y.name) 0 d.1.fields f i ei) in
      ((small0, b), small0)
  made_fits (Made.state_read n s es) h w = ((small0, omega (arith, last_below (λ (f : StorageField). f.name) 0 K.storage n s es, S.storage)), small0)
  made_fits (Made.state_write n v s es i) h w = (omega (arith, last_below (λ (f : StorageField). f.name) 0 K.storage n s es, S.storage), tt)
  made_fits (Made.read_local l t i) h w = (w (l, t) i, w (l, t) i)
  made_fits (Made.write_local l v i j) h w = (tt, tt)
  made_fits (Made.call n f args ef a) h w =
      let s : SmallFunction f.1 = last_holds SmallFunction (λ (g : Function). g.name) 0 K.functions n f S.functions ef in
      let t : FitsType (return_type f.1.return_type) = call_return_fits f.1.return_type s.ret in
      (t, call_fits (return_type f.1.return_type) t)
  made_fits (Made.assert v i) h w = (tt, tt)
  made_fits (Made.poseidon v x s) h w = (tt, small0)
  made_fits (Made.emit n args s a) h w = (s tt, tt)
  made_fits (Made.context_read k s) h w = (s, small0)

  code_push : (k : ℕ) (n : InstrNode) {bs : List BasicBlock} → Content n.instr → All CodeFits bs → All CodeFits (update k (add_instr n) bs)
  code_push k n h j = all_update k (add_instr n) (λ b p. (p.0, all_snoc p.1 h)) j

  fit_keeps : Keeps K (Unit {0}) Fit
  unfolding push_instr with_block with_local set_scopes switch_to set_terminator
  fit_keeps = record {
    weaken = λ q h w j. record { code = j.code; locals = j.locals; local_count = j.local_count; held = λ v i. j.held v (h v i); written = λ l i. j.written l (w l i); known = j.known };
    push = λ {c = c} {i = i} m j. let f = made_fits m j.held j.written in record { code = code_push _ _ f.0 j.code; locals = j.locals; local_count = j.local_count; held = valued_fit (result_type i) c.next_value f.1 j.held; written = j.written; known = j.known };
    hold = λ f i few j. let t = from_fits f j.held in record { code = code_push _ _ tt j.code; locals = all_snoc j.locals t; local_count = simp length-append (omega (arith, few)); held = j.held; written = valued_fit (some _) _ t j.written; known = j.known };
    block = λ few j. record { code = all_snoc j.code (few, anil); locals = j.locals; local_count = j.local_count; held = j.held; written = j.written; known = known_more j.written j.known };
    scopes = λ s j. record { code = j.code; locals = j.locals; local_count = j.local_count; held = j.held; written = j.written; known = j.known };
    switch = λ h j. record { code = j.code; locals = j.locals; local_count = j.local_count; held = λ v i. absurd (in_nil i); written = j.known _ h; known = j.known };
    term = λ {t = t} o j. record { code = all_update _ (put_terminator t) (λ b p. p) j.code; locals = j.locals; local_count = j.local_count; held = j.held; written = j.written; known = j.known };
    ended = λ q j. record { code = j.code; locals = j.locals; local_count = j.local_count; held = j.held; written = j.written; known = j.known };
  }
    where
      known_more : {B : List Known} {n : ℕ} {W : List Value} → ((l : Value) → In l W → FitsType l.1) → ((k : Known) → In k B → (l : Value) → In l k.1 → FitsType l.1) → (k : Known) → In k ((n, W) ∷ B) → (l : Value) → In l k.1 → FitsType l.1
      known_more w f k (here e) l i = w l (subst (λ (x : Known). In l x.1) (sym e) i)
      known_more w f k (there h) l i = f k h l i

  take_fit : (n : ℕ) → (Unit {0} → n < 65535) → (H W : List Value) (c : FnCtx) → Fit [] (0 ∷ []) H W c → Fit [] (0 ∷ []) ((c.next_value, parse_ir_type n) ∷ H) W (fresh_value c)
  unfolding fresh_value
  take_fit n h H W c j = record { code = j.code; locals = j.locals; local_count = j.local_count; held = valued_fit (some (parse_ir_type n)) c.next_value (own_fits n (h tt)) j.held; written = j.written; known = j.known }

  all_of_held : (ps : List Value) → ((v : Value) → In v ps → FitsType v.1) → All (λ (v : Value). FitsType v.1) ps
  all_of_held [] h = anil
  all_of_held (p ∷ ps) h = acons (h p (here refl)) (all_of_held ps (λ v i. h v (there i)))

  new_fit : (i : ℕ) → Fit [] (0 ∷ []) [] [] (new_ctx i)
  new_fit i = record { code = acons (lit< tt, anil) anil; locals = anil; local_count = lit≤ tt; held = λ v h. absurd (in_nil h); written = λ l h. absurd (in_nil h); known = λ k h. absurd (in_nil h) }

  pub record FnFits (f : Function) (g : IrFunction) : Type 0 where
    pub name : g.name ≡ f.name
    pub ret_ty : FitsType g.ret_ty
    pub typed : All (λ (v : ℕ × IrType). FitsType v.1) g.params
    pub code : All CodeFits g.blocks
    pub locals : All FitsType g.locals
    pub local_count : length g.locals ≤ 256

  pub function_fit : (i : ℕ) (f : Function) (g : IrFunction) → SmallFunction f → lower_function K i f ≡ ok g → FnFits f g
  function_fit i f g s e =
      let k = given (function_keeps K (Unit {0}) Fit fit_keeps take_fit i f (λ u. s) (new_fit i)) e in
      let j = k.whole.inv in
      subst (FnFits f) k.is (record { name = refl; ret_ty = own_return_fits f.return_type s.ret; typed = all_of_held k.params (λ v h. k.begun.inv.held v (k.begun.params v h)); code = j.code; locals = j.locals; local_count = j.local_count })

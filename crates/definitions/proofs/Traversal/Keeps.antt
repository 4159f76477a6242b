-- The things that lowering does to a function under way, and what is known where it does each: what keeps a property at these keeps it
-- through lowering (Lowering.antt). Assumes nothing.
use Prim.Native.Nat.{ℕ, ◌*◌, ◌≤◌, ◌<◌, ◌^◌}
use mathlib.Core.Path.{◌≡◌, refl, subst}
use mathlib.Core.List.{List, [], ◌∷◌}
use mathlib.Core.Option.{Option, none, some}
use mathlib.Core.Bool.{true}
use lib.ListN.{length}
use Rattle.definitions.specs.Ast.{BinOp, Contract, Function, StorageField, Struct}
use Rattle.definitions.specs.Ir.{Instruction, IrType, Terminator, result_type}
use Rattle.definitions.specs.Lower.{FnCtx, Lowering, LoweringError, Scope, Value, current_block_terminated, field_position, push_instr, set_scopes, set_terminator, storage_named, struct_named, switch_to, with_block, with_local}
use Rattle.definitions.specs.Result.{◌>>=◌, err, ok, ok_or_else}
use Rattle.definitions.specs.Run.{term_reads}
use Rattle.definitions.specs.Sema.{function_named, return_type}
use Rattle.definitions.proofs.Results.{err_ok, ok_inj}
use Rattle.definitions.proofs.Runs.Safe.{In, Sub, ids}

-- ---- a computation whose answer, if there is one, has a property
pub data Post {A : Type 0} (R : A → Type 0) : Lowering A → Type 0 where
  bad : (x : LoweringError) → Post R (err x)
  good : (a : A) → R a → Post R (ok a)

pub bind : {A B : Type 0} {R : A → Type 0} {T : B → Type 0} {r : Lowering A} (k : A → Lowering B) → Post R r → ((a : A) → R a → Post T (k a)) → Post T (r >>= k)
bind k (bad x) f = bad x
bind k (good a p) f = f a p

pub need : {A B : Type 0} {T : B → Type 0} (o : Option A) (x : LoweringError) (k : A → Lowering B) → ((a : A) → o ≡ some a → Post T (k a)) → Post T (ok_or_else o x >>= k)
need none x k f = bad x
need (some a) x k f = f a refl

pub given : {A : Type 0} {R : A → Type 0} {r : Lowering A} {a : A} → Post R r → r ≡ ok a → R a
given (bad x) e = absurd (err_ok e)
given {R = R} (good b p) e = subst R (ok_inj e) p

-- ---- where lowering stands
-- `B` are the blocks that may be gone to, each with the locals that are written on entry; the blocks `Q` may be open; `H` are the values held and `W` the locals written in the current block
abbrev pub Known : Type 0
Known = ℕ × List Value

abbrev pub Spot : Type 1
Spot = List Known → List ℕ → List Value → List Value → FnCtx → Type 0

-- an instruction that lowering makes. Where S holds, the contract's numbers are small.
pub data Made (K : Contract) (S : Type 0) (H W : List Value) : Instruction → Type 0 where
  const : (v : ℕ) → (S → v < 256 ^ 8) → Made K S H W (Instruction.Const IrType.U64 v)
  binary : (op : BinOp) (t : IrType) (v w : ℕ) → In (v, t) H → In w (ids H) → Made K S H W (Instruction.Binary op t v w)
  load : (v s f i : ℕ) (d : ℕ × Struct) → In v (ids H) → struct_named K s ≡ some d → field_position d.1.fields f ≡ some i → Made K S H W (Instruction.Load IrType.U64 v (i * 8))
  state_read : (n : ℕ) (s : ℕ × StorageField) → storage_named K n ≡ some s → Made K S H W (Instruction.StateRead IrType.U64 s.0)
  state_write : (n v : ℕ) (s : ℕ × StorageField) → storage_named K n ≡ some s → In v (ids H) → Made K S H W (Instruction.StateWrite s.0 v)
  read_local : (l : ℕ) (t : IrType) → In (l, t) W → Made K S H W (Instruction.ReadLocal l t)
  write_local : (l v : ℕ) → In l (ids W) → In v (ids H) → Made K S H W (Instruction.WriteLocal l v)
  call : (n : ℕ) (f : ℕ × Function) (args : List ℕ) → function_named K n ≡ some f → Sub args (ids H) → Made K S H W (Instruction.Call f.0 args (return_type f.1.return_type))
  assert : (v : ℕ) → In v (ids H) → Made K S H W (Instruction.Assert v)
  poseidon : (v w : ℕ) → Sub (v ∷ w ∷ []) (ids H) → Made K S H W (Instruction.Poseidon v w)
  emit : (n : ℕ) (args : List ℕ) → (S → n < 65535) → Sub args (ids H) → Made K S H W (Instruction.Emit n args)
  context_read : (k : ℕ) → k ≤ 2 → Made K S H W (Instruction.ContextRead k)

-- the type of a local that it makes
pub data From (H : List Value) : IrType → Type 0 where
  value : (v : ℕ) (t : IrType) → In (v, t) H → From H t
  u64 : From H IrType.U64

-- a terminator
pub data Ends (B : List Known) (H W : List Value) : Terminator → Type 0 where
  jump : (k : ℕ) (X : List Value) → In (k, X) B → Sub X W → Ends B H W (Terminator.Jump k)
  branch : (v k l : ℕ) (X Y : List Value) → In v (ids H) → In (k, X) B → Sub X W → In (l, Y) B → Sub Y W → Ends B H W (Terminator.Branch v k l)
  return : (o : Option ℕ) → Sub (term_reads (Terminator.Return o)) (ids H) → Ends B H W (Terminator.Return o)

abbrev pub valued : Option IrType → ℕ → List Value → List Value
valued none v H = H
valued (some t) v H = (v, t) ∷ H

-- what is kept at each
pub record Keeps (K : Contract) (S : Type 0) (J : Spot) : Type 0 where
  pub weaken : {B : List Known} {Q R : List ℕ} {H H' W W' : List Value} {c : FnCtx} → Sub Q R → Sub H' H → Sub W' W → J B Q H W c → J B R H' W' c
  pub push : {B : List Known} {Q : List ℕ} {H W : List Value} {c : FnCtx} {i : Instruction} → Made K S H W i → J B Q H W c → J B Q (valued (result_type i) c.next_value H) W (push_instr i c)
  pub hold : {B : List Known} {Q : List ℕ} {H W : List Value} {c : FnCtx} {t : IrType} {v : ℕ} → From H t → In v (ids H) → length c.locals < 256 → J B Q H W c → J B Q H ((length c.locals, t) ∷ W) (push_instr (Instruction.WriteLocal (length c.locals) v) (with_local t c))
  pub block : {B : List Known} {Q : List ℕ} {H W : List Value} {c : FnCtx} → c.next_block < 256 → J B Q H W c → J ((c.next_block, W) ∷ B) (c.next_block ∷ Q) H W (with_block c)
  pub scopes : {B : List Known} {Q : List ℕ} {H W : List Value} {c : FnCtx} (s : List Scope) → J B Q H W c → J B Q H W (set_scopes s c)
  pub switch : {B : List Known} {Q : List ℕ} {H W X : List Value} {c : FnCtx} {k : ℕ} → In (k, X) B → J B Q H W c → J B Q [] X (switch_to k c)
  pub term : {B : List Known} {P : List ℕ} {H W : List Value} {c : FnCtx} {t : Terminator} → Ends B H W t → J B (c.current_block ∷ P) H W c → J B P H W (set_terminator t c)
  pub ended : {B : List Known} {P : List ℕ} {H W : List Value} {c : FnCtx} → current_block_terminated c ≡ true → J B (c.current_block ∷ P) H W c → J B P H W c

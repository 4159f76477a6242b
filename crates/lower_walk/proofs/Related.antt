-- Two computations with the same error or with related answers, and how such are put together. Assumes nothing.
use Prim.Native.Nat.{ℕ}
use mathlib.Core.Path.{◌≡◌, refl, ap₂}
use mathlib.Core.List.{List, [], ◌∷◌, ◌++◌, map}
use mathlib.Core.Option.{Option, none, some}
use mathlib.Core.Bool.{Bool, false}
use lib.Dec.{eqb}
use lib.ListN.{length}
use Rattle.definitions.specs.Ir.{IrType}
use Rattle.definitions.specs.Result.{err, ok, ◌>>=◌, ok_or_else}
use Rattle.definitions.specs.Lower.{LoweringError, Lowering, FnCtx, Scope, Value, in_scope, lookup_local, result_value}
use Rattle.definitions.proofs.Results.{by_test}
use Rattle.lower_walk.specs.Log.{Log}
use Rattle.lower_walk.specs.Held.{HeldName, Held, names}
use Rattle.lower_walk.specs.Stmts.{LogCtx, with_log}
use Rattle.lower_walk.proofs.Tied.{Later, Now, now}

pub data Rel {A B : Type 0} (R : A → B → Type 0) : Lowering A → Lowering B → Type 0 where
  bad : (x : LoweringError) → Rel R (err x) (err x)
  good : (a : A) (b : B) → R a b → Rel R (ok a) (ok b)

-- ---- a computation that is bound within another
pub nested : {A B C : Type 0} (r : Lowering A) (f : A → Lowering B) (h : B → Lowering C) → ((r >>= f) >>= h) ≡ (r >>= λ a. f a >>= h)
nested (err x) f h = refl
nested (ok a) f h = refl

pub bind : {A B C D : Type 0} {S : A → B → Type 0} {R : C → D → Type 0} {r : Lowering A} {r' : Lowering B} (h : A → Lowering C) (h' : B → Lowering D) → Rel S r r' → ((a : A) (b : B) → S a b → Rel R (h a) (h' b)) → Rel R (r >>= h) (r' >>= h')
bind h h' (bad x) more = bad x
bind h h' (good a b s) more = more a b s

pub bind_o : {A C D : Type 0} {R : C → D → Type 0} (o : Option A) (x : LoweringError) (h : A → Lowering C) (h' : A → Lowering D) → ((a : A) → Rel R (h a) (h' a)) → Rel R (ok_or_else o x >>= h) (ok_or_else o x >>= h')
bind_o none x h h' f = bad x
bind_o (some a) x h h' f = f a

-- ---- names: one list for all scopes, each name with the number of its scope, which is how many scopes are around it
abbrev numbered : ℕ → ℕ × ℕ × IrType → HeldName
numbered i e = record { scope = i; name = e.0; local = e.1; type = e.2 }

abbrev pub joined : List Scope → Held
joined [] = []
joined (t ∷ up) = map (numbered (length up)) t ++ joined up

look_in : (n i : ℕ) (t : Scope) (up : List Scope) (es : Held) → lookup_local n up ≡ in_scope n (names es) → lookup_local n (t ∷ up) ≡ in_scope n (names (map (numbered i) t ++ es))
look_in n i [] up es h = h
look_in n i (e ∷ t) up es h = by_test (eqb e.0 n) (λ q. rw (q, in_scope, lookup_local)) (λ q. rw (q, in_scope, lookup_local) (look_in n i t up es h))

pub look_is : (n : ℕ) (up : List Scope) → lookup_local n up ≡ in_scope n (names (joined up))
look_is n [] = refl
look_is n (t ∷ up) = look_in n (length up) t up (joined up) (look_is n up)

pub bind_l : {C D : Type 0} {R : C → D → Type 0} {m : ℕ} {Q : List ℕ} {t : Scope} {up : List Scope} {e g : Bool} {c : FnCtx} {d : LogCtx} (n : ℕ) (x : LoweringError) (h : ℕ × IrType → Lowering C) (h' : ℕ × IrType → Lowering D) → Now m Q t up e g c d → ((a : ℕ × IrType) → Rel R (h a) (h' a))
    → Rel R (ok_or_else (lookup_local n c.scopes) x >>= h) (ok_or_else (in_scope n (names (joined (t ∷ up)))) x >>= h')
bind_l {t = t} {up} n x h h' (now _ _ _ _ _ _ _ _ T) f = rw (look_is n (t ∷ up)) (bind_o (in_scope n (names (joined (t ∷ up)))) x h h' f)

-- ---- values: equal while nothing is lost (g is false), of one type in any case
pub data EV (g : Bool) : Value → Value → Type 0 where
  ev : (n m : ℕ) (t : IrType) → (g ≡ false → n ≡ m) → EV g (n, t) (m, t)

pub data EO (g : Bool) : Option Value → Option Value → Type 0 where
  eno : EO g none none
  eso : (n m : ℕ) (t : IrType) → (g ≡ false → n ≡ m) → EO g (some (n, t)) (some (m, t))

pub data EL (g : Bool) : List ℕ → List ℕ → Type 0 where
  eln : EL g [] []
  elc : (n m : ℕ) (xs ys : List ℕ) → (g ≡ false → n ≡ m) → EL g xs ys → EL g (n ∷ xs) (m ∷ ys)

pub el_is : {g : Bool} {xs ys : List ℕ} → EL g xs ys → g ≡ false → xs ≡ ys
el_is eln q = refl
el_is (elc n m xs ys e h) q = ap₂ {A = ℕ} {B = List ℕ} ◌∷◌ (e q) (el_is h q)

pub call_value : (t : Option IrType) (n m : ℕ) (g : Bool) → (g ≡ false → n ≡ m) → EO g (result_value t n) (result_value t m)
call_value none n m g e = eno
call_value (some t) n m g e = eso n m t e

-- ---- after an expression: of what the walk keeps, only the log has changed
pub data Pair (Q : List ℕ) (t : Scope) (up : List Scope) (d : LogCtx) (f : Bool) (A : Type 0) (E : Bool → A → A → Type 0) : FnCtx × A → Log × A → Type 0 where
  pair : (c : FnCtx) (l : Log) (g : Bool) (a b : A) → Later f g → E g a b → Now 0 Q t up false g c (with_log l d) → Pair Q t up d f A E (c, a) (l, b)

module _ {C D : Type 0} {R : C → D → Type 0} {Q : List ℕ} {t : Scope} {up : List Scope} {d : LogCtx} {f : Bool} where
  pub bind_v : {r : Lowering (FnCtx × Value)} {r' : Lowering (Log × Value)} (h : FnCtx × Value → Lowering C) (h' : Log × Value → Lowering D) → Rel (Pair Q t up d f Value EV) r r'
      → ((c : FnCtx) (l : Log) (g : Bool) (n m : ℕ) (y : IrType) → Later f g → (g ≡ false → n ≡ m) → Now 0 Q t up false g c (with_log l d) → Rel R (h (c, (n, y))) (h' (l, (m, y)))) → Rel R (r >>= h) (r' >>= h')
  bind_v h h' (bad x) more = bad x
  bind_v h h' (good _ _ (pair c l g _ _ le (ev n m y e) N)) more = more c l g n m y le e N

  pub bind_e : {A : Type 0} {E : Bool → A → A → Type 0} {r : Lowering (FnCtx × A)} {r' : Lowering (Log × A)} (h : FnCtx × A → Lowering C) (h' : Log × A → Lowering D) → Rel (Pair Q t up d f A E) r r'
      → ((c : FnCtx) (l : Log) (g : Bool) (a b : A) → Later f g → E g a b → Now 0 Q t up false g c (with_log l d) → Rel R (h (c, a)) (h' (l, b))) → Rel R (r >>= h) (r' >>= h')
  bind_e h h' (bad x) more = bad x
  bind_e h h' (good _ _ (pair c l g a b le e N)) more = more c l g a b le e N

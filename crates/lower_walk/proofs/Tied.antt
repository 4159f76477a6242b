-- The states of lowering and of its walk: as long as nothing is lost, the log has the blocks' records; else these are longer than the room. Assumes nothing.
use Prim.Native.Nat.{ℕ, suc, ◌+◌, ◌≤◌, ◌<◌}
use mathlib.Core.Path.{◌≡◌, refl, sym, ◌∙◌, ap, subst}
use mathlib.Core.List.{List, ◌∷◌, ◌++◌}
use mathlib.Core.Option.{Option, none, some}
use mathlib.Core.Bool.{Bool, true, false}
use lib.Dec.{leb}
use lib.ListN.{length, length-append}
use native.Mathlib.Omega.{arith}
use borrow.Author.Tests.{leb-true, leb-false}
use Rattle.definitions.specs.Ir.{IrType, Instruction, result_type, Terminator, InstrNode, BasicBlock, update}
use Rattle.definitions.specs.Lower.{FnCtx, Scope, add_instr, put_terminator, result_id, after_result, push_instr, set_terminator, set_scopes, pop_scope, define_local, current_block_terminated}
use Rattle.definitions.specs.Lower
use Rattle.definitions.specs.Records.{write_tree}
use Rattle.definitions.specs.ProgramSheet.{instr_tree, term_tree}
use Rattle.definitions.proofs.Results.{by_test}
use Rattle.definitions.proofs.Sheets.Trees.{tree_long}
use Rattle.lower_walk.specs.Log.{room, Log, append, next_value, counted, log_instr, log_term}
use Rattle.lower_walk.specs.Stmts.{LogCtx, push_c, terminate, switch_to}
use Rattle.lower_walk.proofs.Parts.{Marks, Parts}
use Rattle.lower_walk.proofs.Prims.{stopped, started, true_false, push_parts, term_parts, turn_parts, ended_is}

-- The last index says whether something is lost. `m` values have no record.
pub data Tied (m : ℕ) (e : Bool) (Q : List ℕ) (cur count v : ℕ) (bs : List BasicBlock) (l : Log) (k : Marks) : Bool → Type 0 where
  whole : l.value ≡ v → length l.bytes ≡ l.at → l.at ≤ room → v ≤ m + l.at → Parts e Q cur count bs l.bytes k → Tied m e Q cur count v bs l k false
  over : room < l.at → (u : List ℕ) (h : Marks) → room < length u → Parts e Q cur count bs u h → Tied m e Q cur count v bs l k true

-- nothing was lost before, if nothing is lost later
abbrev pub Later : Bool → Bool → Type 0
Later f g = g ≡ false → f ≡ false

-- what holds after a step, with f before it
pub data After (f : Bool) (P : Bool → Type 0) : Type 0 where
  after : (g : Bool) → Later f g → P g → After f P

pub then : {f : Bool} {P : Bool → Type 0} {X : Type 0} → After f P → ((g : Bool) → Later f g → P g → X) → X
then (after g le p) more = more g le p

-- an instruction or terminator that does not hang on a value
pub same : {A : Type 0} {g : Bool} (x : A) → g ≡ false → x ≡ x
same x q = refl

-- a record x, which may be another one in the log once something is lost
append_tied : {m : ℕ} {Q : List ℕ} {cur count v : ℕ} {bs : List BasicBlock} {l : Log} {k : Marks} {g : Bool} → Tied m false Q cur count v bs l k g → (e : Bool) (bs' : List BasicBlock) (v' w : ℕ) (mark : ℕ → Marks → Marks) (x y : List ℕ) → (l.value ≡ v → g ≡ false → x ≡ y)
    → ((out : List ℕ) (k : Marks) (a : ℕ) → a ≡ length (out ++ x) → Parts false Q cur count bs out k → Parts e Q cur count bs' (out ++ x) (mark a k))
    → (g ≡ false → l.value ≡ v → v ≤ m + l.at → l.at + length x ≤ room → (w ≡ v') × (v' ≤ l.at + length x))
    → After g (Tied 0 e Q cur count v' bs' (counted w (append y l)) (mark (append y l).at k))
unfolding append
append_tied {l = l} {k = k} (whole val len low small P) e bs' v' w mark x y same step values =
    let long : length (l.bytes ++ x) ≡ l.at + length x = length-append l.bytes x ∙ ap (λ (n : ℕ). n + length x) len in
    rw (← same val refl) (by_test (leb (l.at + length x) room)
    (λ q.
    let fits : l.at + length x ≤ room = leb-true (l.at + length x) room q in
    rw (q, append) (after false (λ p. p) (whole (values refl val small fits).0 long fits (omega (arith, (values refl val small fits).1)) (step l.bytes k (l.at + length x) (sym long) P))))
    (λ q. rw (q, append) (after true (λ p. refl) (over (omega arith) (l.bytes ++ x) _ (omega (arith, leb-false (l.at + length x) room q)) (step l.bytes k (length (l.bytes ++ x)) refl P)))))
append_tied {l = l} (over high u h long P) e bs' v' w mark x y same step values =
    by_test (leb (l.at + length y) room)
    (λ q. absurd (omega (arith, leb-true (l.at + length y) room q)))
    (λ q. rw (q, append) (after true (λ p. p) (over (omega arith) (u ++ x) _ (rw length-append (omega arith)) (step u h (length (u ++ x)) refl P))))

same_value : (x : List ℕ) (l : Log) → counted l.value (append x l) ≡ append x l
unfolding append
same_value x l = by_test (leb (l.at + length x) room) (λ q. rw (q, append)) (λ q. rw (q, append))

next_is : (t : Option IrType) (v : ℕ) → v < 65535 → next_value t v ≡ after_result t v
next_is none v h = refl
next_is (some t) v h = omega arith

after_least : (t : Option IrType) (v : ℕ) → after_result t v ≤ suc v
after_least none v = omega arith
after_least (some t) v = omega arith

abbrev node : Instruction → ℕ → InstrNode
node i v = record { result = result_id (result_type i) v; instr = i }

-- ---- The lowering's state and the walk's. The names of the current scope stand apart from those of the scopes around it.
pub data Now (m : ℕ) (Q : List ℕ) (t : Scope) (up : List Scope) (e g : Bool) : FnCtx → LogCtx → Type 0 where
  now : (fid cur count v : ℕ) (ls : List IrType) (bs : List BasicBlock) (l : Log) (k : Marks) → Tied m e Q cur count v bs l k g
      → Now m Q t up e g (record { fid = fid; next_value = v; next_block = count; blocks = bs; current_block = cur; scopes = t ∷ up; locals = ls })
      (record { fid = fid; log = l; next_block = count; current = cur; ended = e; locals = ls; starts = k.starts; stops = k.stops })

module _ {Q : List ℕ} {t : Scope} {up : List Scope} where
  pub value_is : {m : ℕ} {e g : Bool} {c : FnCtx} {d : LogCtx} → Now m Q t up e g c d → g ≡ false → c.next_value ≡ d.log.value
  value_is (now _ _ _ _ _ _ _ _ (whole val len low small P)) q = sym val
  value_is (now _ _ _ _ _ _ _ _ (over high u h long P)) q = true_false q

  pub ended_now : {m : ℕ} {e g : Bool} {c : FnCtx} {d : LogCtx} → Now m Q t up e g c d → (current_block_terminated c ≡ e) × (d.ended ≡ e)
  unfolding current_block_terminated
  ended_now (now _ _ _ _ _ _ _ _ (whole val len low small P)) = (ended_is P, refl)
  ended_now (now _ _ _ _ _ _ _ _ (over high u h long P)) = (ended_is P, refl)

  -- an instruction
  pub push_now : {m : ℕ} {f : Bool} {c : FnCtx} {d : LogCtx} {i j : Instruction} → m ≤ 5 → (f ≡ false → i ≡ j) → Now m Q t up false f c d → After f (λ g. Now 0 Q t up false g (push_instr i c) (push_c j d))
  unfolding log_instr push_instr
  push_now {i = i} {j} few same (now fid cur count v ls bs l k T) =
      then (append_tied T false (update cur (add_instr (node i v)) bs) (after_result (result_type i) v) (next_value (result_type j) l.value) (λ a k. k) (write_tree (instr_tree (node i v))) (write_tree (instr_tree (node j l.value)))
      (λ val q. rw (← same q, val))
      (λ out k a end P. push_parts (node i v) P)
      (λ q val small fits. let x : 6 ≤ length (write_tree (instr_tree (node i v))) = tree_long (instr_tree (node i v)) in rw (← same q, val) (next_is (result_type i) v (omega arith), omega (arith, after_least (result_type i) v)))) λ g le T.
      after g le (now fid cur count _ ls _ _ k T)

  -- a terminator
  pub term_now : {f : Bool} {c : FnCtx} {d : LogCtx} {i j : Terminator} → (f ≡ false → i ≡ j) → Now 0 Q t up false f c d → After f (λ g. Now 0 Q t up true g (set_terminator i c) (terminate j d))
  unfolding log_term set_terminator terminate
  term_now {f} {i = i} {j} same (now fid cur count v ls bs l k T) =
      then (subst (λ (r : Log). After f (Tied 0 true Q cur count v (update cur (put_terminator i) bs) r (stopped cur r.at k))) (same_value (write_tree (term_tree j)) l)
      (append_tied T true (update cur (put_terminator i) bs) v l.value (stopped cur) (write_tree (term_tree i)) (write_tree (term_tree j)) (λ val q. ap (λ (y : Terminator). write_tree (term_tree y)) (same q)) (λ out k a end P. term_parts i a end P) (λ q val small fits. (val, omega arith)))) λ g le T.
      after g le (now fid cur count v ls _ _ _ T)

  -- the next block is open
  pub turn_now : {j : ℕ} {g : Bool} {c : FnCtx} {d : LogCtx} → Now 0 (j ∷ Q) t up true g c d → Now 0 Q t up false g (Lower.switch_to j c) (switch_to j d)
  unfolding Lower.switch_to switch_to
  turn_now {j} (now fid cur count v ls bs l k (whole val len low small P)) = now fid j count v ls bs l _ (whole val len low small (turn_parts l.at (sym len) P))
  turn_now {j} (now fid cur count v ls bs l k (over high u h long P)) = now fid j count v ls bs l (started j l.at k) (over high u _ long (turn_parts (length u) refl P))

  -- ---- scopes
  pub enter : {m : ℕ} {e g : Bool} {c : FnCtx} {d : LogCtx} (s : Scope) → Now m Q t up e g c d → Now m Q s (t ∷ up) e g (Lower.push_scope s c) d
  unfolding set_scopes
  enter s (now fid cur count v ls bs l k T) = now fid cur count v ls bs l k T

  pub define_now : {m : ℕ} {e g : Bool} {c : FnCtx} {d : LogCtx} (n i : ℕ) (y : IrType) → Now m Q t up e g c d → Now m Q ((n, i, y) ∷ t) up e g (define_local n i y c) d
  unfolding set_scopes
  define_now n i y (now fid cur count v ls bs l k T) = now fid cur count v ls bs l k T

pub leave : {m : ℕ} {Q : List ℕ} {s t : Scope} {up : List Scope} {c : FnCtx} {d : LogCtx} {e g : Bool} → Now m Q s (t ∷ up) e g c d → Now m Q t up e g (pop_scope c) d
unfolding set_scopes
leave (now fid cur count v ls bs l k T) = now fid cur count v ls bs l k T

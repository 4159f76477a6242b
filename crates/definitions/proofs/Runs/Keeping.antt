-- The invariant is kept at each of the things that lowering does: the traversal of lowering then keeps it. Assumes nothing.
use Prim.Native.Nat.{ℕ, suc, ◌<◌}
use mathlib.Core.Path.{◌≡◌, refl, sym, ◌∙◌, subst}
use mathlib.Core.List.{List, [], ◌∷◌}
use mathlib.Core.Option.{Option, none, some}
use mathlib.Core.Bool.{true, false}
use lib.ListN.{length, length-append}
use native.Mathlib.Omega.{arith}
use Rattle.definitions.specs.Ast.{Contract, Function}
use Rattle.definitions.specs.Ir.{BasicBlock, Instruction, IrType, Terminator, find, local_read, local_written, operands, result_type}
use Rattle.definitions.specs.Lower.{FnCtx, Value, current_block_terminated, is_terminated, push_instr, result_id, set_scopes, set_terminator, switch_to, with_block, with_local}
use Rattle.definitions.proofs.Results.{last_below}
use Rattle.definitions.proofs.Runs.Safe.{callees, In, here, there, Sub, sub_refl, sub_nil, in_nil, sub_pair, sub_one, in_one, in_right, with_result, TermOk, ids}
use Rattle.definitions.proofs.Runs.Invariant.{Inv, MayPush, push_keeps, term_keeps, weaken, opening, scopes_keep, switch_keeps, local_keeps, grown_keeps, upd, upd_new, upd_old}
use Rattle.definitions.proofs.Traversal.Keeps.{Known, Made, Ends, valued, Keeps}
use Rattle.definitions.proofs.Traversal.Lowering.{id_in_lem}

abbrev pub fns : Contract → ℕ
fns K = length K.functions

-- ---- values and locals without their types
typed_in : (v : ℕ) (H : List Value) → In v (ids H) → (t : IrType) × In (v, t) H
typed_in v [] h = elim h [ ]
typed_in v (x ∷ H) (here e) = (x.1, here (λ i. (e i, x.1)))
typed_in v (x ∷ H) (there i) = let h = typed_in v H i in (h.0, there h.1)

pub sub_ids : {H H' : List Value} → Sub H H' → Sub (ids H) (ids H')
sub_ids {H} f v i = let h = typed_in v H i in id_in_lem (f (v, h.0) h.1)

valued_ids : (o : Option IrType) (n : ℕ) (H : List Value) → ids (valued o n H) ≡ with_result (result_id o n) (ids H)
valued_ids none n H = refl
valued_ids (some t) n H = refl

-- ---- what may be pushed
quiet : {F L : ℕ} {H W : List ℕ} (i : Instruction) → local_read i ≡ [] → local_written i ≡ [] → callees i ≡ [] → Sub (operands i) H → MayPush F L H W i
quiet i r w k o = record { reads = o; written = rw r sub_nil; bound = λ l h. absurd (in_nil (rw (r, w) at h)); calls = λ f h. absurd (in_nil (rw k at h)) }

write_may : {F L : ℕ} {H W : List ℕ} (l v : ℕ) → In v H → l < L → MayPush F L H W (Instruction.WriteLocal l v)
write_may {L = L} l v i h = record { reads = sub_one i; written = sub_nil; bound = λ k g. in_one (λ (x : ℕ). x < L) h g; calls = λ f g. absurd (in_nil g) }

made_may : (K : Contract) {L : ℕ} {H W : List Value} {i : Instruction} → Made K ⊥ H W i → ((l : ℕ) → In l (ids W) → l < L) → MayPush (fns K) L (ids H) (ids W) i
made_may K (Made.const v s) b = quiet _ refl refl refl sub_nil
made_may K (Made.binary op t v w i j) b = quiet _ refl refl refl (sub_pair (id_in_lem i) (sub_one j))
made_may K (Made.load v s f i d h es ei) b = quiet _ refl refl refl (sub_one h)
made_may K (Made.state_read n s es) b = quiet _ refl refl refl sub_nil
made_may K (Made.state_write n v s es h) b = quiet _ refl refl refl (sub_one h)
made_may K {L} (Made.read_local l t i) b = record { reads = sub_nil; written = sub_one (id_in_lem i); bound = λ k g. in_one (λ (x : ℕ). x < L) (b l (id_in_lem i)) g; calls = λ f g. absurd (in_nil g) }
made_may K (Made.write_local l v i j) b = write_may l v j (b l i)
made_may K (Made.call n f args ef a) b = record { reads = a; written = sub_nil; bound = λ l h. absurd (in_nil h); calls = λ g q. in_one (λ (x : ℕ). x < fns K) (omega (arith, last_below (λ (g : Function). g.name) 0 K.functions n f ef)) q }
made_may K (Made.assert v i) b = quiet _ refl refl refl (sub_one i)
made_may K (Made.poseidon v w s) b = quiet _ refl refl refl s
made_may K (Made.emit n args s a) b = quiet _ refl refl refl a
made_may K (Made.context_read k s) b = quiet _ refl refl refl sub_nil

-- a local written at once
pub hold_inv : {F m : ℕ} {ps : List ℕ} {cert : ℕ → List ℕ} {Q H W : List ℕ} {c : FnCtx} (t : IrType) (v : ℕ) → In v H → Inv F m ps cert Q H W c → Inv F m ps cert Q H (length c.locals ∷ W) (push_instr (Instruction.WriteLocal (length c.locals) v) (with_local t c))
unfolding with_local
hold_inv {c = c} t v i I = push_keeps (Instruction.WriteLocal (length c.locals) v) (write_may (length c.locals) v i (simp length-append (omega arith))) (local_keeps t I)

-- ---- a block that has its terminator is not open
is_terminated_lem : (b : BasicBlock) → b.terminator ≡ none → is_terminated (some b) ≡ false
is_terminated_lem b e = rw (e, is_terminated)

true_false : true ≡ false → ⊥
true_false e = let z : ◌≡◌ {A = ℕ} 0 1 = cc in omega arith

ended_inv : {F m : ℕ} {ps : List ℕ} {cert : ℕ → List ℕ} {P H W : List ℕ} {c : FnCtx} → current_block_terminated c ≡ true → Inv F m ps cert (c.current_block ∷ P) H W c → Inv F m ps cert P H W c
unfolding current_block_terminated
ended_inv {P = P} {c = c} t I = record { built = I.built; opens = λ k b e z. out k b e z (I.opens k b e z); spot = I.spot; values = I.values }
  where
    out : (k : ℕ) (b : BasicBlock) → find k c.blocks ≡ some b → b.terminator ≡ none → In k (c.current_block ∷ P) → In k P
    out k b e z (here q) = absurd (true_false (sym t ∙ ((rw (q, e)) ∙ is_terminated_lem b z)))
    out k b e z (there h) = h

-- ---- the invariant, over some certificate that says of the known blocks what is written on entry
module _ (K : Contract) (m : ℕ) (ps : List ℕ) where
  pub record Stands (B : List Known) (Q : List ℕ) (H W : List Value) (c : FnCtx) : Type 0 where
    pub cert : ℕ → List ℕ
    pub inv : Inv (fns K) m ps cert Q (ids H) (ids W) c
    pub entry : cert 0 ≡ []
    pub known : (k : Known) → In k B → (k.0 < c.next_block) × (cert k.0 ≡ ids k.1)

  goes : {B : List Known} {Q : List ℕ} {H W X Y : List Value} {c : FnCtx} (I : Stands B Q H W c) (k : ℕ) → In (k, X) B → Sub X Y → (k < c.next_block) × Sub (I.cert k) (ids Y)
  goes {X = X} I k h s = let e = I.known (k, X) h in (e.0, rw e.1 (sub_ids s))

  ends_ok : {B : List Known} {Q : List ℕ} {H W : List Value} {c : FnCtx} (I : Stands B Q H W c) {t : Terminator} → Ends B H W t → TermOk I.cert c.next_block (ids H) (ids W) t
  ends_ok {W = W} {c} I (Ends.jump k X h s) = record { reads = sub_nil; goes = λ j i. in_one (λ (x : ℕ). (x < c.next_block) × Sub (I.cert x) (ids W)) (goes I k h s) i }
  ends_ok {W = W} {c} I (Ends.branch v k l X Y i h s h' s') = record { reads = sub_one i; goes = go }
    where
      go : (j : ℕ) → In j (k ∷ l ∷ []) → (j < c.next_block) × Sub (I.cert j) (ids W)
      go j (here e) = rw (← e) (goes I k h s)
      go j (there i) = in_one (λ (x : ℕ). (x < c.next_block) × Sub (I.cert x) (ids W)) (goes I l h' s') i
  ends_ok I (Ends.return o s) = record { reads = s; goes = λ k h. absurd (in_nil h) }

  known_more : {B : List Known} {Q : List ℕ} {H W : List Value} {c : FnCtx} (I : Stands B Q H W c) (k : Known) → In k ((c.next_block, W) ∷ B) → (k.0 < suc c.next_block) × (upd I.cert c.next_block (ids W) k.0 ≡ ids k.1)
  known_more {W = W} {c} I k (here e) = subst (λ (x : Known). (x.0 < suc c.next_block) × (upd I.cert c.next_block (ids W) x.0 ≡ ids x.1)) e (omega arith, upd_new I.cert c.next_block (ids W))
  known_more {W = W} {c} I k (there h) = let e = I.known k h in (omega (arith, e.0), upd_old I.cert c.next_block (ids W) k.0 e.0 ∙ e.1)

  pub stands_kept : Keeps K ⊥ Stands
  unfolding push_instr with_block with_local set_scopes switch_to set_terminator
  stands_kept = record {
    weaken = λ q h w I. record { cert = I.cert; inv = weaken (sub_ids h) (sub_ids w) (opening q I.inv); entry = I.entry; known = I.known };
    push = λ {H = H} {W = W} {c = c} {i = i} d I. record { cert = I.cert; inv = rw (valued_ids (result_type i) c.next_value H) (weaken sub_refl (in_right (local_written i) (ids W)) (push_keeps i (made_may K d I.inv.spot.bounded) I.inv)); entry = I.entry; known = I.known };
    hold = λ {t = t} {v = v} f i few I. record { cert = I.cert; inv = hold_inv t v i I.inv; entry = I.entry; known = I.known };
    block = λ {B = B} {W = W} {c = c} few I. record {
      cert = _;
      inv = grown_keeps (ids W) sub_refl I.inv;
      entry = upd_old I.cert c.next_block (ids W) 0 (omega (arith, I.inv.spot.inside)) ∙ I.entry;
      known = known_more I;
    };
    scopes = λ s I. record { cert = I.cert; inv = scopes_keep s I.inv; entry = I.entry; known = I.known };
    switch = λ {k = k} h I. record { cert = I.cert; inv = rw (I.known (k, _) h).1 at (switch_keeps k (I.known (k, _) h).0 I.inv); entry = I.entry; known = I.known };
    term = λ {t = t} o I. record { cert = I.cert; inv = term_keeps t (ends_ok I o) I.inv; entry = I.entry; known = I.known };
    ended = λ q I. record { cert = I.cert; inv = ended_inv q I.inv; entry = I.entry; known = I.known };
  }

-- What lowering keeps true of a function under way, and that each of its primitives keeps it. Assumes nothing.
use Prim.Native.Nat.{ℕ, suc, ◌<◌, ◌≤◌, ◌+◌}
use mathlib.Core.Path.{◌≡◌, refl, sym, ◌∙◌, ap}
use mathlib.Core.Logic.{◌⊎◌, inl, inr}
use mathlib.Core.List.{List, [], ◌∷◌, ◌++◌}
use mathlib.Core.Option.{Option, none, some}
use mathlib.Core.Bool.{true, false}
use lib.Dec.{eqb, ltb}
use lib.ListN.{length, length-append}
use native.Mathlib.Omega.{arith}
use borrow.Author.Tests.{eq-eqb, ne_eqb, ltb-true, ltb-false}
use Rattle.definitions.specs.Ir.{BasicBlock, InstrNode, Instruction, IrType, Terminator, find, local_read, local_written, operands, result_type, update}
use Rattle.definitions.specs.Lower.{FnCtx, add_instr, after_result, empty_block, push_instr, put_terminator, result_id, set_scopes, set_terminator, switch_to, with_block, with_local}
use Rattle.definitions.specs.Verify.{block_ids}
use Rattle.definitions.proofs.Results.{by_test, some_none}
use Rattle.definitions.proofs.Runs.Blocks.{defs, Distinct, ins_in, ins_distinct, ins_length, Case, changed, same, find_other, find_there, cases, first_update, ids_update, defs_same, defs_none, defs_some, find_append_old, find_append_new, only, defs_grown, ids_grown}
use Rattle.definitions.proofs.Runs.Safe.{callees, In, here, there, Sub, sub_trans, sub_cons, sub_nil, in_right, in_either, sub_append, with_result, held_after, written_after, held_snoc, written_snoc, ok_snoc, ok_more, TermOk, entry_held, BlockOk, First, find_hit, find_miss, find_id}

-- ---- the invariant: `H` are held and `W` written at the current spot, `Q` may be open
-- the values that the blocks `bs` define: `m` parameters are numbered before all of them, and the next one is `next`
pub record Values (m : ℕ) (bs : List BasicBlock) (next : ℕ) : Type 0 where
  pub distinct : Distinct (defs bs)
  pub range : (v : ℕ) → In v (defs bs) → (m ≤ v) × (v < next)
  pub after : m ≤ next
  pub blocks : Distinct (block_ids bs)
  pub few : next ≤ m + length (defs bs)

-- `n` blocks and `L` locals
pub record Built (F : ℕ) (ps : List ℕ) (cert : ℕ → List ℕ) (bs : List BasicBlock) (n L : ℕ) : Type 0 where
  pub each : (k : ℕ) (b : BasicBlock) → find k bs ≡ some b → BlockOk F L cert n ps b
  pub found : (k : ℕ) → k < n → (b : BasicBlock) × (find k bs ≡ some b)
  pub absent : (k : ℕ) → n ≤ k → find k bs ≡ none
  pub certs : (k : ℕ) → k < n → (l : ℕ) → In l (cert k) → l < L
  pub first : First bs

-- the end of block `j`
pub record Spot (ps : List ℕ) (cert : ℕ → List ℕ) (H W : List ℕ) (bs : List BasicBlock) (j n L : ℕ) : Type 0 where
  pub inside : j < n
  pub held : (b : BasicBlock) → find j bs ≡ some b → Sub H (held_after (entry_held ps b.id) b.instrs)
  pub written : (b : BasicBlock) → find j bs ≡ some b → Sub W (written_after (cert b.id) b.instrs)
  pub bounded : (l : ℕ) → In l W → l < L

pub record Inv (F m : ℕ) (ps : List ℕ) (cert : ℕ → List ℕ) (Q H W : List ℕ) (c : FnCtx) : Type 0 where
  pub built : Built F ps cert c.blocks c.next_block (length c.locals)
  pub opens : (k : ℕ) (b : BasicBlock) → find k c.blocks ≡ some b → b.terminator ≡ none → In k Q
  pub spot : Spot ps cert H W c.blocks c.current_block c.next_block (length c.locals)
  pub values : Values m c.blocks c.next_value

-- ---- what leaves the blocks alone
pub weaken : {F m : ℕ} {ps : List ℕ} {cert : ℕ → List ℕ} {Q H W H' W' : List ℕ} {c : FnCtx} → Sub H' H → Sub W' W → Inv F m ps cert Q H W c → Inv F m ps cert Q H' W' c
weaken f g I =
    let S = I.spot in
    record { built = I.built; opens = I.opens; spot = record { inside = S.inside; held = λ b e. sub_trans f (S.held b e); written = λ b e. sub_trans g (S.written b e); bounded = λ l h. S.bounded l (g l h) }; values = I.values }

pub opening : {F m : ℕ} {ps : List ℕ} {cert : ℕ → List ℕ} {Q R H W : List ℕ} {c : FnCtx} → Sub Q R → Inv F m ps cert Q H W c → Inv F m ps cert R H W c
opening f I = record { built = I.built; opens = λ k b e z. f k (I.opens k b e z); spot = I.spot; values = I.values }

pub scopes_keep : {F m : ℕ} {ps : List ℕ} {cert : ℕ → List ℕ} {Q H W : List ℕ} {c : FnCtx} (s : List (List (ℕ × ℕ × IrType))) → Inv F m ps cert Q H W c → Inv F m ps cert Q H W (set_scopes s c)
unfolding set_scopes
scopes_keep s I = record { built = I.built; opens = I.opens; spot = I.spot; values = I.values }

written_grows : (W : List ℕ) (ns : List InstrNode) → Sub W (written_after W ns)
written_grows W [] v h = h
written_grows W (n ∷ ns) v h = written_grows (local_written n.instr ++ W) ns v (in_right (local_written n.instr) W v h)

pub switch_keeps : {F m : ℕ} {ps : List ℕ} {cert : ℕ → List ℕ} {Q H W : List ℕ} {c : FnCtx} (k : ℕ) → k < c.next_block → Inv F m ps cert Q H W c → Inv F m ps cert Q [] (cert k) (switch_to k c)
unfolding switch_to
switch_keeps {cert = cert} {c = c} k h I =
    record { built = I.built; opens = I.opens; spot = record { inside = h; held = λ b e. sub_nil; written = λ b e. rw (find_id k c.blocks b e) (written_grows (cert k) b.instrs); bounded = I.built.certs k h }; values = I.values }

-- ---- one more local
pub local_keeps : {F m : ℕ} {ps : List ℕ} {cert : ℕ → List ℕ} {Q H W : List ℕ} {c : FnCtx} (t : IrType) → Inv F m ps cert Q H W c → Inv F m ps cert Q H W (with_local t c)
unfolding with_local
local_keeps {F} {ps = ps} {cert = cert} {c = c} t I =
    let B = I.built in
    let S = I.spot in
    let more : length c.locals ≤ length (c.locals ++ (t ∷ [])) = simp length-append (omega arith) in
    record {
      built = record {
        each = λ k b e. record { code = ok_more F _ _ more (entry_held ps b.id) (cert b.id) b.instrs (B.each k b e).code; end = (B.each k b e).end };
        found = B.found;
        absent = B.absent;
        certs = λ k h l i. omega (arith, B.certs k h l i);
        first = B.first;
      };
      opens = I.opens;
      spot = record { inside = S.inside; held = S.held; written = S.written; bounded = λ l h. omega (arith, S.bounded l h) };
      values = I.values;
    }

-- ---- the current block changed
values_same : {m next : ℕ} (bs bs' : List BasicBlock) → defs bs' ≡ defs bs → Distinct (block_ids bs') → Values m bs next → Values m bs' next
values_same bs bs' e d vs = record { distinct = rw e vs.distinct; range = λ v h. vs.range v (rw e at h); after = vs.after; blocks = d; few = rw e vs.few }

-- what is to be known of the current block once it is changed
record Changed (F : ℕ) (ps : List ℕ) (cert : ℕ → List ℕ) (Q H W : List ℕ) (c : FnCtx) (b : BasicBlock) : Type 0 where
  fine : BlockOk F (length c.locals) cert c.next_block ps b
  opens : b.terminator ≡ none → In c.current_block Q
  held : Sub H (held_after (entry_held ps b.id) b.instrs)
  written : Sub W (written_after (cert b.id) b.instrs)

abbrev changed_by : (BasicBlock → BasicBlock) → ℕ → FnCtx → FnCtx
changed_by g next c = record { fid = c.fid; next_value = next; next_block = c.next_block; blocks = update c.current_block g c.blocks; current_block = c.current_block; scopes = c.scopes; locals = c.locals }

change_keeps : {F m : ℕ} {ps : List ℕ} {cert : ℕ → List ℕ} {Q R H H' W W' : List ℕ} {c : FnCtx} (g : BasicBlock → BasicBlock) (next : ℕ) → ((b : BasicBlock) → (g b).id ≡ b.id)
    → ((a : BasicBlock) → find c.current_block c.blocks ≡ some a → Changed F ps cert R H' W' c (g a))
    → ((k : ℕ) → (k ≡ c.current_block → ⊥) → In k Q → In k R)
    → ((l : ℕ) → In l W' → l < length c.locals)
    → Values m (update c.current_block g c.blocks) next
    → Inv F m ps cert Q H W c
    → Inv F m ps cert R H' W' (changed_by g next c)
change_keeps {F} {m} {ps} {cert} {Q} {R} {H} {H'} {W} {W'} {c} g next keeps mine others bounded values I =
    let B = I.built in
    record {
      built = record {
        each = λ k b e. each k b (cases j g keeps c.blocks k b e);
        found = λ k h. find_there j g keeps c.blocks k (B.found k h).0 (B.found k h).1;
        absent = λ k h. find_other j g keeps k (λ e. omega (arith, I.spot.inside)) c.blocks ∙ B.absent k h;
        certs = B.certs;
        first = first_update j g keeps c.blocks B.first;
      };
      opens = λ k b e z. opens k b z (cases j g keeps c.blocks k b e);
      spot = record { inside = I.spot.inside; held = λ b e. (is b e).held; written = λ b e. (is b e).written; bounded = bounded };
      values = values;
    }
  where
    j : ℕ
    j = c.current_block

    is : (b : BasicBlock) → find j (update j g c.blocks) ≡ some b → Changed F ps cert R H' W' c b
    is b e = go (cases j g keeps c.blocks j b e)
      where
        go : Case j g c.blocks j b → Changed F ps cert R H' W' c b
        go (changed a ea eb ek) = rw eb (mine a ea)
        go (same e ne) = absurd (ne refl)

    each : (k : ℕ) (b : BasicBlock) → Case j g c.blocks k b → BlockOk F (length c.locals) cert c.next_block ps b
    each k b (changed a ea eb ek) = rw eb (mine a ea).fine
    each k b (same e ne) = I.built.each k b e

    opens : (k : ℕ) (b : BasicBlock) → b.terminator ≡ none → Case j g c.blocks k b → In k R
    opens k b z (changed a ea eb ek) = rw ek ((mine a ea).opens (rw eb at z))
    opens k b z (same e ne) = others k ne (I.opens k b e z)

term_more : {cert : ℕ → List ℕ} {n : ℕ} {H W H' W' : List ℕ} {t : Terminator} → Sub H H' → Sub W W' → TermOk cert n H W t → TermOk cert n H' W' t
term_more f g o = record { reads = sub_trans o.reads f; goes = λ k i. ((o.goes k i).0, sub_trans (o.goes k i).1 g) }

-- ---- an instruction
-- what it may be pushed with
pub record MayPush (F L : ℕ) (H W : List ℕ) (i : Instruction) : Type 0 where
  pub reads : Sub (operands i) H
  pub written : Sub (local_read i) W
  pub bound : (l : ℕ) → In l (local_read i ++ local_written i) → l < L
  pub calls : (f : ℕ) → In f (callees i) → f < F

sub_result : (r : Option ℕ) {a b : List ℕ} → Sub a b → Sub (with_result r a) (with_result r b)
sub_result none f = f
sub_result (some v) f = sub_cons f

sub_with : (r : Option ℕ) {a : List ℕ} → Sub a (with_result r a)
sub_with none v h = h
sub_with (some x) v h = there h

typed_result : (t : Option IrType) (x v : ℕ) → result_id t x ≡ some v → (u : IrType) × (t ≡ some u)
typed_result none x v e = absurd (some_none v (sym e))
typed_result (some u) x v e = (u, refl)

values_push : {m : ℕ} (i : Instruction) (t : Option IrType) (j : ℕ) (bs : List BasicBlock) (next : ℕ) (a : BasicBlock) → find j bs ≡ some a → Values m bs next → Values m (update j (add_instr (record { result = result_id t next; instr = i })) bs) (after_result t next)
values_push i none j bs next a ea vs = values_same bs _ (defs_none j i bs) (rw (ids_update j (add_instr (record { result = none; instr = i })) (λ b. refl) bs) vs.blocks) vs
values_push {m} i (some t) j bs next a ea vs =
    let ins = defs_some j next i bs a ea in
    record {
      distinct = ins_distinct ins (λ h. omega (arith, vs.range next h)) vs.distinct;
      range = λ v h. range v (ins_in ins h);
      after = omega (arith, vs.after);
      blocks = rw (ids_update j (add_instr (record { result = some next; instr = i })) (λ b. refl) bs) vs.blocks;
      few = omega (arith, vs.few, ins_length ins);
    }
  where
    range : (v : ℕ) → In v (defs bs) ⊎ (next ≡ v) → (m ≤ v) × (v < suc next)
    range v (inl h) = omega (arith, vs.range v h)
    range v (inr e) = omega (arith, vs.after)

pub push_keeps : {F m : ℕ} {ps : List ℕ} {cert : ℕ → List ℕ} {Q H W : List ℕ} {c : FnCtx} (i : Instruction) → MayPush F (length c.locals) H W i → Inv F m ps cert Q H W c → Inv F m ps cert Q (with_result (result_id (result_type i) c.next_value) H) (local_written i ++ W) (push_instr i c)
unfolding push_instr
push_keeps {F} {m} {ps} {cert} {Q} {H} {W} {c} i may I =
    let here = I.built.found c.current_block I.spot.inside in
    change_keeps (add_instr n) (after_result (result_type i) c.next_value) (λ b. refl) mine (λ k ne h. h) (λ l h. bounded l (in_either (local_written i) W l h))
    (values_push i (result_type i) c.current_block c.blocks c.next_value here.0 here.1 I.values) I
  where
    n : InstrNode
    n = record { result = result_id (result_type i) c.next_value; instr = i }

    mine : (a : BasicBlock) → find c.current_block c.blocks ≡ some a → Changed F ps cert Q (with_result n.result H) (local_written i ++ W) c (add_instr n a)
    mine a ea =
        let h = I.spot.held a ea in
        let w = I.spot.written a ea in
        let o = I.built.each c.current_block a ea in
        record {
          fine = record {
            code = ok_snoc F (length c.locals) (entry_held ps a.id) (cert a.id) a.instrs n o.code (record { reads = sub_trans may.reads h; written = sub_trans may.written w; bound = may.bound; calls = may.calls; typed = λ v e. typed_result (result_type i) c.next_value v e });
            end = λ t e. rw (held_snoc (entry_held ps a.id) a.instrs n, written_snoc (cert a.id) a.instrs n) (term_more (sub_with n.result) (in_right (local_written i) _) (o.end t e));
          };
          opens = I.opens c.current_block a ea;
          held = rw (held_snoc (entry_held ps a.id) a.instrs n) (sub_result n.result h);
          written = rw (written_snoc (cert a.id) a.instrs n) (sub_append (local_written i) w);
        }

    bounded : (l : ℕ) → In l (local_written i) ⊎ In l W → l < length c.locals
    bounded l (inl h) = may.bound l (in_right (local_read i) (local_written i) l h)
    bounded l (inr h) = I.spot.bounded l h

-- ---- a terminator
pub term_keeps : {F m : ℕ} {ps : List ℕ} {cert : ℕ → List ℕ} {P H W : List ℕ} {c : FnCtx} (t : Terminator) → TermOk cert c.next_block H W t → Inv F m ps cert (c.current_block ∷ P) H W c → Inv F m ps cert P H W (set_terminator t c)
unfolding set_terminator
term_keeps {F} {m} {ps} {cert} {P} {H} {W} {c} t may I =
    let j = c.current_block in
    let bs = c.blocks in
    change_keeps (put_terminator t) c.next_value (λ b. refl) mine others I.spot.bounded
    (values_same bs (update j (put_terminator t) bs) (defs_same j (put_terminator t) (λ b. refl) (λ b. refl) bs) (rw (ids_update j (put_terminator t) (λ b. refl) bs) I.values.blocks) I.values) I
  where
    mine : (a : BasicBlock) → find c.current_block c.blocks ≡ some a → Changed F ps cert P H W c (put_terminator t a)
    mine a ea =
        let h = I.spot.held a ea in
        let w = I.spot.written a ea in
        record {
          fine = record { code = (I.built.each c.current_block a ea).code; end = λ u e. let tu : t ≡ u = cc in rw (← tu) (term_more h w may) };
          opens = λ z. absurd (some_none t z);
          held = h;
          written = w;
        }

    others : (k : ℕ) → (k ≡ c.current_block → ⊥) → In k (c.current_block ∷ P) → In k P
    others k ne (here q) = absurd (ne (sym q))
    others k ne (there h) = h

-- ---- one more block
abbrev pub upd : (ℕ → List ℕ) → ℕ → List ℕ → ℕ → List ℕ
upd cert n W k = elim (eqb k n) [ true ↦ W | false ↦ cert k ]

pub upd_new : (cert : ℕ → List ℕ) (n : ℕ) (W : List ℕ) → upd cert n W n ≡ W
upd_new cert n W = rw (eq-eqb n n refl, upd)

pub upd_old : (cert : ℕ → List ℕ) (n : ℕ) (W : List ℕ) (k : ℕ) → k < n → upd cert n W k ≡ cert k
upd_old cert n W k h = rw (ne_eqb k n (λ e. omega arith), upd)

-- a certificate that says the same of the blocks so far
abbrev pub Agree : ℕ → (ℕ → List ℕ) → (ℕ → List ℕ) → Type 0
Agree n cert cert' = (k : ℕ) → k < n → cert' k ≡ cert k

cert_more : {n n' : ℕ} {cert cert' : ℕ → List ℕ} {H W : List ℕ} {t : Terminator} → Agree n cert cert' → n ≤ n' → TermOk cert n H W t → TermOk cert' n' H W t
cert_more agree h o = record { reads = o.reads; goes = λ k i. (omega (arith, (o.goes k i).0), λ v j. (o.goes k i).1 v (rw (agree k (o.goes k i).0) at j)) }

block_more : (F L : ℕ) (ps : List ℕ) (n n' : ℕ) (cert cert' : ℕ → List ℕ) (b : BasicBlock) → Agree n cert cert' → n ≤ n' → b.id < n → BlockOk F L cert n ps b → BlockOk F L cert' n' ps b
block_more F L ps n n' cert cert' b agree h k o = record { code = rw (agree b.id k) o.code; end = λ t e. rw (agree b.id k) (cert_more agree h (o.end t e)) }

pub grown_keeps : {F m : ℕ} {ps : List ℕ} {cert : ℕ → List ℕ} {Q H W : List ℕ} {c : FnCtx} (X : List ℕ) → Sub X W → Inv F m ps cert Q H W c → Inv F m ps (upd cert c.next_block X) (c.next_block ∷ Q) H W (with_block c)
unfolding with_block
grown_keeps {F} {m} {ps} {cert} {Q} {H} {W} {c} X small I =
    record {
      built = record {
        each = λ k b e. each k b (was k b e);
        found = found;
        absent = λ k h. find_append_new k c.blocks (empty_block n) (B.absent k (omega (arith, h))) ∙ find_miss k (empty_block n) [] (ne_eqb n k (λ q. omega (arith, h)));
        certs = certs;
        first = (B.first.0, (B.first.1.0 ++ (empty_block n ∷ []), ap (λ (l : List BasicBlock). l ++ (empty_block n ∷ [])) B.first.1.1, B.first.1.2));
      };
      opens = λ k b e z. opens k b z (was k b e);
      spot = record {
        inside = omega (arith, S.inside);
        held = λ b e. S.held b (old S.inside e);
        written = λ b e. rw (agree b.id (rw (find_id c.current_block c.blocks b (old S.inside e)) S.inside)) (S.written b (old S.inside e));
        bounded = S.bounded;
      };
      values = values_same c.blocks (c.blocks ++ (empty_block n ∷ [])) (defs_grown c.blocks n) (ids_grown n c.blocks (B.absent n (omega arith)) I.values.blocks) I.values;
    }
  where
    n : ℕ
    n = c.next_block

    B : Built F ps cert c.blocks n (length c.locals)
    B = I.built

    S : Spot ps cert H W c.blocks c.current_block n (length c.locals)
    S = I.spot

    cert' : ℕ → List ℕ
    cert' = upd cert n X

    agree : Agree n cert cert'
    agree k h = upd_old cert n X k h

    old : {k : ℕ} {b : BasicBlock} → k < n → find k (c.blocks ++ (empty_block n ∷ [])) ≡ some b → find k c.blocks ≡ some b
    old {k} {b} h e = cc ((B.found k h).1, find_append_old k c.blocks (empty_block n) (B.found k h).0 (B.found k h).1)

    -- an old block, or the new one
    Was : ℕ → BasicBlock → Type 0
    Was k b = ((k < n) × (find k c.blocks ≡ some b)) ⊎ ((b ≡ empty_block n) × (n ≡ k))

    was : (k : ℕ) (b : BasicBlock) → find k (c.blocks ++ (empty_block n ∷ [])) ≡ some b → Was k b
    was k b e =
        by_test (ltb k n)
        (λ q. inl (ltb-true k n q, old (ltb-true k n q) e))
        (λ q. inr (only n k b (sym (find_append_new k c.blocks (empty_block n) (B.absent k (ltb-false k n q))) ∙ e)))

    each : (k : ℕ) (b : BasicBlock) → Was k b → BlockOk F (length c.locals) cert' (suc n) ps b
    each k b (inl o) = block_more F (length c.locals) ps n (suc n) cert cert' b agree (omega arith) (rw (find_id k c.blocks b o.1) o.0) (B.each k b o.1)
    each k b (inr o) = rw o.0 (record { code = tt; end = λ t e. absurd (some_none t (sym e)) })

    opens : (k : ℕ) (b : BasicBlock) → b.terminator ≡ none → Was k b → In k (n ∷ Q)
    opens k b z (inl o) = there (I.opens k b o.1 z)
    opens k b z (inr o) = here o.1

    found : (k : ℕ) → k < suc n → (b : BasicBlock) × (find k (c.blocks ++ (empty_block n ∷ [])) ≡ some b)
    found k h =
        by_test (ltb k n)
        (λ q. let f = B.found k (ltb-true k n q) in (f.0, find_append_old k c.blocks (empty_block n) f.0 f.1))
        (λ q. (empty_block n, find_append_new k c.blocks (empty_block n) (B.absent k (ltb-false k n q)) ∙ find_hit k (empty_block n) [] (eq-eqb n k (omega (arith, ltb-false k n q)))))

    certs : (k : ℕ) → k < suc n → (l : ℕ) → In l (cert' k) → l < length c.locals
    certs k h l i =
        by_test (ltb k n)
        (λ q. B.certs k (ltb-true k n q) l (rw (agree k (ltb-true k n q)) at i))
        (λ q. let kn : k ≡ n = omega (arith, ltb-false k n q) in S.bounded l (small l (rw (upd_new cert n X) at (rw kn at i))))

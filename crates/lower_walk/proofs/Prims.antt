-- Each primitive of lowering keeps the parts. Assumes nothing.
use Prim.Native.Nat.{ℕ, suc, ◌+◌, ◌<◌}
use mathlib.Core.Path.{◌≡◌, refl, sym, ◌∙◌, ap, subst}
use mathlib.Core.Logic.{◌⊎◌, inl, inr}
use mathlib.Core.List.{List, [], ◌∷◌, ◌++◌, append_assoc, append-nil}
use mathlib.Core.Option.{some}
use mathlib.Core.Bool.{Bool, true, false}
use lib.Dec.{eqb}
use lib.ListN.{length, length-append, get_or, set, length-set}
use lib.Seq.{get_or-set_same, get_or-set_other}
use native.Mathlib.Omega.{arith}
use native.Mathlib.Nat.{zero-add}
use borrow.Author.Tests.{eqb-true, eqb-false}
use Rattle.definitions.specs.Ir.{Terminator, InstrNode, BasicBlock, find, update}
use Rattle.definitions.specs.Lower.{empty_block, add_instr, put_terminator, is_terminated}
use Rattle.definitions.specs.Verify.{block_ids}
use Rattle.definitions.specs.Records.{write_tree, write_trees}
use Rattle.definitions.specs.ProgramSheet.{instr_tree, term_tree}
use Rattle.definitions.proofs.Results.{by_test}
use Rattle.definitions.proofs.Runs.Safe.{In, here, there}
use Rattle.definitions.proofs.Runs.Blocks.{find_other, find_mine, find_append_old, ids_update, Ins, now, later, ins_in, ins_distinct}
use Rattle.lower_walk.proofs.Parts.{Marks, written, Closed, Here, opened, closed, Parts, closed_more, added, ended, weight_update, weight_snoc, ids_none, ids_snoc, find_new, find_old}

abbrev pub stopped : (cur a : ℕ) → Marks → Marks
stopped cur a k = record { starts = k.starts; stops = set k.stops cur a }

abbrev pub started : (cur a : ℕ) → Marks → Marks
started cur a k = record { starts = set k.starts cur a; stops = k.stops }

pub true_false : {A : Type 0} → true ≡ false → A
true_false e = absurd (let z : ◌≡◌ {A = ℕ} 0 1 = cc in omega arith)

-- the current block's bytes grow by x, and the log by the same
module _ {Q : List ℕ} {cur count : ℕ} {bs : List BasicBlock} {out : List ℕ} {k : Marks} (g : BasicBlock → BasicBlock) (keeps : (b : BasicBlock) → (g b).id ≡ b.id) (x : List ℕ) (P : Parts false Q cur count bs out k) where
  others : (j : ℕ) (b : BasicBlock) → find j (update cur g bs) ≡ some b → (In j Q → ⊥) → (j ≡ cur → ⊥) → Closed (out ++ x) (get_or k.starts j 0) (get_or k.stops j 0) (written b)
  others j b e not ne = closed_more x (P.each j b (sym (find_other cur g keeps j ne bs) ∙ e) not (λ q. absurd (ne q)))

  stands : (b : BasicBlock) (pre : List ℕ) → out ≡ pre ++ written b → written (g b) ≡ written b ++ x → out ++ x ≡ pre ++ written (g b)
  stands b pre o e = rw (o, e, append_assoc)

  grown : {e : Bool} {h : Marks} (b : BasicBlock) → find cur bs ≡ some b → written (g b) ≡ written b ++ x → length h.starts ≡ 256 → length h.stops ≡ 256 → Here cur (update cur g bs) (out ++ x) h e
      → ((j : ℕ) (b : BasicBlock) → find j (update cur g bs) ≡ some b → (In j Q → ⊥) → (j ≡ cur → e ≡ true) → Closed (out ++ x) (get_or h.starts j 0) (get_or h.stops j 0) (written b)) → Parts e Q cur count (update cur g bs) (out ++ x) h
  grown b f e starts stops spot each =
      record {
        spot = spot;
        each = each;
        fresh = λ j i. find_other cur g keeps j (λ e. P.distinct.0 (subst (λ (h : ℕ). In h Q) e i)) bs ∙ P.fresh j i;
        ids = ids_update cur g keeps bs ∙ P.ids;
        distinct = P.distinct;
        below = P.below;
        few = P.few;
        starts = starts;
        stops = stops;
        total = weight_update cur g keeps bs b (length x) f (ap length e ∙ length-append (written b) x) ∙ (ap (λ (n : ℕ). n + length x) P.total ∙ sym (length-append out x));
      }

pub push_parts : {Q : List ℕ} {cur count : ℕ} {bs : List BasicBlock} {out : List ℕ} {k : Marks} (n : InstrNode) → Parts false Q cur count bs out k → Parts false Q cur count (update cur (add_instr n) bs) (out ++ write_tree (instr_tree n)) k
push_parts {Q} {cur} {count} {bs} {out} {k} n P = go P.spot
  where
    x : List ℕ
    x = write_tree (instr_tree n)

    go : Here cur bs out k false → Parts false Q cur count (update cur (add_instr n) bs) (out ++ x) k
    go (opened b pre f t o st) =
        grown (add_instr n) (λ b. refl) x P b f (added n b t) P.starts P.stops
        (opened (add_instr n b) pre (find_mine cur (add_instr n) (λ b. refl) bs b f) t (stands (add_instr n) (λ b. refl) x P b pre o (added n b t)) st)
        (λ j b' e not c. others (add_instr n) (λ b. refl) x P j b' e not (λ q. true_false (sym (c q))))

-- `a` is the log's end
pub term_parts : {Q : List ℕ} {cur count : ℕ} {bs : List BasicBlock} {out : List ℕ} {k : Marks} (t : Terminator) (a : ℕ) → a ≡ length (out ++ write_tree (term_tree t)) → Parts false Q cur count bs out k → Parts true Q cur count (update cur (put_terminator t) bs) (out ++ write_tree (term_tree t)) (stopped cur a k)
term_parts {Q} {cur} {count} {bs} {out} {k} t a end P = go P.spot
  where
    x : List ℕ
    x = write_tree (term_tree t)

    go : Here cur bs out k false → Parts true Q cur count (update cur (put_terminator t) bs) (out ++ x) (stopped cur a k)
    go (opened b pre f tn o st) =
        grown (put_terminator t) (λ b. refl) x P b f (ended t b tn) P.starts (length-set k.stops cur a ∙ P.stops)
        (closed (put_terminator t b) (find_mine cur (put_terminator t) (λ b. refl) bs b f) refl)
        λ j b' e not c.
        by_test (eqb j cur)
        (λ q.
        let jc : j ≡ cur = eqb-true j cur q in
        let bb : b' ≡ put_terminator t b = cc (find_mine cur (put_terminator t) (λ b. refl) bs b f) in
        rw (jc, bb) (record { pre = pre; post = []; is = whole ∙ ap (λ (l : List ℕ). pre ++ l) (sym (append-nil (written (put_terminator t b)))); start = st; stop = get_or-set_same k.stops cur a 0 inside ∙ (end ∙ (ap length whole ∙ length-append pre (written (put_terminator t b)))) }))
        (λ q. rw (get_or-set_other k.stops cur j a 0 (eqb-false j cur q)) (others (put_terminator t) (λ b. refl) x P j b' e not (eqb-false j cur q)))
      where
        inside : cur < length k.stops
        inside = let h : cur < count = P.below cur (here refl) in omega (arith, P.few, P.stops)

        whole : out ++ x ≡ pre ++ written (put_terminator t b)
        whole = stands (put_terminator t) (λ b. refl) x P b pre o (ended t b tn)

ins_new : {x : ℕ} {a b : List ℕ} → Ins x a b → In x b
ins_new now = here refl
ins_new (later i) = there (ins_new i)

ins_old : {x v : ℕ} {a b : List ℕ} → Ins x a b → In v a → In v b
ins_old now h = there h
ins_old (later i) (here e) = here e
ins_old (later i) (there h) = there (ins_old i h)

block_parts : {e : Bool} {Q Q' : List ℕ} {cur count : ℕ} {bs : List BasicBlock} {out : List ℕ} {k : Marks} → Ins count Q Q' → count < 256 → Parts e Q cur count bs out k → Parts e Q' cur (suc count) (bs ++ (empty_block count ∷ [])) out k
block_parts {e} {Q} {Q'} {cur} {count} {bs} {out} {k} i room P =
    record {
      spot = spot P.spot;
      each = λ j b f not c. P.each j b (sym (find_old j count (λ q. not (subst (λ (h : ℕ). In h Q') (sym q) (ins_new i))) bs) ∙ f) (λ h. not (ins_old i h)) c;
      fresh = λ j h. fresh j (ins_in i h);
      ids = ap (λ (m : ℕ). block_ids (bs ++ (empty_block m ∷ []))) (sym (zero-add count)) ∙ ids_snoc 0 count bs P.ids;
      distinct = ins_distinct (later i) (λ h. less (P.below count h)) P.distinct;
      below = λ j h. below j (ins_in (later i) h);
      few = room;
      starts = P.starts;
      stops = P.stops;
      total = weight_snoc bs count ∙ P.total;
    }
  where
    less : count < count → ⊥
    less h = omega arith

    spot : {y : Bool} → Here cur bs out k y → Here cur (bs ++ (empty_block count ∷ [])) out k y
    spot (opened b pre f t o st) = opened b pre (find_append_old cur bs (empty_block count) b f) t o st
    spot (closed b f t) = closed b (find_append_old cur bs (empty_block count) b f) t

    fresh : (j : ℕ) → In j Q ⊎ (count ≡ j) → find j (bs ++ (empty_block count ∷ [])) ≡ some (empty_block j)
    fresh j (inl h) = find_append_old j bs (empty_block count) (empty_block j) (P.fresh j h)
    fresh j (inr q) = subst (λ (h : ℕ). find h (bs ++ (empty_block count ∷ [])) ≡ some (empty_block h)) q (find_new count bs (ap (λ (m : ℕ). find m bs) (sym (zero-add count)) ∙ ids_none 0 count bs P.ids))

    below : (j : ℕ) → In j (cur ∷ Q) ⊎ (count ≡ j) → j < suc count
    below j (inl h) = omega (arith, P.below j h)
    below j (inr q) = omega arith

-- three blocks in a row, the first to be switched to first
pub three_parts : {e : Bool} {Q : List ℕ} {cur count : ℕ} {bs : List BasicBlock} {out : List ℕ} {k : Marks} → suc (suc count) < 256 → Parts e Q cur count bs out k
    → Parts e (count ∷ suc count ∷ suc (suc count) ∷ Q) cur (suc (suc (suc count))) (((bs ++ (empty_block count ∷ [])) ++ (empty_block (suc count) ∷ [])) ++ (empty_block (suc (suc count)) ∷ [])) out k
three_parts room P = block_parts (later (later now)) (omega arith) (block_parts (later now) (omega arith) (block_parts now (omega arith) P))

-- `a` is the log's end
pub turn_parts : {j : ℕ} {Q : List ℕ} {cur count : ℕ} {bs : List BasicBlock} {out : List ℕ} {k : Marks} (a : ℕ) → a ≡ length out → Parts true (j ∷ Q) cur count bs out k → Parts false Q j count bs out (started j a k)
unfolding write_trees
turn_parts {j} {Q} {cur} {count} {bs} {out} {k} a end P =
    record {
      spot = opened (empty_block j) out (P.fresh j (here refl)) refl (sym (append-nil out)) (get_or-set_same k.starts j a 0 inside ∙ end);
      each = each;
      fresh = λ h i. P.fresh h (there i);
      ids = P.ids;
      distinct = P.distinct.1;
      below = λ h i. P.below h (there i);
      few = P.few;
      starts = length-set k.starts j a ∙ P.starts;
      stops = P.stops;
      total = P.total;
    }
  where
    inside : j < length k.starts
    inside = let h : j < count = P.below j (there (here refl)) in omega (arith, P.few, P.starts)

    each : (h : ℕ) (b : BasicBlock) → find h bs ≡ some b → (In h Q → ⊥) → (h ≡ j → false ≡ true) → Closed out (get_or (set k.starts j a) h 0) (get_or k.stops h 0) (written b)
    each h b f not c =
        let ne : h ≡ j → ⊥ = λ q. true_false (sym (c q)) in
        rw (get_or-set_other k.starts j h a 0 ne) (P.each h b f (new ne) (λ q. refl))
      where
        new : (h ≡ j → ⊥) → In h (j ∷ Q) → ⊥
        new ne (here q) = ne (sym q)
        new ne (there i) = not i

-- what is asked of the current block
pub ended_is : {e : Bool} {Q : List ℕ} {cur count : ℕ} {bs : List BasicBlock} {out : List ℕ} {k : Marks} → Parts e Q cur count bs out k → is_terminated (find cur bs) ≡ e
ended_is {e} {Q} {cur} {count} {bs} {out} {k} P = go P.spot
  where
    go : {y : Bool} → Here cur bs out k y → is_terminated (find cur bs) ≡ y
    go (opened b pre f t o st) = rw (f, is_terminated, t)
    go (closed b f t) = rw f t

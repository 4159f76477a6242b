-- The steps of a statement beside its expressions: locals, blocks, and the ends of blocks. Assumes nothing.
use Prim.Native.Nat.{ℕ, suc, ◌≤◌, ◌<◌}
use mathlib.Core.Path.{◌≡◌, refl, ap, ap₂}
use mathlib.Core.List.{List, [], ◌∷◌, ◌++◌}
use mathlib.Core.Bool.{Bool, true, false}
use lib.Dec.{ltb}
use lib.ListN.{length}
use native.Mathlib.Omega.{arith}
use native.Mathlib.Numerals.{add-one, add-two, add-three}
use borrow.Author.Tests.{ltb-true, lt-ltb}
use Rattle.definitions.specs.Result.{ok, ◌>>=◌}
use Rattle.definitions.specs.Ast.{BinOp}
use Rattle.definitions.specs.Ir.{IrType, Instruction, Terminator, BasicBlock}
use Rattle.definitions.specs.Lower.{LoweringError, Lowering, FnCtx, Scope, empty_block, with_block, fresh_block, fresh_local, push_instr, current_block_terminated}
use Rattle.definitions.specs.Lower
use Rattle.definitions.proofs.Results.{by_test}
use Rattle.lower_walk.specs.Log.{Log}
use Rattle.lower_walk.specs.Held.{Held}
use Rattle.lower_walk.specs.Stmts.{LogCtx, ThreeBlocks, Bounds, init_local, three_blocks, terminate_if_open, for_header, for_next, for_step}
use Rattle.lower_walk.proofs.Parts.{Marks}
use Rattle.lower_walk.proofs.Prims.{three_parts}
use Rattle.lower_walk.proofs.Tied.{Tied, whole, over, Later, After, after, then, same, Now, now, value_is, ended_now, push_now, term_now}
use Rattle.lower_walk.proofs.Related.{Rel, bad, good, joined}

three_tied : {m : ℕ} {e : Bool} {Q : List ℕ} {cur count v : ℕ} {bs : List BasicBlock} {l : Log} {k : Marks} {g : Bool} → suc (suc count) < 256 → Tied m e Q cur count v bs l k g → Tied m e (count ∷ suc count ∷ suc (suc count) ∷ Q) cur (suc (suc (suc count))) v (((bs ++ (empty_block count ∷ [])) ++ (empty_block (suc count) ∷ [])) ++ (empty_block (suc (suc count)) ∷ [])) l k g
three_tied few (whole val len low small P) = whole val len low small (three_parts few P)
three_tied few (over high u h long P) = over high u h long (three_parts few P)

-- after the statements of a body, whose own names are of no matter any more; and after a statement
pub record Bodied (Q : List ℕ) (up : List Scope) (c : FnCtx) (d : LogCtx) : Type 0 where
  pub ended : Bool
  pub own : Scope
  pub lost : Bool
  pub now : Now 0 Q own up ended lost c d

pub record Stated (Q : List ℕ) (up : List Scope) (c : FnCtx) (p : LogCtx × Held) : Type 0 where
  pub body : Bodied Q up c p.0
  pub held : p.1 ≡ joined (body.own ∷ up)

pub bodied : {Q : List ℕ} {t : Scope} {up : List Scope} {e g : Bool} {c : FnCtx} {d : LogCtx} → Now 0 Q t up e g c d → Rel (Bodied Q up) (ok c) (ok d)
bodied {t = t} {e = e} {g} N = good _ _ (record { ended = e; own = t; lost = g; now = N })

pub stated : {Q : List ℕ} {t : Scope} {up : List Scope} {e g : Bool} {c : FnCtx} {d : LogCtx} → Now 0 Q t up e g c d → Rel (Stated Q up) (ok c) (ok (d, joined (t ∷ up)))
stated {t = t} {e = e} {g} N = good _ _ (record { body = record { ended = e; own = t; lost = g; now = N }; held = refl })

module _ {C D : Type 0} {R : C → D → Type 0} {Q : List ℕ} {t : Scope} {up : List Scope} where
  -- a local
  pub init_same : {m : ℕ} {f : Bool} {c : FnCtx} {d : LogCtx} {n n' : ℕ} (h : FnCtx × ℕ → Lowering C) (h' : LogCtx × ℕ → Lowering D) → m ≤ 5 → (y : IrType) → (f ≡ false → n ≡ n') → Now m Q t up false f c d
      → ((c₁ : FnCtx) (d : LogCtx) (i : ℕ) (g : Bool) → Later f g → c₁.next_value ≡ c.next_value → Now 0 Q t up false g c₁ d → Rel R (h (c₁, i)) (h' (d, i))) → Rel R (Lower.init_local y n c >>= h) (init_local y n' d >>= h')
  unfolding Lower.init_local fresh_local Lower.with_local push_instr init_local
  init_same h h' few y e (now fid cur count v ls bs l k T) more =
      by_test (ltb (length ls) 256)
      (λ q.
      rw (q, fresh_local, init_local) (
      then (push_now few (λ p. ap (Instruction.WriteLocal (length ls)) (e p)) (now fid cur count v (ls ++ (y ∷ [])) bs l k T)) λ g le N.
      more _ _ (length ls) g le refl N))
      (λ q. rw (q, fresh_local, init_local) (bad (LoweringError.TooManyBlocksOrLocals fid)))

  -- blocks
  pub three_same : {g : Bool} {c : FnCtx} {d : LogCtx} (h : FnCtx × ℕ × ℕ × ℕ → Lowering C) (h' : LogCtx × ThreeBlocks → Lowering D) → Now 0 Q t up false g c d
      → ((c : FnCtx) (d : LogCtx) (a b z : ℕ) → Now 0 (a ∷ b ∷ z ∷ Q) t up false g c d → Rel R (h (c, a, b, z)) (h' (d, record { first = a; second = b; third = z }))) → Rel R (Lower.three_blocks c >>= h) (three_blocks d >>= h')
  unfolding Lower.three_blocks fresh_block with_block three_blocks
  three_same h h' (now fid cur count v ls bs l k T) more =
      rw (add-one count, add-two count, add-three count) (
      by_test (ltb (suc (suc count)) 256)
      (λ q.
      let few : suc (suc count) < 256 = ltb-true (suc (suc count)) 256 q in
      rw (lt-ltb count 256 (omega arith), lt-ltb (suc count) 256 (omega arith), q, Lower.three_blocks, fresh_block) (more _ _ _ _ _ (now fid cur _ v ls _ l k (three_tied few T))))
      (λ q.
      by_test (ltb count 256)
      (λ p. by_test (ltb (suc count) 256) (λ o. rw (p, o, q, Lower.three_blocks, fresh_block) (bad _)) (λ o. rw (p, o, q, Lower.three_blocks, fresh_block) (bad _)))
      (λ p. rw (p, q, Lower.three_blocks, fresh_block) (bad _))))

-- ---- ends of blocks
module _ {Q : List ℕ} {t : Scope} {up : List Scope} where
  -- a block is ended unless it is so already
  if_open : {e g : Bool} {c c₁ : FnCtx} {d d₁ : LogCtx} → Now 0 Q t up e g c d → (Now 0 Q t up false g c d → After g (λ g. Now 0 Q t up true g c₁ d₁))
      → After g (λ g. Now 0 Q t up true g (elim (current_block_terminated c) [ true ↦ c | false ↦ c₁ ]) (elim d.ended [ true ↦ d | false ↦ d₁ ]))
  if_open {e = true} {g} N more = rw ((ended_now N).0, (ended_now N).1) (after g (λ q. q) N)
  if_open {e = false} N more = rw ((ended_now N).0, (ended_now N).1) (more N)

  pub close_now : (y : Terminator) {e g : Bool} {c : FnCtx} {d : LogCtx} → Now 0 Q t up e g c d → After g (λ g. Now 0 Q t up true g (Lower.terminate_if_open y c) (terminate_if_open y d))
  unfolding Lower.terminate_if_open terminate_if_open
  close_now y N = if_open N (λ N. term_now (same y) N)

  pub header_now : (i : Bounds) (body exit : ℕ) {g : Bool} {c : FnCtx} {d : LogCtx} → Now 0 Q t up false g c d → After g (λ g. Now 0 Q t up true g (Lower.for_header i.var i.end body exit c) (for_header i body exit d))
  unfolding Lower.for_header for_header
  header_now i body exit N =
      then (push_now (omega arith) (same (Instruction.ReadLocal i.var IrType.U64)) N) λ g₁ le₁ N₁.
      then (push_now (omega arith) (same (Instruction.ReadLocal i.end IrType.U64)) N₁) λ g₂ le₂ N₂.
      then (push_now (omega arith) (λ q. ap₂ (Instruction.Binary BinOp.Lt IrType.U64) (value_is N (le₁ (le₂ q))) (value_is N₁ (le₂ q))) N₂) λ g₃ le₃ N₃.
      then (term_now (λ q. ap (λ (v : ℕ). Terminator.Branch v body exit) (value_is N₂ (le₃ q))) N₃) λ g₄ le₄ N₄.
      after g₄ (λ q. le₁ (le₂ (le₃ (le₄ q)))) N₄

  pub step_now : (i header : ℕ) {e g : Bool} {c : FnCtx} {d : LogCtx} → Now 0 Q t up e g c d → After g (λ g. Now 0 Q t up true g (Lower.for_step i header c) (for_step i header d))
  unfolding Lower.for_step for_step for_next
  step_now i header N =
      if_open N λ N.
      then (push_now (omega arith) (same (Instruction.ReadLocal i IrType.U64)) N) λ g₁ le₁ N₁.
      then (push_now (omega arith) (same (Instruction.Const IrType.U64 1)) N₁) λ g₂ le₂ N₂.
      then (push_now (omega arith) (λ q. ap₂ (Instruction.Binary BinOp.Add IrType.U64) (value_is N (le₁ (le₂ q))) (value_is N₁ (le₂ q))) N₂) λ g₃ le₃ N₃.
      then (push_now (omega arith) (λ q. ap (Instruction.WriteLocal i) (value_is N₂ (le₃ q))) N₃) λ g₄ le₄ N₄.
      then (term_now (same (Terminator.Jump header)) N₄) λ g₅ le₅ N₅.
      after g₅ (λ q. le₁ (le₂ (le₃ (le₄ (le₅ q))))) N₅

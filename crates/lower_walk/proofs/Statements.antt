-- A statement's walk refuses what its lowering refuses, and ends in a state that is tied to the lowering's. Assumes nothing.
use Prim.Native.Nat.{ℕ}
use mathlib.Core.Path.{◌≡◌, refl, ap}
use mathlib.Core.List.{List, [], ◌∷◌}
use mathlib.Core.Option.{none, some}
use mathlib.Core.Bool.{Bool, true, false}
use lib.ListN.{length}
use native.Mathlib.Omega.{arith}
use Rattle.definitions.specs.Result.{ok, ◌>>=◌}
use Rattle.definitions.specs.Ast.{OptExpr, absent, present, Stmt, Stmts, snil, scons, OptStmts, no_else, else_do, Contract}
use Rattle.definitions.specs.Ir.{IrType, Instruction, Terminator}
use Rattle.definitions.specs.Lower.{LoweringError, FnCtx, Scope, storage_named, push_instr, current_block_terminated, unless_terminated, lower_return, lower_body, lower_stmt, lower_stmts, lower_else}
use Rattle.lower_walk.specs.Held.{Held}
use Rattle.lower_walk.specs.Stmts.{LogCtx, push_c, next_arm, enter_if, walk_if, while_header, enter_while, two_locals, for_locals, for_blocks, walk_return, walk_stmt, walk_stmts, walk_else}
use Rattle.lower_walk.proofs.Tied.{then, same, Now, ended_now, push_now, term_now, turn_now, enter, define_now, leave}
use Rattle.lower_walk.proofs.Related.{Rel, bad, nested, bind, bind_o, bind_l, joined, el_is, bind_v, bind_e}
use Rattle.lower_walk.proofs.Expressions.{expr_same, args_same, exprv_same}
use Rattle.lower_walk.proofs.Steps.{Stated, stated, Bodied, bodied, init_same, three_same, close_now, header_now, step_now}

-- the statements after a terminator are skipped
skipped : (K : Contract) (xs : Stmts) (c : FnCtx) → current_block_terminated c ≡ true → lower_stmts K xs c ≡ ok c
unfolding lower_stmts unless_terminated
skipped K snil c q = refl
skipped K (scons x xs) c q = rw (q, unless_terminated) (skipped K xs c q)

gone_on : (K : Contract) (n : ℕ) (es : Held) (x : Stmt) (xs : Stmts) (d : LogCtx) {e : Bool} → d.ended ≡ e → walk_stmts K n es (scons x xs) d ≡ elim e [ true ↦ ok d | false ↦ walk_stmt K n es x d >>= λ p. walk_stmts K n p.1 xs p.0 ]
unfolding walk_stmts
gone_on K n es x xs d q = ap (λ (b : Bool). elim b [ true ↦ ok d | false ↦ walk_stmt K n es x d >>= λ p. walk_stmts K n p.1 xs p.0 ]) q

push_stated : {Q : List ℕ} {t : Scope} {up : List Scope} {c : FnCtx} {d : LogCtx} {g : Bool} {i j : Instruction} → (g ≡ false → i ≡ j) → Now 0 Q t up false g c d → Rel (Stated Q up) (ok (push_instr i c)) (ok (push_c j d, joined (t ∷ up)))
push_stated e N = then (push_now (omega arith) e N) λ g le N. stated N

return_same : (K : Contract) (x : OptExpr) {Q : List ℕ} {t : Scope} {up : List Scope} {c : FnCtx} {d : LogCtx} {g : Bool} → Now 0 Q t up false g c d → Rel (Stated Q up) (lower_return K x c) (walk_return K (joined (t ∷ up)) x d >>= λ d. ok (d, joined (t ∷ up)))
unfolding lower_return walk_return
return_same K absent N = then (term_now (same (Terminator.Return none)) N) λ g le N. stated N
return_same K (present x) N =
    rw nested (bind_v _ _ (exprv_same K N x) λ c l g n m y le e N.
    then (term_now (λ q. ap (λ (z : ℕ). Terminator.Return (some z)) (e q)) N) λ g le N.
    stated N)

module _ (K : Contract) where
  mutual
    unfolding lower_stmt walk_stmt lower_body enter_if walk_if enter_while while_header for_locals two_locals for_blocks next_arm unless_terminated

    pub stmt_same : (x : Stmt) {Q : List ℕ} {t : Scope} {up : List Scope} {c : FnCtx} {d : LogCtx} {g : Bool} → Now 0 Q t up false g c d → Rel (Stated Q up) (lower_stmt K x c) (walk_stmt K (length up) (joined (t ∷ up)) x d)
    stmt_same (Stmt.Let p j x) N =
        bind_v _ _ (exprv_same K N x) λ c l g n m y le e N.
        init_same _ _ (omega arith) y e N λ c d i g le s N.
        stated (define_now j i y N)
    stmt_same (Stmt.Assign p j x) N =
        bind_v _ _ (exprv_same K N x) λ c l g n m y le e N.
        bind_l j (LoweringError.UndefinedVariable j) _ _ N λ i.
        push_stated (λ q. ap (Instruction.WriteLocal i.0) (e q)) N
    stmt_same (Stmt.Constrain p x) N =
        bind_v _ _ (exprv_same K N x) λ c l g n m y le e N.
        push_stated (λ q. ap Instruction.Assert (e q)) N
    stmt_same (Stmt.StorageWrite p j x) N =
        bind_o (storage_named K j) (LoweringError.UndefinedVariable j) _ _ λ i.
        bind_v _ _ (exprv_same K N x) λ c l g n m y le e N.
        push_stated (λ q. ap (Instruction.StateWrite i.0) (e q)) N
    stmt_same (Stmt.If p x pt th el) N =
        simp nested (bind_v _ _ (exprv_same K N x) λ c l g n m y le e N.
        three_same _ _ N λ c d a b z N.
        then (term_now (λ q. ap (λ (v : ℕ). Terminator.Branch v a b) (e q)) N) λ g le N.
        bind _ _ (stmts_same th (enter [] (turn_now N))) λ c d B.
        then (close_now (Terminator.Jump z) (leave B.now)) λ g le N.
        bind _ _ (else_same el (enter [] (turn_now N))) λ c d B.
        then (close_now (Terminator.Jump z) (leave B.now)) λ g le N.
        stated (turn_now N))
    stmt_same (Stmt.While p x pb body) N =
        simp nested (three_same _ _ N λ c d a b z N.
        then (term_now (same (Terminator.Jump a)) N) λ g le N.
        bind_v _ _ (exprv_same K (turn_now N) x) λ c l g n m y le e N.
        then (term_now (λ q. ap (λ (v : ℕ). Terminator.Branch v b z) (e q)) N) λ g le N.
        bind _ _ (stmts_same body (enter [] (turn_now N))) λ c d B.
        then (close_now (Terminator.Jump a) (leave B.now)) λ g le N.
        stated (turn_now N))
    stmt_same (Stmt.For p var x y pb body) N =
        simp nested (bind_v _ _ (exprv_same K N x) λ c l g n m v le e N.
        bind_v _ _ (exprv_same K N y) λ c l g n' m' v' le' e' N.
        init_same _ _ (omega arith) IrType.U64 (λ q. e (le' q)) N λ c d i g le s N.
        init_same _ _ (omega arith) IrType.U64 (λ q. e' (le q)) N λ c d j g le s N.
        three_same _ _ N λ c d a b z N.
        then (term_now (same (Terminator.Jump a)) N) λ g le N.
        then (header_now (record { var = i; end = j }) b z (turn_now N)) λ g le N.
        bind _ _ (stmts_same body (enter ((var, i, IrType.U64) ∷ []) (turn_now N))) λ c d B.
        then (step_now i a (leave B.now)) λ g le N.
        stated (turn_now N))
    stmt_same (Stmt.Return p x) N = return_same K x N
    stmt_same (Stmt.Emit p j xs) N =
        bind_e _ _ (args_same K N xs) λ c l g a b le e N.
        push_stated (λ q. ap (Instruction.Emit j) (el_is e q)) N
    stmt_same (Stmt.ExprStmt p x) N = bind_e _ _ (expr_same K N x) λ c l g a b le e N. stated N
    stmt_same (Stmt.MappingWrite p j x y) N = bad LoweringError.MappingWrite

    pub stmts_same : (xs : Stmts) {e : Bool} {Q : List ℕ} {t : Scope} {up : List Scope} {c : FnCtx} {d : LogCtx} {g : Bool} → Now 0 Q t up e g c d → Rel (Bodied Q up) (lower_stmts K xs c) (walk_stmts K (length up) (joined (t ∷ up)) xs d)
    stmts_same snil N = bodied N
    stmts_same (scons x xs) {e = true} {t = t} {up} {c} {d} N = rw (skipped K (scons x xs) c (ended_now N).0, gone_on K (length up) (joined (t ∷ up)) x xs d (ended_now N).1) (bodied N)
    stmts_same (scons x xs) {e = false} {t = t} {up} {d = d} N = rw ((ended_now N).0, unless_terminated, gone_on K (length up) (joined (t ∷ up)) x xs d (ended_now N).1) (bind _ _ (stmt_same x N) λ c p S. rw S.held (stmts_same xs S.body.now))

    pub else_same : (xs : OptStmts) {Q : List ℕ} {t : Scope} {up : List Scope} {c : FnCtx} {d : LogCtx} {g : Bool} → Now 0 Q t up false g c d → Rel (Bodied Q up) (lower_else K xs c) (walk_else K (length up) (joined (t ∷ up)) xs d)
    else_same no_else N = bodied N
    else_same (else_do p xs) N = stmts_same xs N

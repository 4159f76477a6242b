-- The statement at a place of a contract sheet that passed 3 and 4, for each kind, from its bytes and the places of its parts. Assumes nothing.
use mathlib.Core.Logic.{inl, inr}
use mathlib.Core.Path.{◌≡◌, refl, ap, ap₂, ◌∙◌, subst}
use mathlib.Core.Bool.{false}
use mathlib.Core.List.{List, [], ◌∷◌}
use Prim.Native.Nat.{ℕ, ◌+◌, ◌-◌, ◌≤◌}
use native.Mathlib.Omega.{arith}
use lib.Dec.{eqb}
use borrow.Author.Tests.{ne_eqb}
use Rattle.definitions.specs.Fields.{le}
use Rattle.definitions.specs.Ast.{econs, snil, present, Stmt as Tree}
use Rattle.definitions.specs.Grammar.{Class, Field, Pattern, done, one, perhaps, many, rows}
use Rattle.definitions.specs.Records.{row_in, small, item, node, Trees, tcons, read_records}
use Rattle.definitions.specs.ContractSheet.{exprs_of, no_block, and_block, opt_b, stmt_from, stmt_of, stmts_of, blocks_of}
use Rattle.definitions.proofs.Sheets.Lines.{OfRows, Given, by_lines}
use Rattle.format.specs.Kinds.{stmt_number}
use Rattle.format.specs.declared.kinds.Stmt.{Stmt}
use Rattle.format.specs.declared.kinds.Stmt.TheVariants as stmt
use Rattle.sheet.specs.Passed.{record_kind, stop_of}
use Rattle.contract_nodes.specs.Ready.{tree_at, expr_at, exprs_from, stmts_from, Ready, ReadyAll}
use Rattle.contract_nodes.specs.ByKind.{BlockIn, Alone, StmtByKind}
use Rattle.contract_nodes.proofs.Children.{First, all_of, one_first, perhaps_next, last_first, nothing_left, nothing_at, at_end, bounds, by_row, Named, named, Plain, plain}
use Rattle.contract_nodes.proofs.ExprPlaces.{expr_kinds, expr_long, inner, one_at, args_at}
use Rattle.contract_nodes.proofs.Standing.{stand_all}

-- an expression and no more: Constrain, Return, ExprStmt
alone : {s : List ℕ} {at k d : ℕ} {p : Pattern} (of : ℕ → _ → Tree) → Plain p s at k d → First Class.expression done s (at + 6) (stop_of s at) (d - 1)
    → stmt_of (node at k [] (tcons (tree_at s (at + 6)) (read_records s (stop_of s (at + 6)) (stop_of s at)))) ≡ of at (expr_at s (at + 6)) → Alone of s at d
alone {at = at} {k = k} of n f e = (inner f.ready, ap stmt_of (n.tree ∙ ap (node at k []) f.is) ∙ e)

-- BLOCKS among a statement's children: an expression is none; a block has its place and its statements
abbrev IsBlock : Class → ℕ → List Field → Pattern → Type 0
IsBlock c k fs p = k ≡ 5

block_rows_lem : OfRows IsBlock Class.block rows
unfolding Given rows
block_rows_lem = by_lines IsBlock Class.block rows refl

no_block_lem : {s : List ℕ} {at d : ℕ} → Ready Class.expression s at d → (ts : Trees) → blocks_of (tcons (tree_at s at) ts) ≡ blocks_of ts
unfolding stmt_of
no_block_lem {s} {at} r ts =
    let q : eqb (record_kind s at) 5 ≡ false = ne_eqb (record_kind s at) 5 (λ z. omega (arith, z, (expr_kinds r).0)) in
    rw q

-- a block at p
record BlockAt (s : List ℕ) (at p d : ℕ) : Type 0 where
  body : ReadyAll Class.statement s (p + 6) (stop_of s p) (d - 2)
  inside : BlockIn s at d p (stop_of s p)
  is : (ts : Trees) → blocks_of (tcons (tree_at s p) ts) ≡ and_block p (stmts_from s (p + 6) (stop_of s p)) (blocks_of ts)

block_at : {s : List ℕ} {at p d : ℕ} {q : Pattern} → First Class.block q s p (stop_of s at) (d - 1) → at ≤ p → BlockAt s at p d
unfolding row_in rows stmt_of
block_at {s} {at} {p} {d} f l =
    let n : Plain (many Class.statement done) s p 5 (d - 1) = plain (many Class.statement done) refl f.ready (by_row IsBlock block_rows_lem f.ready) in
    let e : d - 1 - 1 ≡ d - 2 = omega arith in
    let body : ReadyAll Class.statement s (p + 6) (stop_of s p) (d - 2) = subst (λ (x : ℕ). ReadyAll Class.statement s (p + 6) (stop_of s p) x) e (all_of n.kids) in
    record { body = body; inside = (omega (arith, (bounds f.ready).deep), l, f.low, f.high, stand_all body); is = λ ts. ap (λ t. blocks_of (tcons t ts)) n.tree }

-- the last block of a statement
record LastBlock (s : List ℕ) (at p d : ℕ) : Type 0 where
  inside : BlockIn s at d p (stop_of s at)
  is : blocks_of (read_records s p (stop_of s at)) ≡ and_block p (stmts_from s (p + 6) (stop_of s at)) no_block

last_block : {s : List ℕ} {at p d : ℕ} → First Class.block done s p (stop_of s at) (d - 1) → at ≤ p → LastBlock s at p d
unfolding stmt_of
last_block {s} {at} {p} {d} f l =
    let b : BlockAt s at p d = block_at f l in
    let z = nothing_left f.rest in
    record {
      inside = subst (λ (x : ℕ). BlockIn s at d p x) z.0 b.inside;
      is = ap blocks_of f.is ∙ (b.is (read_records s (stop_of s p) (stop_of s at)) ∙ λ i. and_block p (stmts_from s (p + 6) (z.0 i)) (blocks_of (z.1 i)));
    }

no_stmts : (s : List ℕ) (end : ℕ) → stmts_from s end end ≡ snil
unfolding stmt_of
no_stmts s end = ap stmts_of (at_end s refl)

-- FOR EVERY KIND
pub stmt_here : {s : List ℕ} {at d : ℕ} → Ready Class.statement s at d → (k : Stmt) → record_kind s at ≡ stmt_number k → StmtByKind s at d k
unfolding row_in rows stmt_of
stmt_here r stmt.Let e = let g = one_at stmt_of r e refl in ((g.fits, inner g.value, g.is), omega (arith, expr_long g.value, g.stop))
stmt_here r stmt.Constrain e = let n = plain (one Class.expression done) refl r e in alone Tree.Constrain n (one_first n.kids) refl
stmt_here r stmt.Assign e = let g = one_at stmt_of r e refl in (g.fits, inner g.value, g.is)
stmt_here r stmt.StorageWrite e = let g = one_at stmt_of r e refl in (g.fits, inner g.value, g.is)
stmt_here {s} {at} {d} r stmt.MappingWrite e =
    let n : Named 65534 (one Class.expression (one Class.expression done)) s at 14 d = named 65534 (one Class.expression (one Class.expression done)) refl r e in
    let f : First Class.expression (one Class.expression done) s (at + 8) (stop_of s at) (d - 1) = one_first n.kids in
    let g : First Class.expression done s (stop_of s (at + 8)) (stop_of s at) (d - 1) = one_first f.rest in
    (n.room, inner f.ready, inner g.ready, ap stmt_of (n.tree ∙ ap (node at 14 (item (small (le 2 s (at + 6))) ∷ [])) (f.is ∙ ap (tcons (tree_at s (at + 8))) g.is)))
stmt_here {s} {at} {d} r stmt.If e =
    let p : ℕ = stop_of s (at + 6) in
    let q : ℕ = stop_of s p in
    let n : Plain (one Class.expression (one Class.block (perhaps Class.block done))) s at 15 d = plain (one Class.expression (one Class.block (perhaps Class.block done))) refl r e in
    let f : First Class.expression (one Class.block (perhaps Class.block done)) s (at + 6) (stop_of s at) (d - 1) = one_first n.kids in
    let g : First Class.block (perhaps Class.block done) s p (stop_of s at) (d - 1) = one_first f.rest in
    let b : BlockAt s at p d = block_at g (omega (arith, f.low)) in
    let es : exprs_from s (at + 6) (stop_of s at) ≡ econs (expr_at s (at + 6)) (exprs_from s p (stop_of s at)) = ap exprs_of f.is in
    let bs = ap blocks_of f.is ∙ (no_block_lem f.ready (read_records s p (stop_of s at)) ∙ (ap blocks_of g.is ∙ b.is (read_records s q (stop_of s at)))) in (
      inner f.ready,
      b.inside,
      record {
        arms = opt_b (blocks_of (read_records s q (stop_of s at)));
        is = ap stmt_of n.tree ∙ ap₂ (stmt_from at 15 []) es bs;
        with_else = λ h.
            let l : LastBlock s at q d = last_block (last_first (perhaps_next g.rest) h) (omega (arith, f.low, g.low)) in
            record { behind = omega arith; low = l.inside.2; stand = l.inside.4; is = inr (q, ap opt_b l.is) };
        without_else = λ h.
            let z : q ≡ stop_of s at = omega (arith, g.high) in
            record { behind = g.high; low = omega arith; stand = stand_all (nothing_at {d = d - 2} (stop_of s at) n.inside b.body); is = inl (ap (λ ts. opt_b (blocks_of ts)) (at_end s z), no_stmts s (stop_of s at)) };
      },
    )
stmt_here {s} {at} {d} r stmt.While e =
    let p : ℕ = stop_of s (at + 6) in
    let n : Plain (one Class.expression (one Class.block done)) s at 16 d = plain (one Class.expression (one Class.block done)) refl r e in
    let f : First Class.expression (one Class.block done) s (at + 6) (stop_of s at) (d - 1) = one_first n.kids in
    let b : LastBlock s at p d = last_block (one_first f.rest) (omega (arith, f.low)) in
    let es : exprs_from s (at + 6) (stop_of s at) ≡ econs (expr_at s (at + 6)) (exprs_from s p (stop_of s at)) = ap exprs_of f.is in
    let bs = ap blocks_of f.is ∙ (no_block_lem f.ready (read_records s p (stop_of s at)) ∙ b.is) in
    (inner f.ready, b.inside, ap stmt_of n.tree ∙ ap₂ (stmt_from at 16 []) es bs)
stmt_here {s} {at} {d} r stmt.For e =
    let q : ℕ = stop_of s (at + 8) in
    let p : ℕ = stop_of s q in
    let n : Named 65534 (one Class.expression (one Class.expression (one Class.block done))) s at 17 d = named 65534 (one Class.expression (one Class.expression (one Class.block done))) refl r e in
    let f : First Class.expression (one Class.expression (one Class.block done)) s (at + 8) (stop_of s at) (d - 1) = one_first n.kids in
    let g : First Class.expression (one Class.block done) s q (stop_of s at) (d - 1) = one_first f.rest in
    let b : LastBlock s at p d = last_block (one_first g.rest) (omega (arith, f.low, g.low)) in
    let es : exprs_from s (at + 8) (stop_of s at) ≡ econs (expr_at s (at + 8)) (econs (expr_at s q) (exprs_from s p (stop_of s at))) = ap exprs_of (f.is ∙ ap (tcons (tree_at s (at + 8))) g.is) in
    let bs = ap blocks_of f.is ∙ (no_block_lem f.ready (read_records s q (stop_of s at)) ∙ (ap blocks_of g.is ∙ (no_block_lem g.ready (read_records s p (stop_of s at)) ∙ b.is))) in
    (n.room, inner f.ready, inner g.ready, omega (arith, f.low, g.low), b.inside, ap stmt_of n.tree ∙ ap₂ (stmt_from at 17 (item (small (le 2 s (at + 6))) ∷ [])) es bs)
stmt_here {s} {at} r stmt.Return e =
    let n = plain (perhaps Class.expression done) refl r e in
    (λ h. let z : at + 6 ≡ stop_of s at = omega (arith, (bounds r).low) in ap stmt_of (n.tree ∙ ap (node at 18 []) (at_end s z)), λ h. alone (λ p x. Tree.Return p (present x)) n (last_first (perhaps_next n.kids) h) refl)
stmt_here r stmt.Emit e = let g = args_at stmt_of r e refl (λ r w k. w.emit_arguments k) in (g.fits, g.args, g.few, g.is)
stmt_here r stmt.Expr e = let n = plain (one Class.expression done) refl r e in alone Tree.ExprStmt n (one_first n.kids) refl

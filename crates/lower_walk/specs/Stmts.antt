-- Statements into the log. A block is switched to once and left when it is terminated, so that its records stand in one stretch of
-- the log, from `starts` to `stops`. Untrusted: see Log.
use Rattle.std.specs.Prelude.{ℕ, suc, ◌+◌, ◌%◌, List, [], ◌∷◌, ◌++◌, Bool, true, false, leb, ltb, length, set}
use Rattle.std.proofs.Math.Option.{none, some}
use Rattle.definitions.specs.Result.{err, ok, ◌>>=◌, ok_or_else}
use Rattle.definitions.specs.Ast.{BinOp, Expr, OptExpr, absent, present, Stmt, Stmts, snil, scons, OptStmts, no_else, else_do, Contract}
use Rattle.definitions.specs.Ir.{IrType, Instruction, Terminator}
use Rattle.definitions.specs.Records.{pick}
use Rattle.definitions.specs.Lower.{LoweringError, Lowering, in_scope, storage_named}
use Rattle.lower_walk.specs.Log.{Log, counted, log_instr, log_term}
use Rattle.lower_walk.specs.Held.{Held, names}
use Rattle.lower_walk.specs.Exprs.{walk_expr, walk_expr_value, walk_args}

-- `FnCtx`: the state of a function's walk, with the log in place of each block's records
pub record LogCtx : Type 0 where
  pub fid : ℕ
  pub log : Log
  pub next_block : ℕ
  pub current : ℕ
  pub ended : Bool  -- the current block has its terminator
  pub locals : List IrType
  pub starts : List ℕ  -- for each block that was switched to, where its records begin
  pub stops : List ℕ  -- for each block that was terminated, where they end

-- the same state, with another log
abbrev pub with_log : Log → LogCtx → LogCtx
with_log l c = record { fid = c.fid; log = l; next_block = c.next_block; current = c.current; ended = c.ended; locals = c.locals; starts = c.starts; stops = c.stops }

-- `push_instr`: an instruction behind the last record
abbrev pub push_c : Instruction → LogCtx → LogCtx
push_c i c = with_log (log_instr i c.log) c

-- the next value is taken
abbrev pub taken : LogCtx → LogCtx
taken c = with_log (counted (suc c.log.value % 65536) c.log) c

-- the current block's records stop where the log ends
abbrev pub closed : LogCtx → LogCtx
closed c = record { fid = c.fid; log = c.log; next_block = c.next_block; current = c.current; ended = true; locals = c.locals; starts = c.starts; stops = set c.stops c.current c.log.at }

-- `set_terminator`
unfoldable pub terminate : Terminator → LogCtx → LogCtx
terminate t c = closed (with_log (log_term t c.log) c)

unfoldable pub terminate_if_open : Terminator → LogCtx → LogCtx
terminate_if_open t c = elim c.ended [ true ↦ c | false ↦ terminate t c ]

-- `switch_to`
unfoldable pub switch_to : ℕ → LogCtx → LogCtx
switch_to k c = record { fid = c.fid; log = c.log; next_block = c.next_block; current = k; ended = false; locals = c.locals; starts = set c.starts k c.log.at; stops = c.stops }

-- the three blocks of an If, a While or a For
pub record ThreeBlocks : Type 0 where
  pub first : ℕ
  pub second : ℕ
  pub third : ℕ

unfoldable pub three_blocks : LogCtx → Lowering (LogCtx × ThreeBlocks)
three_blocks c =
    pick (leb (c.next_block + 3) 256)
    (ok (record { fid = c.fid; log = c.log; next_block = c.next_block + 3; current = c.current; ended = c.ended; locals = c.locals; starts = c.starts; stops = c.stops }, record { first = c.next_block; second = c.next_block + 1; third = c.next_block + 2 }))
    (err (LoweringError.TooManyBlocksOrLocals c.fid))

-- one local more, of a type
abbrev pub with_local : IrType → LogCtx → LogCtx
with_local t c = record { fid = c.fid; log = c.log; next_block = c.next_block; current = c.current; ended = c.ended; locals = c.locals ++ (t ∷ []); starts = c.starts; stops = c.stops }

-- a new local, with nothing written to it
abbrev pub new_local : IrType → LogCtx → Lowering (LogCtx × ℕ)
new_local t c = pick (ltb (length c.locals) 256) (ok (with_local t c, length c.locals)) (err (LoweringError.TooManyBlocksOrLocals c.fid))

-- a new local to which a value is written at once
unfoldable pub init_local : IrType → ℕ → LogCtx → Lowering (LogCtx × ℕ)
init_local t v c = do
  (c, local) ← new_local t c
  ok (push_c (Instruction.WriteLocal local v) c, local)

-- the end of an arm or a body, which jumps to `target` if it is open; then block k
unfoldable pub next_arm : (target k : ℕ) → LogCtx → LogCtx
next_arm target k c = switch_to k (terminate_if_open (Terminator.Jump target) c)

-- IF: the condition, the blocks and the branch; the then block is open
unfoldable pub enter_if : Contract → Held → Expr → LogCtx → Lowering (LogCtx × ThreeBlocks)
enter_if K es cond c = do
  (l, (v, _)) ← walk_expr_value K es cond c.log
  (c, b) ← three_blocks (with_log l c)
  ok (switch_to b.first (terminate (Terminator.Branch v b.first b.second) c), b)

-- the whole of an If, over what lowers its two arms
unfoldable pub walk_if : Contract → Held → Expr → (then_arm else_arm : LogCtx → Lowering LogCtx) → LogCtx → Lowering (LogCtx × Held)
walk_if K es cond then_arm else_arm c = do
  (c, b) ← enter_if K es cond c
  c ← then_arm c
  c ← else_arm (next_arm b.third b.second c)
  ok (next_arm b.third b.third c, es)

-- WHILE: the condition in the header, which is open, and the branch; then the body is open
unfoldable pub while_header : Contract → Held → Expr → ThreeBlocks → LogCtx → Lowering (LogCtx × ThreeBlocks)
while_header K es cond b c = do
  (l, (v, _)) ← walk_expr_value K es cond c.log
  ok (switch_to b.second (terminate (Terminator.Branch v b.second b.third) (with_log l c)), b)

-- the blocks, the jump to the header, and the header
unfoldable pub enter_while : Contract → Held → Expr → LogCtx → Lowering (LogCtx × ThreeBlocks)
enter_while K es cond c = do
  (c, b) ← three_blocks c
  while_header K es cond b (switch_to b.first (terminate (Terminator.Jump b.first) c))

-- FOR: its two locals, from the values of its bounds
pub record Bounds : Type 0 where
  pub var : ℕ
  pub end : ℕ

unfoldable pub two_locals : (start end : ℕ) → LogCtx → Lowering (LogCtx × Bounds)
two_locals start end c = do
  (c, loop_local) ← init_local IrType.U64 start c
  (c, end_local) ← init_local IrType.U64 end c
  ok (c, record { var = loop_local; end = end_local })

unfoldable pub for_locals : Contract → Held → Expr → Expr → LogCtx → Lowering (LogCtx × Bounds)
for_locals K es start end c = do
  (l, (start_val, _)) ← walk_expr_value K es start c.log
  (l, (end_val, _)) ← walk_expr_value K es end l
  two_locals start_val end_val (with_log l c)

-- the test in the header and the branch
unfoldable pub for_header : Bounds → (body exit : ℕ) → LogCtx → LogCtx
for_header i body exit c =
    let c₁ = push_c (Instruction.ReadLocal i.var IrType.U64) c in
    let c₂ = push_c (Instruction.ReadLocal i.end IrType.U64) c₁ in
    let c₃ = push_c (Instruction.Binary BinOp.Lt IrType.U64 c.log.value c₁.log.value) c₂ in
    terminate (Terminator.Branch c₂.log.value body exit) c₃

-- the blocks, the header and the open body
unfoldable pub for_blocks : Bounds → LogCtx → Lowering (LogCtx × ThreeBlocks)
for_blocks i c = do
  (c, b) ← three_blocks c
  ok (switch_to b.second (for_header i b.second b.third (switch_to b.first (terminate (Terminator.Jump b.first) c))), b)

-- `i += 1` and the jump back
unfoldable pub for_next : (loop_local header : ℕ) → LogCtx → LogCtx
for_next loop_local header c =
    let c₁ = push_c (Instruction.ReadLocal loop_local IrType.U64) c in
    let c₂ = push_c (Instruction.Const IrType.U64 1) c₁ in
    let c₃ = push_c (Instruction.Binary BinOp.Add IrType.U64 c.log.value c₁.log.value) c₂ in
    terminate (Terminator.Jump header) (push_c (Instruction.WriteLocal loop_local c₂.log.value) c₃)

-- the same, if the body's end is open
unfoldable pub for_step : (loop_local header : ℕ) → LogCtx → LogCtx
for_step loop_local header c = elim c.ended [ true ↦ c | false ↦ for_next loop_local header c ]

-- RETURN: the value, if there is one, and the terminator
unfoldable pub walk_return : Contract → Held → OptExpr → LogCtx → Lowering LogCtx
walk_return K es absent c = ok (terminate (Terminator.Return none) c)
walk_return K es (present e) c = do
  (l, (v, _)) ← walk_expr_value K es e c.log
  ok (terminate (Terminator.Return (some v)) (with_log l c))

unfoldable mutual
  -- a statement, in a block that is not terminated, in the scope of a number; and the names that are held after it
  pub walk_stmt : Contract → (scope : ℕ) → Held → Stmt → LogCtx → Lowering (LogCtx × Held)
  walk_stmt K n es (Stmt.Let p name e) c = do
    (l, (v, ty)) ← walk_expr_value K es e c.log
    (c, local) ← init_local ty v (with_log l c)
    ok (c, record { scope = n; name = name; local = local; type = ty } ∷ es)
  walk_stmt K n es (Stmt.Assign p name e) c = do
    (l, (v, _)) ← walk_expr_value K es e c.log
    (local, _) ← ok_or_else (in_scope name (names es)) (LoweringError.UndefinedVariable name)
    ok (with_log (log_instr (Instruction.WriteLocal local v) l) c, es)
  walk_stmt K n es (Stmt.Constrain p e) c = do
    (l, (v, _)) ← walk_expr_value K es e c.log
    ok (with_log (log_instr (Instruction.Assert v) l) c, es)
  walk_stmt K n es (Stmt.StorageWrite p name e) c = do
    (slot, _) ← ok_or_else (storage_named K name) (LoweringError.UndefinedVariable name)
    (l, (v, _)) ← walk_expr_value K es e c.log
    ok (with_log (log_instr (Instruction.StateWrite slot v) l) c, es)
  walk_stmt K n es (Stmt.If p cond pt then_body else_body) c = walk_if K es cond (λ d. walk_stmts K (suc n) es then_body d) (λ d. walk_else K (suc n) es else_body d) c
  walk_stmt K n es (Stmt.While p cond pb body) c = do
    (c, b) ← enter_while K es cond c
    c ← walk_stmts K (suc n) es body c
    ok (next_arm b.first b.third c, es)
  walk_stmt K n es (Stmt.For p var start end pb body) c = do
    (c, i) ← for_locals K es start end c
    (c, b) ← for_blocks i c
    c ← walk_stmts K (suc n) (record { scope = suc n; name = var; local = i.var; type = IrType.U64 } ∷ es) body c
    ok (switch_to b.third (for_step i.var b.first c), es)
  walk_stmt K n es (Stmt.Return p e) c = do
    c ← walk_return K es e c
    ok (c, es)
  walk_stmt K n es (Stmt.Emit p name args) c = do
    (l, vs) ← walk_args K es args c.log
    ok (with_log (log_instr (Instruction.Emit name vs) l) c, es)
  walk_stmt K n es (Stmt.ExprStmt p e) c = do
    (l, _) ← walk_expr K es e c.log
    ok (with_log l c, es)
  walk_stmt K n es (Stmt.MappingWrite p name k e) c = err LoweringError.MappingWrite

  -- the statements after a terminator are skipped
  pub walk_stmts : Contract → (scope : ℕ) → Held → Stmts → LogCtx → Lowering LogCtx
  walk_stmts K n es snil c = ok c
  walk_stmts K n es (scons s ss) c = elim c.ended [
    | true ↦ ok c
    | false ↦ do
      (c, es) ← walk_stmt K n es s c
      walk_stmts K n es ss c
  ]

  pub walk_else : Contract → (scope : ℕ) → Held → OptStmts → LogCtx → Lowering LogCtx
  walk_else K n es no_else c = ok c
  walk_else K n es (else_do p ss) c = walk_stmts K n es ss c

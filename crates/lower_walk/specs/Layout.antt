-- A function's walk, and its record from the log: each block's records behind the block's head, in the order of the ids. Untrusted: see Log.
use Rattle.std.specs.Prelude.{ℕ, zero, suc, ◌-◌, List, [], ◌∷◌, ◌++◌, map, false, get_or, take, drop, set}
use Rattle.std.proofs.Math.Option.{none}
use Rattle.definitions.specs.Fields.{bytes}
use Rattle.definitions.specs.Result.{ok, ◌>>=◌}
use Rattle.definitions.specs.Ast.{Param, Function, Contract}
use Rattle.definitions.specs.Ir.{IrType, Terminator}
use Rattle.definitions.specs.Records.{small, ty, item, group, write_values, write_record}
use Rattle.definitions.specs.ProgramSheet.{param_item}
use Rattle.definitions.specs.Lower.{Lowering, Value, parse_ir_type, own_return_type}
use Rattle.lower_walk.specs.Held.{Held}
use Rattle.lower_walk.specs.Stmts.{LogCtx, taken, init_local, terminate_if_open, walk_stmts}

-- `FnCtx::new`; the arrays may hold anything before
unfoldable pub new_ctx : ℕ → List ℕ → List ℕ → LogCtx
new_ctx i starts stops = record { fid = i; log = record { value = 0; at = 0; bytes = [] }; next_block = 1; current = 0; ended = false; locals = []; starts = set starts 0 0; stops = stops }

-- a parameter takes a value and has a local to which it is written
unfoldable pub walk_params : List Param → Held → LogCtx → Lowering (LogCtx × Held)
walk_params [] es c = ok (c, es)
walk_params (p ∷ ps) es c = do
  (d, local) ← init_local (parse_ir_type p.ty) c.log.value (taken c)
  walk_params ps (record { scope = 0; name = p.name; local = local; type = parse_ir_type p.ty } ∷ es) d

unfoldable pub walk_function : Contract → ℕ → Function → List ℕ → List ℕ → Lowering LogCtx
walk_function K i f starts stops = do
  (c, es) ← walk_params f.params [] (new_ctx i starts stops)
  c ← walk_stmts K 0 es f.body c
  ok (terminate_if_open (Terminator.Return none) c)

-- the bytes of s from a to z
abbrev pub slice : List ℕ → ℕ → ℕ → List ℕ
slice s a z = take (z - a) (drop a s)

-- block k, whose records stand in the log from a to z
unfoldable pub block_bytes : List ℕ → (k a z : ℕ) → List ℕ
block_bytes log k a z = write_record 53 (bytes 2 k ++ slice log a z)

-- n blocks from block k on
unfoldable pub blocks_bytes : (log starts stops : List ℕ) (k n : ℕ) → List ℕ
blocks_bytes log starts stops k zero = []
blocks_bytes log starts stops k (suc n) = block_bytes log k (get_or starts k 0) (get_or stops k 0) ++ blocks_bytes log starts stops (suc k) n

-- the parameters' values are 0, 1, 2, ..
unfoldable pub param_values : ℕ → List Param → List Value
param_values v [] = []
param_values v (p ∷ ps) = (v, parse_ir_type p.ty) ∷ param_values (suc v) ps

abbrev pub head_bytes : ℕ → Function → List IrType → List ℕ
head_bytes i f locals =
    write_values (item (small i) ∷ item (small f.name) ∷ item (ty (own_return_type f.return_type)) ∷ group (map param_item (param_values 0 f.params)) ∷ group (map ty locals) ∷ [])

unfoldable pub function_bytes : ℕ → Function → LogCtx → List ℕ
function_bytes i f c = write_record 51 (head_bytes i f c.locals ++ blocks_bytes c.log.bytes c.starts c.stops 0 c.next_block)

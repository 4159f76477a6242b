-- The code's state in the words of the walk. Assumes nothing: these are definitions.
use Rattle.std.specs.Prelude.{ℕ, ◌≤◌, ◌<◌, List, map, take, get_or, IfSome}
use Rattle.ir.specs.Types.{as_type}
use Rattle.lower_walk.specs.Log.{append, log_of}
use Rattle.lower_walk.specs.Stmts as walk
use Rattle.lower_walk.specs.Stmts.{LogCtx, with_log}
use Rattle.lower_state.specs.Bytes.{log_end}
use Rattle.lower_state.specs.declared.ctx.ThreeBlocks.{ThreeBlocks}
use Rattle.lower_state.specs.declared.ctx.Span.{Span}
use Rattle.lower_state.specs.declared.ctx.FnCtx.TheInside.{Inside}

-- where blocks start and stop
abbrev pub starts_of : List Span → List ℕ
starts_of spans = map (λ (s : Span). s.start) spans

abbrev pub stops_of : List Span → List ℕ
stops_of spans = map (λ (s : Span). s.stop) spans

abbrev pub ctx_in : Inside → LogCtx
ctx_in c =
    record { fid = c.function.0; log = log_of c.log c.counters.value (log_end c.to); next_block = c.counters.block; current = c.current.0; ended = c.ended; locals = map as_type (take c.counters.local c.locals); starts = starts_of c.spans; stops = stops_of c.spans }

-- up to 256 blocks and locals, the current block is one of them, and the log's end is in its room
pub record Sound (c : Inside) : Type 0 where
  pub blocks : c.counters.block ≤ 256
  pub locals : c.counters.local ≤ 256
  pub current : c.current.0 < c.counters.block
  pub to : IfSome c.to (λ n. n ≤ 32768)

abbrev pub blocks_of : ThreeBlocks → walk.ThreeBlocks
blocks_of b = record { first = b.first.0; second = b.second.0; third = b.third.0 }

-- three blocks that were made
pub record BlocksMade (c : LogCtx) (b : ThreeBlocks) : Type 0 where
  pub first : b.first.0 < c.next_block
  pub second : b.second.0 < c.next_block
  pub third : b.third.0 < c.next_block

-- bytes behind the last record
abbrev pub appended : List ℕ → LogCtx → LogCtx
appended x c = with_log (append x c.log) c

-- the records of the block k stand in the log, which holds all
abbrev pub BlockWithin : LogCtx → (k : ℕ) → Type 0
BlockWithin c k = (get_or c.starts k 0 ≤ get_or c.stops k 0) × ((get_or c.stops k 0 ≤ c.log.at) × (c.log.at ≤ 32768))

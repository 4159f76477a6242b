-- How a step changes what a function under way has: what every step keeps, a refused one too, and that a step made a local. Assumes
-- nothing: these are definitions.
use Rattle.std.specs.Prelude.{◌≤◌, ◌<◌, ◌≡◌, length}
use Rattle.lower_walk.specs.Stmts.{LogCtx}

-- the function is the same, and no block and no local is lost
pub record Grown (before after : LogCtx) : Type 0 where
  pub function : before.fid ≡ after.fid
  pub blocks : before.next_block ≤ after.next_block
  pub locals : length before.locals ≤ length after.locals

-- a local was made, which is not the 257th
pub record LocalMade (before after : LogCtx) : Type 0 where
  pub more : length before.locals < length after.locals
  pub few : length before.locals < 256

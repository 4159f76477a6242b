-- The records from a place on, counted. Assumes nothing.
use mathlib.Core.Path.{◌≡◌}
use mathlib.Core.List.{List}
use Prim.Native.Nat.{ℕ, suc, ◌+◌, ◌<◌, ◌≤◌}
use native.Mathlib.Omega.{arith}
use Rattle.definitions.specs.Fields.{le}
use Rattle.definitions.specs.Records.{read_records}
use Rattle.definitions.specs.ContractSheet.{count_trees}
use Rattle.definitions.proofs.Sheets.Passed.{read_end}
use Rattle.sheet.specs.Passed.{Node, Passed, stop_of}
use Rattle.sheet.proofs.Nodes.{opens, in_order, fits}

-- n records stand before `place`
pub record Counting (s : List ℕ) (at end place n : ℕ) : Type 0 where
  pub passed : Passed s place end
  pub few : n ≤ place
  pub same : count_trees (read_records s at end) ≡ n + count_trees (read_records s place end)
  pub fits : place < end → (6 ≤ le 4 s place) × (place + le 4 s place ≤ end)

module _ {s : List ℕ} {at end place n : ℕ} (c : Counting s at end place n) where
  pub counted : end ≤ place → n ≡ count_trees (read_records s at end)
  unfolding count_trees
  counted h =
      let z : end ≡ place = omega (arith, in_order c.passed) in
      let e : count_trees (read_records s place end) ≡ 0 = rw (z, read_end s place) in
      omega (arith, c.same)

  -- the next record, l bytes long
  pub next : {l : ℕ} → place < end → l ≡ le 4 s place → Counting s at end (place + l) (n + 1)
  unfolding count_trees
  next {l} h e =
      let o : Node s place end = opens c.passed h in
      let room = c.fits h in
      let f : stop_of s place ≡ place + l = omega arith in
      let k : n ≤ place = c.few in
      let i : count_trees (read_records s place end) ≡ suc (count_trees (read_records s (place + l) end)) = rw (o.is, f) in
      let rest : Passed s (place + l) end = rw f at o.rest in
      record { passed = rest; few = omega arith; same = omega (arith, c.same); fits = fits rest }

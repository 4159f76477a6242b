-- The run of a function (document 01, "Run (demand 3)"). Assumes nothing: these are definitions.
use Rattle.std.specs.Prelude.{ℕ, List, [], ◌∷◌, ◌++◌, Bool, true, false, ◌&&◌, eqb}
use Rattle.std.proofs.Math.Option.{Option, none, some}
use Rattle.definitions.specs.Ir.{IrType, operands, local_read, local_written, Terminator, InstrNode, BasicBlock, IrFunction, find, contains}

-- A pick: a word and a way.
pub data Way : Type 0 where
  then_way else_way : Way

abbrev pub Pick : Type 0
Pick = ℕ × Way

-- What is kept: the block, its entries from the next one on, its terminator, the held values with their words, the locals written.
pub record Place : Type 0 where
  pub block : BasicBlock
  pub rest : List InstrNode
  pub end : Terminator
  pub held : List (ℕ × ℕ)
  pub written : List ℕ

pub data State : Type 0 where
  at : Place → State
  ended lacks : State

abbrev pub holds : ℕ → List (ℕ × ℕ) → Bool
holds v [] = false
holds v (h ∷ hs) = elim (eqb h.0 v) [ true ↦ true | false ↦ holds v hs ]

abbrev pub all_held : List ℕ → List (ℕ × ℕ) → Bool
all_held [] hs = true
all_held (v ∷ vs) hs = holds v hs && all_held vs hs

abbrev pub all_written : List ℕ → List ℕ → Bool
all_written [] ls = true
all_written (l ∷ more) ls = contains l ls && all_written more ls

-- ENTERING A BLOCK lacks if there is no such block, or it has no terminator.
abbrev pub enter_at : List (ℕ × ℕ) → List ℕ → Option BasicBlock → State
enter_at held written none = lacks
enter_at held written (some b) = elim b.terminator [ none ↦ lacks | some t ↦ at (record { block = b; rest = b.instrs; end = t; held = held; written = written }) ]

-- the parameters with their words, which are held in the first listed block; in any other nothing is held on entry
abbrev pub params_held : List (ℕ × IrType) → List ℕ → List (ℕ × ℕ)
params_held [] ws = []
params_held (p ∷ ps) [] = []
params_held (p ∷ ps) (w ∷ ws) = (p.0, w) ∷ params_held ps ws

abbrev pub is_first : ℕ → List BasicBlock → Bool
is_first k [] = false
is_first k (b ∷ bs) = eqb b.id k

abbrev pub held_at_entry : IrFunction → List ℕ → ℕ → List (ℕ × ℕ)
held_at_entry f ws k = elim (is_first k f.blocks) [ true ↦ params_held f.params ws | false ↦ [] ]

-- the first block with an id
unfoldable pub enter : IrFunction → List ℕ → ℕ → List ℕ → State
enter f ws k written = enter_at (held_at_entry f ws k) written (find k f.blocks)

-- ONE STEP. Operands are looked at first.
abbrev pub hold_result : Option ℕ → ℕ → List (ℕ × ℕ) → List (ℕ × ℕ)
hold_result none w hs = hs
hold_result (some v) w hs = (v, w) ∷ hs

abbrev pub term_reads : Terminator → List ℕ
term_reads (Terminator.Jump k) = []
term_reads (Terminator.Branch v t e) = v ∷ []
term_reads (Terminator.Return none) = []
term_reads (Terminator.Return (some v)) = v ∷ []
term_reads Terminator.Unreachable = []

abbrev pub target : Way → ℕ → ℕ → ℕ
target then_way t e = t
target else_way t e = e

unfoldable pub follow : IrFunction → List ℕ → Terminator → Way → List ℕ → State
follow f ws (Terminator.Jump k) way written = enter f ws k written
follow f ws (Terminator.Branch v t e) way written = enter f ws (target way t e) written
follow f ws (Terminator.Return v) way written = ended
follow f ws Terminator.Unreachable way written = ended

unfoldable pub step_entry : IrFunction → List ℕ → Pick → Place → List InstrNode → State
step_entry f ws p s [] =
    elim (all_held (term_reads s.end) s.held) [ false ↦ lacks | true ↦ follow f ws s.end p.1 s.written ]
step_entry f ws p s (n ∷ ns) =
    elim (all_held (operands n.instr) s.held && all_written (local_read n.instr) s.written) [
      | false ↦ lacks
      | true ↦
          at (record { block = s.block; rest = ns; end = s.end; held = hold_result n.result p.0 s.held; written = local_written n.instr ++ s.written })
    ]

-- after an end or a lack, picks change nothing
unfoldable pub step : IrFunction → List ℕ → Pick → State → State
step f ws p (at s) = step_entry f ws p s s.rest
step f ws p ended = ended
step f ws p lacks = lacks

unfoldable pub steps : IrFunction → List ℕ → List Pick → State → State
steps f ws [] s = s
steps f ws (p ∷ ps) s = steps f ws ps (step f ws p s)

-- A RUN starts by entering the first listed block, no local written.
unfoldable pub start : IrFunction → List ℕ → List BasicBlock → State
start f ws [] = lacks
start f ws (b ∷ bs) = enter_at (params_held f.params ws) [] (some b)

unfoldable pub run : IrFunction → List ℕ → List Pick → State
run f ws ps = steps f ws ps (start f ws f.blocks)

-- Run once more, clause by clause, for all functions, words, picks and states (document 01, "Run (demand 3)"). The rows of RunRows are small
-- functions; a change of Run that shows only past them, as in a run with more picks or blocks than a row has, is refused here.
-- `proofs/RunClauses.antt` shows that they hold. Assumes nothing: these are definitions.
use Rattle.std.specs.Prelude.{ℕ, ◌≡◌, List, [], ◌∷◌, ◌++◌, true, false, ◌&&◌, eqb}
use Rattle.std.proofs.Math.Option.{Option, none, some}
use Rattle.definitions.specs.Ir.{IrType, Terminator, InstrNode, BasicBlock, IrFunction, operands, local_read, local_written, contains, find}
use Rattle.definitions.specs.Run.{Way, then_way, else_way, Pick, Place, State, at, ended, lacks, holds, all_held, all_written, enter_at, params_held, is_first, held_at_entry, enter, hold_result, term_reads, follow, step_entry, step, steps, start, run}

-- a run starts by entering the first listed block, no local written; each step gets what the last one left
pub record RunStarts (f : IrFunction) (ws : List ℕ) : Type 0 where
  pub no_block : start f ws [] ≡ lacks
  pub first : (b : BasicBlock) (bs : List BasicBlock) → start f ws (b ∷ bs) ≡ enter_at (params_held f.params ws) [] (some b)
  pub runs : (picks : List Pick) → run f ws picks ≡ steps f ws picks (start f ws f.blocks)
  pub no_pick : (s : State) → steps f ws [] s ≡ s
  pub one_pick : (p : Pick) (ps : List Pick) (s : State) → steps f ws (p ∷ ps) s ≡ steps f ws ps (step f ws p s)

abbrev pub block_with : ℕ → List InstrNode → Option Terminator → BasicBlock
block_with i is t = record { id = i; instrs = is; terminator = t }

-- entering a block: it must be there, and have a terminator; the parameters are held in the first listed one
pub record Entering (f : IrFunction) (ws : List ℕ) (k : ℕ) (held : List (ℕ × ℕ)) (written : List ℕ) : Type 0 where
  pub by_id : enter f ws k written ≡ enter_at (held_at_entry f ws k) written (find k f.blocks)
  pub not_there : enter_at held written none ≡ lacks
  pub no_terminator : (i : ℕ) (is : List InstrNode) → enter_at held written (some (block_with i is none)) ≡ lacks
  pub closed : (i : ℕ) (is : List InstrNode) (t : Terminator) → enter_at held written (some (block_with i is (some t))) ≡ at (record { block = block_with i is (some t); rest = is; end = t; held = held; written = written })
  pub first_listed : is_first k f.blocks ≡ true → held_at_entry f ws k ≡ params_held f.params ws
  pub another : is_first k f.blocks ≡ false → held_at_entry f ws k ≡ []
  pub is_listed : (b : BasicBlock) (bs : List BasicBlock) → is_first k (b ∷ bs) ≡ eqb b.id k
  pub none_listed : is_first k [] ≡ false
  pub no_parameter : params_held [] ws ≡ []
  pub no_word : (p : ℕ × IrType) (ps : List (ℕ × IrType)) → params_held (p ∷ ps) [] ≡ []
  pub one_word : (p : ℕ × IrType) (ps : List (ℕ × IrType)) (w : ℕ) → params_held (p ∷ ps) (w ∷ ws) ≡ (p.0, w) ∷ params_held ps ws

-- one step of an instruction, and of a terminator; after an end or a lack, picks change nothing
pub record Stepping (f : IrFunction) (ws : List ℕ) (p : Pick) (s : Place) : Type 0 where
  pub goes_on : step f ws p (at s) ≡ step_entry f ws p s s.rest
  pub after_end : step f ws p ended ≡ ended
  pub after_lack : step f ws p lacks ≡ lacks
  pub value_lacks : (n : InstrNode) (ns : List InstrNode) → all_held (operands n.instr) s.held ≡ false → step_entry f ws p s (n ∷ ns) ≡ lacks
  pub local_lacks : (n : InstrNode) (ns : List InstrNode) → all_held (operands n.instr) s.held ≡ true → all_written (local_read n.instr) s.written ≡ false → step_entry f ws p s (n ∷ ns) ≡ lacks
  pub instruction : (n : InstrNode) (ns : List InstrNode) → all_held (operands n.instr) s.held ≡ true → all_written (local_read n.instr) s.written ≡ true → step_entry f ws p s (n ∷ ns) ≡ at (record { block = s.block; rest = ns; end = s.end; held = hold_result n.result p.0 s.held; written = local_written n.instr ++ s.written })
  pub end_lacks : all_held (term_reads s.end) s.held ≡ false → step_entry f ws p s [] ≡ lacks
  pub terminator : all_held (term_reads s.end) s.held ≡ true → step_entry f ws p s [] ≡ follow f ws s.end p.1 s.written
  pub no_result : hold_result none p.0 s.held ≡ s.held
  pub result : (v : ℕ) → hold_result (some v) p.0 s.held ≡ (v, p.0) ∷ s.held

pub record Following (f : IrFunction) (ws : List ℕ) (way : Way) (written : List ℕ) : Type 0 where
  pub jump : (k : ℕ) → follow f ws (Terminator.Jump k) way written ≡ enter f ws k written
  pub branch_then : (v t e : ℕ) → follow f ws (Terminator.Branch v t e) then_way written ≡ enter f ws t written
  pub branch_else : (v t e : ℕ) → follow f ws (Terminator.Branch v t e) else_way written ≡ enter f ws e written
  pub return_none : follow f ws (Terminator.Return none) way written ≡ ended
  pub return_some : (v : ℕ) → follow f ws (Terminator.Return (some v)) way written ≡ ended
  pub unreachable : follow f ws Terminator.Unreachable way written ≡ ended

-- a value is held if some entry has its id; all of a list are held, or written, if each is
pub record Holding (v : ℕ) (vs : List ℕ) (hs : List (ℕ × ℕ)) (ls : List ℕ) : Type 0 where
  pub no_entry : holds v [] ≡ false
  pub entry : (h : ℕ × ℕ) → eqb h.0 v ≡ true → holds v (h ∷ hs) ≡ true
  pub later : (h : ℕ × ℕ) → eqb h.0 v ≡ false → holds v (h ∷ hs) ≡ holds v hs
  pub no_value : all_held [] hs ≡ true
  pub values : all_held (v ∷ vs) hs ≡ (holds v hs && all_held vs hs)
  pub no_local : all_written [] ls ≡ true
  pub locals : all_written (v ∷ vs) ls ≡ (contains v ls && all_written vs ls)

-- for all of them
pub record RunClauses : Type 0 where
  pub starts : (f : IrFunction) (ws : List ℕ) → RunStarts f ws
  pub entering : (f : IrFunction) (ws : List ℕ) (k : ℕ) (held : List (ℕ × ℕ)) (written : List ℕ) → Entering f ws k held written
  pub stepping : (f : IrFunction) (ws : List ℕ) (p : Pick) (s : Place) → Stepping f ws p s
  pub following : (f : IrFunction) (ws : List ℕ) (way : Way) (written : List ℕ) → Following f ws way written
  pub holding : (v : ℕ) (vs : List ℕ) (hs : List (ℕ × ℕ)) (ls : List ℕ) → Holding v vs hs ls

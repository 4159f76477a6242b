-- The locals that a function writes are its own. An untrusted helper of contracts: no public promise cites it. Assumes nothing: these are definitions.
use Rattle.std.specs.Prelude.{ℕ, Bool, true, ◌&&◌, List, [], ◌∷◌, ltb, length}
use Rattle.definitions.specs.Ir.{Instruction, InstrNode, BasicBlock, IrFunction}

-- the local that an instruction writes is one of n (the verifier's 48)
abbrev pub writes_below : ℕ → Instruction → Bool
writes_below n (Instruction.Const t v) = true
writes_below n (Instruction.Binary op t lhs rhs) = true
writes_below n (Instruction.Load t base offset) = true
writes_below n (Instruction.Store base offset value) = true
writes_below n (Instruction.StateRead t slot) = true
writes_below n (Instruction.StateWrite slot value) = true
writes_below n (Instruction.ReadLocal local t) = true
writes_below n (Instruction.WriteLocal local value) = ltb local n
writes_below n (Instruction.Call function args t) = true
writes_below n (Instruction.Assert condition) = true
writes_below n (Instruction.Poseidon lhs rhs) = true
writes_below n (Instruction.Emit event args) = true
writes_below n (Instruction.ContextRead kind) = true

-- .. so are those that a list of instructions writes, and a list of blocks; those that a function writes are its own
unfoldable pub instrs_write_below : ℕ → List InstrNode → Bool
instrs_write_below n [] = true
instrs_write_below n (i ∷ is) = writes_below n i.instr && instrs_write_below n is

unfoldable pub blocks_write_below : ℕ → List BasicBlock → Bool
blocks_write_below n [] = true
blocks_write_below n (b ∷ bs) = instrs_write_below n b.instrs && blocks_write_below n bs

abbrev pub writes_own : IrFunction → Bool
writes_own f = blocks_write_below (length f.locals) f.blocks

-- The ids at the front of what is left of a function: of a record, of a parameter. Assumes nothing.
use mathlib.Core.Path.{◌≡◌, refl}
use mathlib.Core.List.{List, [], ◌∷◌, ◌++◌, map}
use mathlib.Core.Option.{none, some}
use Prim.Native.Nat.{ℕ}
use Rattle.std.specs.Prelude.{Some}
use Rattle.definitions.specs.Ir.{IrType}
use Rattle.program_nodes.specs.Nodes.{instrs_in, result_in, TakesRecord, FirstInstr}
use Rattle.program_nodes.specs.declared.block.Records.{Records}
use Rattle.program_nodes.specs.declared.block.Record.{Record}
use Rattle.program_nodes.specs.declared.block.Record.TheVariants.{Instr, Term}
use Rattle.program_nodes.specs.declared.instr.Instr as nodes
use Rattle.machine_slots.specs.Slots.{block_results, param_id}

-- A RECORD that was taken: no instruction, or one with a result or without
pub no_instr : (old new : Records) (x : Record) → TakesRecord old new (Some x) → ((i : nodes.Instr) → x ≡ Instr i → ⊥) → instrs_in old ≡ []
no_instr old new (Instr i) T n = absurd (n i refl)
no_instr old new (Term t) T n = T.instrs

pub result_front : {old new : Records} {i : nodes.Instr} {v : ℕ} → FirstInstr old new i → some v ≡ result_in i → block_results (instrs_in old) ≡ v ∷ block_results (instrs_in new)
unfolding block_results
result_front F e = rw (F.instrs, ← e)

pub no_result : {old new : Records} {i : nodes.Instr} → FirstInstr old new i → none ≡ result_in i → block_results (instrs_in old) ≡ block_results (instrs_in new)
unfolding block_results
no_result F e = rw (F.instrs, ← e)

-- A PARAMETER, by the value that was read
pub param_front : {ps qs : List (ℕ × IrType)} {p : ℕ × IrType} {v : ℕ} (bs : List ℕ) → ps ≡ p ∷ qs → v ≡ p.0 → map param_id ps ++ bs ≡ v ∷ (map param_id qs ++ bs)
param_front bs e z = rw (e, z)

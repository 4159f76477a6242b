-- `ir::kind_row`: the table at each of its 22 rows, by computation. Assumes nothing.
use mathlib.Core.Path.{◌≡◌, refl}
use Prim.Native.Nat.{◌+◌, ◌-◌}
use Rattle.std.proofs.Common.{slice_index_or}
use Rattle.std.proofs.Math.Option.{some}
use denote.Enum.Declared.{tag_of}
use Rattle.definitions.specs.InstrTable.{kind_row}
use Rattle.format.specs.contracts.kinds.Instruction.{the_type}
use Rattle.format.specs.declared.kinds.Instruction.{Instruction}
use Rattle.format.specs.declared.kinds.Instruction.TheVariants as kinds
use Rattle.format.specs.Kinds.{instr_number}
use Rattle.ir.specs.Kinds.{rule_of, effect_of, rule_in, effect_in}
use Rattle.ir.specs.declared.ResultRule.{ResultRule}
use Rattle.ir.specs.declared.ResultRule.TheVariants.{None}
use Rattle.ir.specs.declared.Effect.{Effect}
use Rattle.ir.specs.declared.Effect.TheVariants.{Pure}
use Rattle.ir.specs.declared.TheConstants.{KIND_ROWS}
use Rattle.ir.proofs.kind_row.Goals as goal

abbrev row_of : Instruction → ResultRule × Effect
row_of k = slice_index_or KIND_ROWS (tag_of the_type k + 60 - 60) (None, Pure)

rows : (k : Instruction) → (some (rule_of (row_of k).0) ≡ rule_in (kind_row (instr_number k))) × (some (effect_of (row_of k).1) ≡ effect_in (kind_row (instr_number k)))
unfolding kind_row
rows kinds.Const = (refl, refl)
rows kinds.Add = (refl, refl)
rows kinds.Sub = (refl, refl)
rows kinds.Mul = (refl, refl)
rows kinds.Div = (refl, refl)
rows kinds.IrEq = (refl, refl)
rows kinds.IrNe = (refl, refl)
rows kinds.Lt = (refl, refl)
rows kinds.Le = (refl, refl)
rows kinds.Gt = (refl, refl)
rows kinds.Ge = (refl, refl)
rows kinds.Load = (refl, refl)
rows kinds.Store = (refl, refl)
rows kinds.StateRead = (refl, refl)
rows kinds.StateWrite = (refl, refl)
rows kinds.ReadLocal = (refl, refl)
rows kinds.WriteLocal = (refl, refl)
rows kinds.Call = (refl, refl)
rows kinds.Assert = (refl, refl)
rows kinds.Poseidon = (refl, refl)
rows kinds.Emit = (refl, refl)
rows kinds.ContextRead = (refl, refl)

pub returns-clause-rule : goal.returns-clause-rule
returns-clause-rule c = (rows c.args.kind).0

pub returns-clause-effect : goal.returns-clause-effect
returns-clause-effect c = (rows c.args.kind).1

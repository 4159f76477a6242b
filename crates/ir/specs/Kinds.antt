-- The code's rows of the instruction kinds in the words of the definitions. Assumes nothing: these are definitions.
use Rattle.std.proofs.Math.Option.{Option, none, some}
use Rattle.definitions.specs.Ir as ir
use Rattle.definitions.specs.InstrTable as table
use Rattle.ir.specs.declared.ResultRule.{ResultRule}
use Rattle.ir.specs.declared.ResultRule.TheVariants as rules
use Rattle.ir.specs.declared.Effect.{Effect}
use Rattle.ir.specs.declared.Effect.TheVariants as effects

abbrev pub rule_of : ResultRule → table.ResultRule
rule_of rules.None = table.ResultRule.nothing
rule_of rules.Own = table.ResultRule.own
rule_of rules.OwnUnlessVoid = table.ResultRule.own_unless_void
rule_of rules.Bool = table.ResultRule.bool
rule_of rules.U64 = table.ResultRule.u64

abbrev pub effect_of : Effect → ir.Effect
effect_of effects.Pure = ir.Effect.Pure
effect_of effects.MemoryRead = ir.Effect.MemoryRead
effect_of effects.MemoryWrite = ir.Effect.MemoryWrite
effect_of effects.StateRead = ir.Effect.StateRead
effect_of effects.StateWrite = ir.Effect.StateWrite
effect_of effects.ContextRead = ir.Effect.ContextRead
effect_of effects.Event = ir.Effect.Event
effect_of effects.Call = ir.Effect.Call

-- what a row of the definitions says of the result and of the effect, if there is one
abbrev pub rule_in : Option table.KindRow → Option table.ResultRule
rule_in none = none
rule_in (some r) = some r.result

abbrev pub effect_in : Option table.KindRow → Option ir.Effect
effect_in none = none
effect_in (some r) = some r.effect

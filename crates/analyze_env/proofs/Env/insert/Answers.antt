-- `analyze_env::Env::insert`: the store is above what was known, and its chain has it for a head. Assumes nothing.
use native.Mathlib.Omega.{arith}
use mathlib.Core.Path.{refl}
use Rattle.analyze_env.proofs.Chains.{one_more, one_named, has_room}
use Rattle.analyze_env.proofs.Env.insert.Goals as goal

pub bounds-self-inside-self-inside : goal.bounds-self-inside-self-inside
bounds-self-inside-self-inside c = has_room c.self.inside.bindings.now c.self.inside.count c.self.view_is c.requires

pub to-requires : goal.to-requires
to-requires c = omega (arith, has_room c.self.inside.bindings.now c.self.inside.count c.self.view_is c.requires, c.self.invariant.short)

pub invariant_of-self : goal.invariant_of-self
invariant_of-self c =
    one_more _ _ c.self.invariant (has_room c.self.inside.bindings.now c.self.inside.count c.self.view_is c.requires) c.chain_of-chain.ensures (refl, refl, refl) c.to.ensures

pub returns : goal.returns
returns c =
    one_named _ _ c.self.invariant (has_room c.self.inside.bindings.now c.self.inside.count c.self.view_is c.requires) c.chain_of-chain.ensures (refl, refl, refl) c.to.ensures c.self.view_is

-- `analyze_env::Env::get`: along the links of the name's chain. Assumes nothing.
use mathlib.Core.Path.{ap, ◌∙◌}
use Rattle.std.proofs.Common.{rules}
use borrow.Author.Tests.{tests}
use Rattle.definitions.specs.Analyze.{get}
use Rattle.analyze_env.proofs.Chains.{begun, hit, falls, miss, none_left, names_are}
use Rattle.analyze_env.proofs.Env.get.Goals as goal

pub loop-i-init : goal.loop-i-init
loop-i-init c = begun c.self.invariant c.chain_of-chain.ensures

pub returns-then-eq : goal.returns-then-eq
returns-then-eq c =
    hit c.self.invariant c.loop-i.invariant c.in-Some.ensures (search (rules, tests))
    ∙ ap (get c.args.name.0) (names_are c.self.inside.bindings.now c.self.inside.count c.self.view_is)

pub loop-i-smaller : goal.loop-i-smaller
loop-i-smaller c = falls c.self.invariant c.loop-i.invariant c.in-Some.ensures

pub loop-i-preserved : goal.loop-i-preserved
loop-i-preserved c =
    miss c.self.invariant c.loop-i.invariant c.in-Some.ensures (search (rules, tests))

pub returns : goal.returns
returns c =
    none_left c.loop-i.invariant c.in_default.ensures
    ∙ ap (get c.args.name.0) (names_are c.self.inside.bindings.now c.self.inside.count c.self.view_is)

-- `lower_names::held::Scopes::pop_scope`: the oldest names are left, and blanks behind them. Assumes nothing.
use native.Mathlib.Omega.{arith}
use lib.ListN.{take}
use Rattle.lower_names.specs.Back.{taken_length}
use Rattle.lower_names.proofs.Blanks.{counted, fewer_taken, fewer_fit}
use Rattle.lower_names.proofs.HeldList.{cut}
use Rattle.lower_names.proofs.held.Scopes.pop_scope.Goals as goal

pub invariant_of-self : goal.invariant_of-self
invariant_of-self c =
    let i = c.self.inside in
    fewer_fit i c.self.invariant _ (omega (arith, c.requires.0, counted i c.self.invariant c.self.view_is)) _ (c.fill.ensures.after (λ y same. same)) _

pub returns : goal.returns
returns c =
    let i = c.self.inside in
    let few = counted i c.self.invariant c.self.view_is in
    cut (take i.count i.names) i.scope c.self.view_is c.args.mark (fewer_taken i c.self.invariant c.args.mark (omega (arith, c.requires.0, few)) _) (omega (arith, c.requires.0, few, taken_length i c.self.invariant))

-- `lower_names::held::Scopes::declare`: the list is one longer. Assumes nothing.
use mathlib.Core.Path.{refl}
use native.Mathlib.Omega.{arith}
use lib.ListN.{take}
use Rattle.lower_names.proofs.Blanks.{counted, more_taken, more_fit}
use Rattle.lower_names.proofs.HeldList.{more_is}
use Rattle.lower_names.proofs.held.Scopes.declare.Goals as goal

pub invariant_of-self : goal.invariant_of-self
invariant_of-self c =
    let i = c.self.inside in
    more_fit i c.self.invariant _ (omega (arith, c.requires, counted i c.self.invariant c.self.view_is))

pub returns : goal.returns
returns c =
    let i = c.self.inside in
    more_is (take i.count i.names) i.scope c.self.view_is _ (more_taken i c.self.invariant _ (omega (arith, c.requires, counted i c.self.invariant c.self.view_is))) refl

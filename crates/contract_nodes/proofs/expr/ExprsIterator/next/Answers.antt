-- `next` of expressions: `stepped` has what the three lists of this crate have in common; each is a type of its own, so each has its answers. Assumes nothing.
use mathlib.Core.Path.{refl, ap₂, sym, ◌∙◌}
use Prim.Native.Nat.{◌-◌}
use native.Mathlib.Omega.{arith}
use Rattle.definitions.specs.Ast.{econs}
use Rattle.contract_nodes.specs.Ready.{exprs_from}
use Rattle.contract_nodes.specs.declared.expr.Exprs.{Exprs}
use Rattle.contract_nodes.proofs.Standing.{ready_all, stands}
use Rattle.contract_nodes.proofs.Children.{more, no_more, size_fits}
use Rattle.contract_nodes.proofs.Steps.{stepped, goes_on}
use Rattle.contract_nodes.proofs.expr.ExprsIterator.next.Goals as goal

pub returns-then-self-clause-steps : goal.returns-then-self-clause-steps
returns-then-self-clause-steps c = (no_more (ready_all c.args.self.now.ready) c.if-self.true).exprs_is

pub new-expr-requires : goal.new-expr-requires
new-expr-requires c = stands (more (ready_all c.args.self.now.ready) c.if-self.false).ready

pub read-requires : goal.read-requires
read-requires c = size_fits (more (ready_all c.args.self.now.ready) c.if-self.false).ready

pub invariant_of-self : goal.invariant_of-self
invariant_of-self c = record { ready = (stepped c.args.self.now.ready c.if-self.false c.read.ensures.0).rest }

pub returns-clause-steps : goal.returns-clause-steps
returns-clause-steps c =
    let l = c.args.self.now in
    let S = stepped l.ready c.if-self.false c.read.ensures.0 in
    record {
      is = S.first.exprs_is ∙ ap₂ (λ x p. econs x (exprs_from l.contract.sheet.now p l.end)) (sym c.new-expr.ensures.is) (sym S.next);
      sheet = c.new-expr.ensures.same_sheet;
      rest_sheet = refl;
      depth = c.new-expr.ensures.depth;
      rest_depth = refl;
      end = refl;
      less = S.less;
      within = S.within;
    }

pub returns-clause-goes : goal.returns-clause-goes
returns-clause-goes c =
    let S = stepped c.args.self.now.ready c.if-self.false c.read.ensures.0 in
    goes_on (λ (w : Exprs). w.end - w.at) (omega (arith, S.less, S.within))

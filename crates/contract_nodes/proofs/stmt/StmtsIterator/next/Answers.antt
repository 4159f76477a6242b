-- `next` of statements: `stepped` has what the three lists of this crate have in common; each is a type of its own, so each has its answers. Assumes nothing.
use mathlib.Core.Path.{refl, ap, sym, ◌∙◌}
use Prim.Native.Nat.{◌-◌}
use native.Mathlib.Omega.{arith}
use Rattle.definitions.specs.Ast.{scons}
use Rattle.contract_nodes.specs.Ready.{stmt_at, stmts_from}
use Rattle.contract_nodes.specs.declared.stmt.Stmts.{Stmts}
use Rattle.contract_nodes.proofs.Standing.{ready_all, stands}
use Rattle.contract_nodes.proofs.Children.{more, no_more, size_fits}
use Rattle.contract_nodes.proofs.Steps.{stepped, goes_on}
use Rattle.contract_nodes.proofs.stmt.StmtsIterator.next.Goals as goal

pub returns-then-self-clause-steps : goal.returns-then-self-clause-steps
returns-then-self-clause-steps c = ((no_more (ready_all c.args.self.now.ready) c.if-self.true).stmts_is, refl)

pub read-requires : goal.read-requires
read-requires c = size_fits (more (ready_all c.args.self.now.ready) c.if-self.false).ready

pub invariant_of-self : goal.invariant_of-self
invariant_of-self c = record { ready = (stepped c.args.self.now.ready c.if-self.false c.read.ensures.0).rest }

pub invariant_of-stmt : goal.invariant_of-stmt
invariant_of-stmt c = record { ready = stands (more (ready_all c.args.self.now.ready) c.if-self.false).ready }

pub returns-clause-steps : goal.returns-clause-steps
returns-clause-steps c =
    let l = c.args.self.now in
    let S = stepped l.ready c.if-self.false c.read.ensures.0 in
    record {
      is = S.first.stmts_is ∙ ap (λ x. scons (stmt_at l.contract.sheet.now l.at) (stmts_from l.contract.sheet.now x l.end)) (sym S.next);
      sheet = refl;
      rest_sheet = refl;
      depth = refl;
      rest_depth = refl;
      place = refl;
      next = S.next;
      end = refl;
      less = S.less;
      within = S.within;
    }

pub returns-clause-goes : goal.returns-clause-goes
returns-clause-goes c =
    let S = stepped c.args.self.now.ready c.if-self.false c.read.ensures.0 in
    goes_on (λ (w : Stmts). w.end - w.at) (omega (arith, S.less, S.within))

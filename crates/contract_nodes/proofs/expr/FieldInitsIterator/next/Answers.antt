-- `next` of fields: `stepped` has what the three lists of this crate have in common; each is a type of its own, so each has its answers. Assumes nothing.
use mathlib.Core.Path.{refl, sym, ◌∙◌}
use Prim.Native.Nat.{◌-◌}
use native.Mathlib.Omega.{arith}
use Rattle.definitions.specs.Ast.{fcons}
use Rattle.contract_nodes.specs.Ready.{fields_from}
use Rattle.contract_nodes.specs.declared.expr.FieldInits.{FieldInits}
use Rattle.contract_nodes.proofs.Standing.{ready_all, stands}
use Rattle.contract_nodes.proofs.Children.{more, no_more, size_fits, bounds}
use Rattle.contract_nodes.proofs.Steps.{stepped, goes_on, field_at, first_field, no_field}
use Rattle.contract_nodes.proofs.expr.FieldInitsIterator.next.Goals as goal

pub returns-then-self-clause-steps : goal.returns-then-self-clause-steps
returns-then-self-clause-steps c = no_field (no_more (ready_all c.args.self.now.ready) c.if-self.true)

pub read_u16-requires : goal.read_u16-requires
read_u16-requires c = let f = field_at (more (ready_all c.args.self.now.ready) c.if-self.false).ready in omega (arith, f.fits)

pub overflow_sub-self : goal.overflow_sub-self
overflow_sub-self c = (bounds (more (ready_all c.args.self.now.ready) c.if-self.false).ready).deep

pub new-requires-2 : goal.new-requires-2
new-requires-2 c = stands (field_at (more (ready_all c.args.self.now.ready) c.if-self.false).ready).value

pub read-requires : goal.read-requires
read-requires c = size_fits (more (ready_all c.args.self.now.ready) c.if-self.false).ready

pub invariant_of-self : goal.invariant_of-self
invariant_of-self c = record { ready = (stepped c.args.self.now.ready c.if-self.false c.read.ensures.0).rest }

pub returns-clause-steps : goal.returns-clause-steps
returns-clause-steps c =
    let l = c.args.self.now in
    let S = stepped l.ready c.if-self.false c.read.ensures.0 in
    let n = sym (c.new.ensures ∙ c.read_u16.ensures) in
    let v = sym c.new-2.ensures.is in
    let y = sym S.next in
    record {
      place = l.at;
      is = first_field S.first ∙ λ i. fcons l.at (n i) (v i) (fields_from l.contract.sheet.now (y i) l.end);
      sheet = c.new-2.ensures.same_sheet;
      rest_sheet = refl;
      depth = omega (arith, c.new-2.ensures.depth, (bounds S.first.ready).deep);
      rest_depth = refl;
      end = refl;
      less = S.less;
      within = S.within;
    }

pub returns-clause-goes : goal.returns-clause-goes
returns-clause-goes c =
    let S = stepped c.args.self.now.ready c.if-self.false c.read.ensures.0 in
    goes_on (λ (w : FieldInits). w.end - w.at) (omega (arith, S.less, S.within))

-- `verify_refs::check_operands`: the left one, the right one, and their types. Assumes nothing.
use mathlib.Core.Path.{sym, ◌∙◌}
use Rattle.ir.proofs.Exits.{exit}
use Rattle.verify_refs.proofs.Types.{left_failed, right_failed, left_other, right_other, both_fit}
use Rattle.verify_refs.proofs.check_operands.Goals as goal
use Rattle.verify_refs.proofs.check_operands.Goals.{then-not-same_type-via-then-not-same_type, then-not-same_type-via-else-not-same_type+then-not-same_type-2}

pub returns-in_err-lhs : goal.returns-in_err-lhs
returns-in_err-lhs c = rw (exit c.from_residual.ensures.1) (left_failed c.args.ty c.args.l.0 c.args.r.0 c.in_err-lhs.ensures)

pub returns-in_err-rhs : goal.returns-in_err-rhs
returns-in_err-rhs c = rw (exit c.from_residual-in_err-rhs.ensures.1) (right_failed c.args.ty c.args.l.0 c.args.r.0 c.in_ok-lhs.ensures c.in_err-rhs.ensures)

pub returns-then-not-same_type : goal.returns-then-not-same_type
returns-then-not-same_type c =
    elim c.then-not-same_type.branch [
      | then-not-same_type-via-then-not-same_type w ↦ left_other c.args.ty c.args.l.0 c.args.r.0 c.in_ok-lhs.ensures c.in_ok-rhs.ensures (sym c.same_type.ensures ∙ w.if-not-same_type.true)
      | then-not-same_type-via-else-not-same_type+then-not-same_type-2 w ↦
          right_other c.args.ty c.args.l.0 c.args.r.0 c.in_ok-lhs.ensures c.in_ok-rhs.ensures (sym c.same_type.ensures ∙ w.if-not-same_type.false) (sym w.same_type-else-not-same_type.ensures ∙ w.if-not-same_type-2.true)
    ]

pub returns : goal.returns
returns c = both_fit c.args.ty c.args.l.0 c.args.r.0 c.in_ok-lhs.ensures c.in_ok-rhs.ensures (sym c.same_type.ensures ∙ c.if-not-same_type.false) (sym c.same_type-else-not-same_type.ensures ∙ c.if-not-same_type-2.false)

-- `verify_refs::check_return`: nothing, or a value, against the function's type. Assumes nothing.
use mathlib.Core.Path.{sym, ◌∙◌}
use Rattle.ir.proofs.Exits.{exit}
use Rattle.verify_refs.proofs.Types.{nothing_fits, nothing_other, return_failed, void_other, value_other, value_fits}
use Rattle.verify_refs.proofs.check_return.Goals as goal
use Rattle.verify_refs.proofs.check_return.Goals.{then-same_type-2-via-then-same_type-2, then-same_type-2-via-else-same_type-2+then-not-same_type}

pub returns-then-same_type : goal.returns-then-same_type
returns-then-same_type c = nothing_fits c.return_type-expected.result c.return_type-expected.ensures c.in_default.is (sym c.same_type.ensures ∙ c.if-same_type.true)

pub returns-in_default : goal.returns-in_default
returns-in_default c = nothing_other c.return_type-expected.result c.return_type-expected.ensures c.in_default.is (sym c.same_type.ensures ∙ c.if-same_type.false)

pub returns-in_err-got : goal.returns-in_err-got
returns-in_err-got c = rw (exit c.from_residual.ensures.1) (return_failed c.return_type-expected.result c.return_type-expected.ensures c.in-Some.is c.in_err-got.ensures)

pub returns-then-same_type-2 : goal.returns-then-same_type-2
returns-then-same_type-2 c =
    elim c.then-same_type-2.branch [
      | then-same_type-2-via-then-same_type-2 w ↦ void_other c.return_type-expected.result c.return_type-expected.ensures c.in-Some.is c.in_ok-got.ensures (sym c.same_type-2.ensures ∙ w.if-same_type-2.true)
      | then-same_type-2-via-else-same_type-2+then-not-same_type w ↦
          value_other c.return_type-expected.result c.return_type-expected.ensures c.in-Some.is c.in_ok-got.ensures (sym c.same_type-2.ensures ∙ w.if-same_type-2.false) (sym w.same_type-else-same_type-2.ensures ∙ w.if-not-same_type.true)
    ]

pub returns : goal.returns
returns c = value_fits c.return_type-expected.result c.return_type-expected.ensures c.in-Some.is c.in_ok-got.ensures (sym c.same_type-2.ensures ∙ c.if-same_type-2.false) (sym c.same_type-else-same_type-2.ensures ∙ c.if-not-same_type.false)

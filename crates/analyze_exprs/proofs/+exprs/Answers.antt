-- The cycle of expressions meets its contracts; the depth left falls. Assumes nothing.
use mathlib.Core.Path.{◌≡◌, refl, ap, sym, ◌∙◌}
use native.Mathlib.Omega.{arith}
use Rattle.ir.proofs.Exits.{exit}
use Rattle.definitions.specs.Result.{◌>>=◌, ◌>>◌, ok}
use Rattle.definitions.specs.Analyze.{Ty, U64}
use Rattle.analyze_walk.specs.Stops.{Checking, access, check_expr}
use Rattle.analyze_state.specs.State.{analyzed_contract}
use Rattle.analyze_state.proofs.Raising.{raised}
use Rattle.contract_nodes.specs.Nodes.{struct_in, fields_in, count_of}
use Rattle.analyze_exprs.specs.Calls.{param_ty}
use Rattle.analyze_exprs.proofs.Turns.{struct_is, value_is, field_is, no_fields, left_is, right_is, both_typed, call_starts, finishes, goes_on, refuses}
use Rattle.std.specs.Iterator.Adapters.{enumerate_count}
use Rattle.analyze_exprs.proofs.+exprs.Goals as goal

-- AN EXPRESSION
pub analyze_expr-returns-in_err-analyze_expr-in-MappingRead : goal.analyze_expr-returns-in_err-analyze_expr-in-MappingRead
unfolding check_expr
analyze_expr-returns-in_err-analyze_expr-in-MappingRead t c =
    rw (exit c.from_residual.ensures.1, c.in-MappingRead.ensures.is) (ap (λ (r : Checking Ty). r >> ok U64) c.in_err-analyze_expr-in-MappingRead.ensures)

pub analyze_expr-returns-in_err-ty-in-FieldAccess : goal.analyze_expr-returns-in_err-ty-in-FieldAccess
unfolding check_expr
analyze_expr-returns-in_err-ty-in-FieldAccess t c =
    rw (exit c.from_residual-in_err-ty-in-FieldAccess.ensures.1, c.in-FieldAccess.ensures.is)
    (ap (λ (r : Checking Ty). r >>= access (analyzed_contract c.args.a.now) c.args.e.at c.in-FieldAccess.field.0) c.in_err-ty-in-FieldAccess.ensures)

pub analyze_expr-returns-in_err-l-in-Binary : goal.analyze_expr-returns-in_err-l-in-Binary
analyze_expr-returns-in_err-l-in-Binary t c =
    rw (exit c.from_residual-in_err-l-in-Binary.ensures.1, c.in-Binary.ensures.is) (left_is _ _ _ _ _ _ c.in_err-l-in-Binary.ensures)

pub analyze_expr-returns-in_err-r-in-Binary : goal.analyze_expr-returns-in_err-r-in-Binary
analyze_expr-returns-in_err-r-in-Binary t c =
    rw (exit c.from_residual-in_err-r-in-Binary.ensures.1, c.in-Binary.ensures.is) (right_is _ _ _ _ _ _ c.in_ok-l-in-Binary.ensures c.in_err-r-in-Binary.ensures)

-- the operands' types differ, or not
pub analyze_expr-returns-then-differs : goal.analyze_expr-returns-then-differs
analyze_expr-returns-then-differs t c =
    rw c.in-Binary.ensures.is (both_typed _ _ _ _ _ _ c.in_ok-l-in-Binary.ensures c.in_ok-r-in-Binary.ensures (sym c.if-differs.true ∙ c.differs.ensures))

pub analyze_expr-returns-else-differs : goal.analyze_expr-returns-else-differs
analyze_expr-returns-else-differs t c =
    rw c.in-Binary.ensures.is (both_typed _ _ _ _ _ _ c.in_ok-l-in-Binary.ensures c.in_ok-r-in-Binary.ensures (sym c.if-differs.false ∙ c.differs.ensures))

-- A STRUCT LITERAL
pub analyze_literal-returns-in_err-of : goal.analyze_literal-returns-in_err-of
analyze_literal-returns-in_err-of t c =
    rw (exit c.from_residual.ensures.1) (struct_is (analyzed_contract c.args.a.now) c.args.env.now.names c.args.at c.args.name.0 (fields_in c.args.inits) (raised struct_in _ _ c.named.ensures.is c.in_err-of.ensures.value))

pub analyze_literal-loop-init-init : goal.analyze_literal-loop-init-init
analyze_literal-loop-init-init t c =
    rw c.into_iter-init-iterator.ensures.into_iter_gives (record {
      sheet = c.requires;
      depth = refl;
      is = struct_is _ _ _ _ _ (raised struct_in _ _ c.named.ensures.is c.in_ok-of.ensures.value);
    })

pub analyze_literal-analyze_expr-requires : goal.analyze_literal-analyze_expr-requires
analyze_literal-analyze_expr-requires t c =
    let f = c.in-Some.ensures.steps in
    (omega (arith, c.decreases, f.depth, c.loop-init.invariant.depth), f.sheet ∙ c.loop-init.invariant.sheet)

pub analyze_literal-returns-in_err-ty : goal.analyze_literal-returns-in_err-ty
analyze_literal-returns-in_err-ty t c =
    rw (exit c.from_residual-in_err-ty.ensures.1) (value_is _ _ _ _ _ c.in-Some.ensures.steps.is c.loop-init.invariant.is c.in_err-ty.ensures)

pub analyze_literal-returns-in_err-check_field : goal.analyze_literal-returns-in_err-check_field
analyze_literal-returns-in_err-check_field t c =
    rw (exit c.from_residual-in_err-check_field.ensures.1) (field_is _ _ _ _ _ c.in-Some.ensures.steps.is c.loop-init.invariant.is c.in_ok-ty.ensures c.in_err-check_field.ensures)

pub analyze_literal-loop-init-preserved : goal.analyze_literal-loop-init-preserved
analyze_literal-loop-init-preserved t c =
    let f = c.in-Some.ensures.steps in
    record {
      sheet = f.rest_sheet ∙ c.loop-init.invariant.sheet;
      depth = f.rest_depth ∙ c.loop-init.invariant.depth;
      is = field_is _ _ _ _ _ f.is c.loop-init.invariant.is c.in_ok-ty.ensures c.in_ok-check_field.ensures;
    }

pub analyze_literal-returns : goal.analyze_literal-returns
analyze_literal-returns t c = no_fields _ _ _ _ _ c.in-None.ensures.steps c.loop-init.invariant.is

-- A CALL
pub analyze_call-loop-i-init : goal.analyze_call-loop-i-init
analyze_call-loop-i-init t c =
    rw (c.into_iter-i-iterator.ensures.into_iter_gives, c.enumerate-i-items.ensures.source, c.enumerate-i-items.ensures.count) (record {
      sheet = c.requires;
      depth = refl;
      few = omega arith;
      many = omega arith;
      left = rw c.signature_named-signature.ensures (call_starts _ _ _ _ _);
    })

pub analyze_call-analyze_expr-requires : goal.analyze_call-analyze_expr-requires
analyze_call-analyze_expr-requires t c =
    let f = c.in-Some.ensures.steps.0 in
    (omega (arith, c.decreases, f.depth, c.loop-i.invariant.depth), f.sheet ∙ c.loop-i.invariant.sheet)

pub analyze_call-returns-in_err-ty : goal.analyze_call-returns-in_err-ty
analyze_call-returns-in_err-ty t c =
    rw (exit c.from_residual.ensures.1) (refuses c.loop-i.invariant.left c.in-Some.ensures.steps.0.is c.in_err-ty.ensures)

pub analyze_call-loop-i-preserved : goal.analyze_call-loop-i-preserved
analyze_call-loop-i-preserved t c =
    let i = c.loop-i.invariant in
    let s = c.in-Some.ensures.steps in
    let f = s.0 in
    record {
      sheet = f.rest_sheet ∙ i.sheet;
      depth = f.rest_depth ∙ i.depth;
      few = omega (arith, f.less, i.few, s.2);
      many = omega (arith, ap count_of f.is, i.many, s.2);
      left = rw s.2 (goes_on i.left f.is c.in_ok-ty.ensures c.differs.ensures (c.param_ty.ensures ∙ ap (param_ty _) s.1));
    }

pub analyze_call-returns : goal.analyze_call-returns
analyze_call-returns t c =
    let i = c.loop-i.invariant in
    let all : c.len.result ≡ enumerate_count c.loop-i.i-iterator = omega (arith, i.many, c.len.ensures, ap count_of c.in-None.ensures.steps.0) in
    c.finished.ensures ∙ rw all (finishes i.left c.in-None.ensures.steps.0)

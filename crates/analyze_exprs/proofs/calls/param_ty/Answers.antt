-- `analyze_exprs::calls::param_ty`: by what is called. Assumes nothing.
use mathlib.Core.Path.{ap, ◌∙◌}
use native.Mathlib.Omega.{arith}
use Rattle.definitions.specs.Analyze.{known}
use Rattle.contract_nodes.specs.Nodes.{function_in}
use Rattle.analyze_exprs.proofs.SignatureSteps.{u64_there, past_u64s, type_there, past_params, param_of, built_in, declared}
use Rattle.analyze_exprs.proofs.calls.param_ty.Goals as goal

pub returns-in-Some-BuiltIn : goal.returns-in-Some-BuiltIn
returns-in-Some-BuiltIn c =
    let k = c.in-Some-BuiltIn in
    param_of k.is c.args.i (built_in (rw k.is at k.field-0-is)) (u64_there k.many c.args.i c.if-i-many.true)

pub returns-in-Some-Declared : goal.returns-in-Some-Declared
returns-in-Some-Declared c =
    let k = c.in-Some-Declared in
    param_of k.is c.args.i (declared (rw k.is at k.field-0-is)) (ap known c.from_str.ensures ∙ type_there (function_in k.f).params c.args.i c.param.result c.param.ensures)

pub returns-in_default : goal.returns-in_default
returns-in_default c =
    let k = c.in-Some-BuiltIn in
    param_of k.is c.args.i (built_in (rw k.is at k.field-0-is)) (past_u64s k.many c.args.i c.if-i-many.false)

pub returns-in_default-2 : goal.returns-in_default-2
returns-in_default-2 c =
    let k = c.in-Some-Declared in
    param_of k.is c.args.i (declared (rw k.is at k.field-0-is)) (past_params (function_in k.f).params c.args.i (omega (arith, c.param_count.ensures.count, c.if-i-param_count.false)))

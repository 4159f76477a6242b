-- `analyze_exprs::calls::finished`: by what is called. Assumes nothing.
use mathlib.Core.Path.{refl, sym, ap, ◌∙◌}
use Rattle.definitions.specs.Sema.{return_type}
use Rattle.contract_nodes.specs.Nodes.{function_in}
use Rattle.analyze_exprs.proofs.SignatureSteps.{u64s_length, types_length, call_of, built_in, declared}
use Rattle.analyze_exprs.proofs.calls.finished.Goals as goal

pub returns-in-BuiltIn : goal.returns-in-BuiltIn
returns-in-BuiltIn c =
    let k = c.in-BuiltIn in
    call_of c.in_ok-many.ensures.ok_part c.args.at c.args.n c.args.fits (built_in k.is) (u64s_length k.many) refl c.finished_with.ensures

pub returns-in-Declared : goal.returns-in-Declared
returns-in-Declared c =
    let k = c.in-Declared in
    call_of c.in_ok-many.ensures.ok_part c.args.at c.args.n c.args.fits (declared k.is) (types_length (function_in k.f).params ∙ sym c.param_count.ensures.count)
    (c.return_type-in-Declared.ensures ∙ ap return_type c.return_type.ensures) c.finished_with-in-Declared.ensures

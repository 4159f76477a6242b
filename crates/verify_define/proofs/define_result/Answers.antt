-- `verify_define::define_result`: no result, none that it gives, one that was there, a new one. Assumes nothing.
use mathlib.Core.Path.{sym, ◌∙◌}
use Rattle.std.proofs.lemmas.Bool.{both_ways}
use Rattle.verify_define.proofs.Firsts.{no_result, result_on_none, result_twice, result_once, kind_is}
use Rattle.verify_define.proofs.define_result.Goals as goal

pub returns-in_default : goal.returns-in_default
returns-in_default c = no_result c.args.f _ _ c.in_default.ensures

pub returns-in_default-result_type : goal.returns-in_default-result_type
returns-in_default-result_type c = result_on_none c.args.f _ _ c.in-Some.ensures (c.kind_number.ensures ∙ kind_is c.args.instr) c.in_default-result_type.ensures

pub returns-then-not-first : goal.returns-then-not-first
returns-then-not-first c = result_twice c.args.f _ _ c.in-Some.ensures c.in-Some-result_type.ensures (λ z. both_ways _ c.if-not-first.true (c.is_first_definition-first.ensures ∙ z))

pub returns : goal.returns
returns c = result_once c.args.f _ _ c.in-Some.ensures c.in-Some-result_type.ensures (sym c.is_first_definition-first.ensures ∙ c.if-not-first.false)

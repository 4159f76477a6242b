-- `verify_define::define_params`: what is left says what the whole says. Assumes nothing.
use Rattle.definitions.specs.Verify.{define_params}
use Rattle.program_nodes.specs.Nodes.{ir_of, params_in, params_of, param_definitions_in}
use Rattle.verify_define.proofs.Firsts.{Rest}
use Rattle.verify_define.proofs.define_params.Given as goal

abbrev pub invariant-loop-param : goal.invariant-loop-param
invariant-loop-param l = Rest l.f (params_of l.f) (define_params (ir_of l.f).params) (param_definitions_in l.param-iterator) (define_params (params_in l.param-iterator))

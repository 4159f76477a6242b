-- `program_nodes::program::Program::new`: what the check of the form says. Assumes nothing.
use mathlib.Core.Path.{sym, ◌∙◌}
use Rattle.sheet.proofs.Standing.{good}
use Rattle.sheet.specs.Forms.{form_of}
use Rattle.program_nodes.proofs.Facts.{fault_of}
use Rattle.program_nodes.proofs.FunctionSteps.{program_at}
use Rattle.program_nodes.proofs.program.Program.new.Goals as goal

pub returns-in_err-program_form-clause-is : goal.returns-in_err-program_form-clause-is
unfolding form_of
returns-in_err-program_form-clause-is c = fault_of c.from_residual.result c.from_residual.ensures.1 ∙ c.in_err-program_form.ensures

pub invariant_of-result : goal.invariant_of-result
unfolding form_of
invariant_of-result c = record { passed = good (program_at c.args.sheet.now (sym c.in_ok-program_form.ensures)).records }

pub returns-clause-is : goal.returns-clause-is
unfolding form_of
returns-clause-is c = c.in_ok-program_form.ensures

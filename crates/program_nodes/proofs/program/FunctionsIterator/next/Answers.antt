-- `program_nodes::program::FunctionsIterator::next`: a function stands there, or none is left. Assumes nothing.
use mathlib.Core.Path.{◌≡◌, refl, sym, ◌∙◌}
use Prim.Native.Nat.{◌<◌}
use native.Mathlib.Omega.{arith}
use lib.ListN.{length}
use borrow.Author.Rules.{rules}
use Rattle.sheet.proofs.Standing.{good, kept}
use Rattle.sheet.specs.Passed.{record_kind}
use Rattle.program_nodes.proofs.FunctionSteps.{head_there, no_functions}
use Rattle.program_nodes.proofs.Facts.{function_is}
use Rattle.program_nodes.proofs.Takes.{first_function}
use Rattle.program_nodes.proofs.program.FunctionsIterator.next.Goals as goal

pub returns-then-len-at-clause-steps : goal.returns-then-len-at-clause-steps
returns-then-len-at-clause-steps c = (no_functions (kept c.args.self.now.here) (λ h k. omega (arith, h, c.len.ensures, c.if-len-at.true)), refl)

pub overflow_add-at : goal.overflow_add-at
overflow_add-at c = omega (arith, head_there (kept c.args.self.now.here) (omega (arith, c.len.ensures, c.if-len-at.false)), c.len.ensures, c.len.type_inv)

pub read_u16-requires : goal.read_u16-requires
read_u16-requires c = omega (arith, head_there (kept c.args.self.now.here) (omega (arith, c.len.ensures, c.if-len-at.false)))

pub returns-then-read_u16-from-clause-steps : goal.returns-then-read_u16-from-clause-steps
returns-then-read_u16-from-clause-steps c = (no_functions (kept c.args.self.now.here) (λ h k. c.if-read_u16-from.true (c.read_u16.ensures ∙ (k ∙ sym c.from.ensures))), refl)

pub function_at-function-requires : goal.function_at-function-requires
function_at-function-requires c =
    let w = c.args.self.now in
    let k : record_kind w.program.sheet.now w.at ≡ 51 = sym c.read_u16.ensures ∙ (c.if-read_u16-from.false ∙ c.from.ensures) in
    (w.here, (omega (arith, c.len.ensures, c.if-len-at.false), k))

pub invariant_of-self : goal.invariant_of-self
invariant_of-self c = let F = function_is c.function_at-function.result in record { here = rw (← c.function_at-function.ensures.0) (good F.next) }

pub returns-clause-steps : goal.returns-clause-steps
returns-clause-steps c = let e = c.function_at-function.ensures in first_function c.function_at-function.result e.0 e.1 refl refl

pub returns-clause-goes : goal.returns-clause-goes
returns-clause-goes c =
    let w = c.args.self.now in
    let F = function_is c.function_at-function.result in
    let more : w.at < c.function_at-function.result.stop = omega (arith, F.first_is, F.low, c.function_at-function.ensures.1) in
    let inside : w.at < length w.program.sheet.now = omega (arith, c.len.ensures, c.if-len-at.false) in
    search rules

-- `program_nodes::program::function_at`: a function stands there, so its fields end within the sheet. Assumes nothing.
use Prim.Native.Nat.{◌≤◌}
use native.Mathlib.Omega.{arith}
use lib.ListN.{length}
use borrow.Author.Rules.{rules}
use Rattle.sheet.specs.Passed.{stop_of}
use Rattle.sheet.proofs.Standing.{kept}
use Rattle.program_nodes.specs.Positions.{first_block}
use Rattle.program_nodes.proofs.FunctionSteps.{function_fits}
use Rattle.program_nodes.proofs.program.function_at.Goals as goal

pub locals_at-locals-requires : goal.locals_at-locals-requires
locals_at-locals-requires c = let r = function_fits (kept c.requires.0) c.requires.1.0 c.requires.1.1 in omega (arith, r.0, r.1)

pub overflow_add-result : goal.overflow_add-result
overflow_add-result c =
    let s = c.args.program.sheet.now in
    let r = function_fits (kept c.requires.0) c.requires.1.0 c.requires.1.1 in
    let low : first_block s c.args.at ≤ stop_of s c.args.at = r.0 in
    let high : stop_of s c.args.at ≤ length s = r.1 in
    search rules

pub read-requires : goal.read-requires
read-requires c = let r = function_fits (kept c.requires.0) c.requires.1.0 c.requires.1.1 in (omega (arith, c.locals_at-locals.ensures, r.0, r.1), omega arith)

pub overflow_add-result-2 : goal.overflow_add-result-2
overflow_add-result-2 c =
    let s = c.args.program.sheet.now in
    let r = function_fits (kept c.requires.0) c.requires.1.0 c.requires.1.1 in
    let low : first_block s c.args.at ≤ stop_of s c.args.at = r.0 in
    let high : stop_of s c.args.at ≤ length s = r.1 in
    search rules

pub read-requires-2 : goal.read-requires-2
read-requires-2 c = let r = function_fits (kept c.requires.0) c.requires.1.0 c.requires.1.1 in (omega (arith, r.0, r.1), omega arith)

pub read_u16-requires : goal.read_u16-requires
read_u16-requires c = let r = function_fits (kept c.requires.0) c.requires.1.0 c.requires.1.1 in omega (arith, r.0, r.1)

pub invariant_of-result : goal.invariant_of-result
invariant_of-result c =
    let s = c.args.program.sheet.now in
    let r = function_fits (kept c.requires.0) c.requires.1.0 c.requires.1.1 in
    let low : first_block s c.args.at ≤ stop_of s c.args.at = r.0 in
    let high : stop_of s c.args.at ≤ length s = r.1 in
    search rules

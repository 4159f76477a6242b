-- `verify::verify`: the length, the form, then the functions. Assumes nothing.
use native.Mathlib.Omega.{arith}
use Rattle.ir.proofs.Exits.{exit}
use Rattle.sheet.specs.Forms.{form_of}
use Rattle.verify.proofs.Whole.{too_long, malformed, accepted, refused}
use Rattle.verify.proofs.verify.Goals as goal

pub returns-then-sheet-gt-MOST_BYTES : goal.returns-then-sheet-gt-MOST_BYTES
returns-then-sheet-gt-MOST_BYTES c = too_long c.args.sheet.now c.if-sheet-gt-MOST_BYTES.true

pub returns-in_err-program : goal.returns-in_err-program
unfolding form_of
returns-in_err-program c =
    rw (exit c.from_residual.ensures.1) (malformed c.args.sheet.now (omega (arith, c.if-sheet-gt-MOST_BYTES.false)) _ c.in_err-program.ensures.is)

pub returns-in_err-verify_program : goal.returns-in_err-verify_program
unfolding form_of
returns-in_err-verify_program c =
    rw (exit c.from_residual-in_err-verify_program.ensures.1) (refused c.args.sheet.now (omega (arith, c.if-sheet-gt-MOST_BYTES.false)) c.in_ok-program.program c.in_ok-program.ensures.same_sheet c.in_ok-program.ensures.is c.in_err-verify_program.ensures)

pub returns : goal.returns
unfolding form_of
returns c = accepted c.args.sheet.now (omega (arith, c.if-sheet-gt-MOST_BYTES.false)) c.in_ok-program.program c.in_ok-program.ensures.same_sheet c.in_ok-program.ensures.is c.in_ok-verify_program.ensures

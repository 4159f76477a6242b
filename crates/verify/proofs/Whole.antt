-- The answer to a sheet: too long, malformed, or what the functions give. Assumes nothing.
use mathlib.Core.Path.{◌≡◌, ap, sym}
use mathlib.Core.List.{List, [], ◌∷◌}
use Prim.Native.Nat.{ℕ, ◌≤◌, ◌<◌}
use lib.ListN.{length}
use borrow.Author.Tests.{le-leb, lt-leb}
use Rattle.definitions.specs.Result.{err, ok}
use Rattle.definitions.specs.Ir.{IrFunction}
use Rattle.definitions.specs.Records.{Good, Bad}
use Rattle.definitions.specs.ProgramSheet.{read_program, refusal40}
use Rattle.definitions.specs.Verify.{VerifyError, function_ids, verify_functions, verify_program}
use Rattle.definitions.specs.Answers.{refusal, verify_refusal, verify_sheet}
use Rattle.program_nodes.specs.Positions.{functions_here}
use Rattle.program_nodes.specs.Nodes.{functions_of, ids_of_all}
use Rattle.program_nodes.specs.declared.program.Program.{Program}
use Rattle.program_nodes.proofs.FunctionSteps.{program_at}

module _ (s : List ℕ) where
  pub too_long : 32768 < length s → err (refusal 1 []) ≡ verify_sheet s
  unfolding verify_sheet
  too_long h = rw (lt-leb (length s) 32768 h)

  module _ (h : length s ≤ 32768) where
    pub malformed : (p : ℕ) → Bad p ≡ refusal40 s → err (refusal 40 (p ∷ [])) ≡ verify_sheet s
    unfolding verify_sheet
    malformed p e = rw (le-leb (length s) 32768 h, ← e)

    module _ (p : Program) (same : p.sheet.now ≡ s) (form : Good ≡ refusal40 s) where
      program_is : verify_program (read_program s) ≡ verify_functions (functions_of p) (ids_of_all p)
      unfolding verify_program functions_here
      program_is = rw same (ap (λ (fs : List IrFunction). verify_functions fs (function_ids fs)) (program_at s (sym form)).functions)

      pub accepted : ok tt ≡ verify_functions (functions_of p) (ids_of_all p) → ok [] ≡ verify_sheet s
      unfolding verify_sheet
      accepted f = rw (le-leb (length s) 32768 h, ← form, program_is, ← f)

      pub refused : {x : ℕ × VerifyError} → err x ≡ verify_functions (functions_of p) (ids_of_all p) → err (verify_refusal x) ≡ verify_sheet s
      unfolding verify_sheet
      refused f = rw (le-leb (length s) 32768 h, ← form, program_is, ← f)

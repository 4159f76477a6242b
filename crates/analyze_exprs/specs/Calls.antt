-- Calls: the signature of what is called, and whether the arguments so far fit. Assumes nothing: these are definitions.
use Rattle.std.specs.Prelude.{ℕ, zero, suc, Bool, true, not, ◌&&◌, List, [], ◌∷◌, Option, eqb, length}
use Rattle.std.proofs.Math.Option as maths
use Rattle.definitions.specs.Result.{ok, ◌>>=◌, ◌>>◌, ok_or_else, check}
use Rattle.definitions.specs.Analyze as analyze
use Rattle.definitions.specs.Analyze.{known, Unknown, differs, Signature}
use Rattle.definitions.specs.Ir.{IrType}
use Rattle.definitions.specs.Sema.{return_type}
use Rattle.ir.specs.Answers.{option_of}
use Rattle.contract_nodes.specs.Nodes.{function_in}
use Rattle.analyze_walk.specs.Stops.{Checking, sema}
use Rattle.analyze_exprs.specs.declared.calls.Signature as code
use Rattle.analyze_exprs.specs.declared.calls.Signature.TheVariants as signature

-- so many parameters of type U64
abbrev pub u64s : ℕ → List IrType
u64s zero = []
u64s (suc n) = IrType.U64 ∷ u64s n

-- the signature of what is called
abbrev pub signature_in : code.Signature → Signature
signature_in (signature.BuiltIn n) = (u64s n, IrType.U64)
signature_in (signature.Declared f) = (analyze.param_types (function_in f).params, return_type (function_in f).return_type)

abbrev pub signature_found : Option code.Signature → maths.Option Signature
signature_found c = option_of signature_in c

-- the type of the i-th parameter; Unknown, which differs from nothing, if there is none
abbrev pub nth_ty : List IrType → ℕ → analyze.Ty
nth_ty [] i = Unknown
nth_ty (t ∷ ts) zero = known t
nth_ty (t ∷ ts) (suc i) = nth_ty ts i

abbrev pub param_ty : maths.Option Signature → ℕ → analyze.Ty
param_ty maths.none i = Unknown
param_ty (maths.some sig) i = nth_ty sig.0 i

-- no argument's type differs from its parameter's
unfoldable pub fitting : List IrType → List analyze.Ty → Bool
fitting [] acts = true
fitting (exp ∷ exps) [] = true
fitting (exp ∷ exps) (act ∷ acts) = not (differs (known exp) act) && fitting exps acts

-- the same of what is called; true if that is nothing
abbrev pub params_fitting : maths.Option Signature → List analyze.Ty → Bool
params_fitting maths.none acts = true
params_fitting (maths.some sig) acts = fitting sig.0 acts

-- a call of n arguments, which fit or do not: with so many parameters and a return type, and of what is called
abbrev pub finished_with : (p many n : ℕ) → Bool → IrType → Checking analyze.Ty
finished_with p many n fits ret = do
  check (eqb many n) (sema p 10)
  check fits (sema p 11)
  ok (known ret)

abbrev pub finished : (p : ℕ) → maths.Option Signature → (n : ℕ) → Bool → Checking analyze.Ty
finished p sig n fits = do
  (params, ret) ← ok_or_else sig (sema p 12)
  finished_with p (length params) n fits ret

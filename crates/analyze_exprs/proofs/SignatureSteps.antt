-- The signature of what is called, and its parameters one by one. Assumes nothing.
use mathlib.Core.Path.{◌≡◌, refl, ap}
use mathlib.Core.Bool.{Bool}
use mathlib.Core.List.{List, [], ◌∷◌}
use Rattle.std.specs.Prelude.{Option, Some}
use Prim.Native.Nat.{ℕ, zero, suc, ◌≤◌, ◌<◌}
use native.Mathlib.Omega.{arith}
use lib.ListN.{length}
use Rattle.definitions.specs.Ast.{Param}
use Rattle.definitions.specs.Ir.{IrType}
use Rattle.definitions.specs.Sema.{from_str, return_type}
use Rattle.definitions.specs.Analyze.{Ty, known, Unknown, U64, Signature, param_types}
use Rattle.contract_nodes.specs.Nodes.{param_is, function_in}
use Rattle.contract_nodes.specs.declared.contract.Function.{Function}
use Rattle.contract_nodes.specs.declared.contract.Param as code
use Rattle.analyze_walk.specs.Stops.{Checking}
use Rattle.analyze_exprs.specs.declared.calls.Signature as called
use Rattle.analyze_exprs.specs.declared.calls.Signature.TheVariants as signature
use Rattle.analyze_exprs.specs.Calls.{u64s, signature_in, signature_found, nth_ty, param_ty, finished_with, finished}

-- THE PARAMETERS of a built-in function
pub u64s_length : (many : ℕ) → length (u64s many) ≡ many
u64s_length zero = refl
u64s_length (suc n) = ap suc (u64s_length n)

pub u64_there : (many i : ℕ) → i < many → U64 ≡ nth_ty (u64s many) i
u64_there zero i h = absurd (omega arith)
u64_there (suc n) zero h = refl
u64_there (suc n) (suc i) h = u64_there n i (omega arith)

-- there is no i-th one
past_all : (ts : List IrType) (i : ℕ) → length ts ≤ i → Unknown ≡ nth_ty ts i
past_all [] i h = refl
past_all (t ∷ ts) zero h = absurd (omega arith)
past_all (t ∷ ts) (suc i) h = past_all ts i (omega arith)

pub past_u64s : (many i : ℕ) → many ≤ i → Unknown ≡ nth_ty (u64s many) i
past_u64s many i h = past_all (u64s many) i (omega (arith, u64s_length many))

-- THE PARAMETERS of a function of the contract
pub types_length : (ps : List Param) → length (param_types ps) ≡ length ps
types_length [] = refl
types_length (p ∷ ps) = ap suc (types_length ps)

pub type_there : (ps : List Param) (i : ℕ) (p : code.Param) → param_is p ps i → known (from_str p.ty.0) ≡ nth_ty (param_types ps) i
type_there [] i p h = absurd h
type_there (q ∷ ps) zero p h = rw h.1
type_there (q ∷ ps) (suc i) p h = type_there ps i p h

pub past_params : (ps : List Param) (i : ℕ) → length ps ≤ i → Unknown ≡ nth_ty (param_types ps) i
past_params ps i h = past_all (param_types ps) i (omega (arith, types_length ps))

-- BY WHAT IS CALLED, once the code's answer is taken apart
module _ {k : Option called.Signature} {v : called.Signature} (found : k ≡ Some v) where
  pub param_of : {sig : Signature} {X : Ty} (i : ℕ) → signature_in v ≡ sig → X ≡ nth_ty sig.0 i → X ≡ param_ty (signature_found k) i
  param_of i e h = rw (found, e) h

  pub call_of : {params : List IrType} {ret t : IrType} {m : ℕ} {X : Checking Ty} (p n : ℕ) (fits : Bool) → signature_in v ≡ (params, ret) → length params ≡ m → t ≡ ret → X ≡ finished_with p m n fits t → X ≡ finished p (signature_found k) n fits
  call_of p n fits e long r h = rw (found, e, long, ← r) h

pub built_in : {v : called.Signature} {many : ℕ} → v ≡ signature.BuiltIn many → signature_in v ≡ (u64s many, IrType.U64)
built_in e = rw e

pub declared : {v : called.Signature} {f : Function} → v ≡ signature.Declared f → signature_in v ≡ (param_types (function_in f).params, return_type (function_in f).return_type)
declared e = rw e

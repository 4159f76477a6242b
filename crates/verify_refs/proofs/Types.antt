-- What is said of operands, a return and a branch's value, by their types. Assumes nothing.
use mathlib.Core.Path.{◌≡◌}
use mathlib.Core.Bool.{true, false}
use mathlib.Core.Option.{none, some}
use Prim.Native.Nat.{ℕ}
use Rattle.std.specs.Prelude.{Option, None, Some, Ok, Err}
use Rattle.definitions.specs.Result.{err, ok}
use Rattle.definitions.specs.Ir as ir
use Rattle.definitions.specs.Ir.{eq_type}
use Rattle.definitions.specs.Verify.{VerifyError, check_value_ref}
use Rattle.ir.specs.Types.{as_type}
use Rattle.ir.specs.declared.IrType.{IrType}
use Rattle.ir.specs.declared.ValueId.{ValueId}
use Rattle.program_nodes.specs.Nodes.{ir_of}
use Rattle.program_nodes.specs.declared.program.Function.{Function}
use Rattle.verify_state.specs.Errors.{error_of}
use Rattle.verify_state.specs.Promises.{Checks}
use Rattle.verify_state.specs.declared.VerifyError.{VerifyError as Fault}
use Rattle.verify_state.proofs.Steps.{failed}
use Rattle.verify_refs.specs.Promises.{Finds, operands_check, return_check, condition_check}
use Rattle.verify_refs.proofs.Values.{value_failed, value_is}

-- OPERANDS
module _ {f : Function} (ty : IrType) (l r : ℕ) where
  pub left_failed : {x : Fault} → Finds f l (Err x) → Checks f (err (error_of x)) (operands_check ty l r)
  unfolding operands_check
  left_failed F = record { says = λ ds S. failed f.name.0 (check_value_ref l ds) _ ((value_failed F).says ds S) }

  module _ {a : IrType} (F : Finds f l (Ok a)) where
    pub right_failed : {x : Fault} → Finds f r (Err x) → Checks f (err (error_of x)) (operands_check ty l r)
    unfolding operands_check
    right_failed G = record { says = λ ds S. rw (value_is F ds S) (failed f.name.0 (check_value_ref r ds) _ ((value_failed G).says ds S)) }

    module _ {b : IrType} (G : Finds f r (Ok b)) where
      pub left_other : eq_type (as_type a) (as_type ty) ≡ false → Checks f (err (f.name.0, VerifyError.OperandTypeMismatch (as_type a) (as_type b))) (operands_check ty l r)
      unfolding operands_check
      left_other e = record { says = λ ds S. rw (value_is F ds S, value_is G ds S, e) }

      module _ (e : eq_type (as_type a) (as_type ty) ≡ true) where
        pub right_other : eq_type (as_type b) (as_type ty) ≡ false → Checks f (err (f.name.0, VerifyError.OperandTypeMismatch (as_type a) (as_type b))) (operands_check ty l r)
        unfolding operands_check
        right_other g = record { says = λ ds S. rw (value_is F ds S, value_is G ds S, e, g) }

        pub both_fit : eq_type (as_type b) (as_type ty) ≡ true → Checks f (ok tt) (operands_check ty l r)
        unfolding operands_check
        both_fit g = record { says = λ ds S. rw (value_is F ds S, value_is G ds S, e, g) }

-- THE VALUE OF A BRANCH
module _ {f : Function} {v : ℕ} where
  pub condition_failed : {x : Fault} → Finds f v (Err x) → Checks f (err (error_of x)) (condition_check v)
  unfolding condition_check
  condition_failed F = record { says = λ ds S. failed f.name.0 (check_value_ref v ds) _ ((value_failed F).says ds S) }

  module _ {t : IrType} (F : Finds f v (Ok t)) where
    pub condition_other : eq_type (as_type t) ir.IrType.BoolT ≡ false → Checks f (err (f.name.0, VerifyError.BranchConditionNotBool v (as_type t))) (condition_check v)
    unfolding condition_check
    condition_other e = record { says = λ ds S. rw (value_is F ds S, e) }

    pub condition_fits : eq_type (as_type t) ir.IrType.BoolT ≡ true → Checks f (ok tt) (condition_check v)
    unfolding condition_check
    condition_fits e = record { says = λ ds S. rw (value_is F ds S, e) }

-- A RETURN, against the function's type
module _ {f : Function} {value : Option ValueId} (expected : IrType) (e : as_type expected ≡ (ir_of f).ret_ty) where
  module _ (n : value ≡ None) where
    pub nothing_fits : eq_type (as_type expected) ir.IrType.Void ≡ true → Checks f (ok tt) (return_check f value)
    unfolding return_check
    nothing_fits t = record { says = λ ds S. rw (n, rw e at t) }

    pub nothing_other : eq_type (as_type expected) ir.IrType.Void ≡ false → Checks f (err (f.name.0, VerifyError.ReturnTypeMismatch (as_type expected) none)) (return_check f value)
    unfolding return_check
    nothing_other t = record { says = λ ds S. rw (n, e, rw e at t) }

  module _ {v : ValueId} (n : value ≡ Some v) where
    pub return_failed : {x : Fault} → Finds f v.0 (Err x) → Checks f (err (error_of x)) (return_check f value)
    unfolding return_check
    return_failed F = record { says = λ ds S. rw n (failed f.name.0 _ _ (failed f.name.0 (check_value_ref v.0 ds) _ ((value_failed F).says ds S))) }

    module _ {t : IrType} (F : Finds f v.0 (Ok t)) where
      pub void_other : eq_type (as_type expected) ir.IrType.Void ≡ true → Checks f (err (f.name.0, VerifyError.ReturnTypeMismatch (as_type expected) (some (as_type t)))) (return_check f value)
      unfolding return_check
      void_other z = record { says = λ ds S. rw (n, value_is F ds S, e, rw e at z) }

      module _ (z : eq_type (as_type expected) ir.IrType.Void ≡ false) where
        pub value_other : eq_type (as_type expected) (as_type t) ≡ false → Checks f (err (f.name.0, VerifyError.ReturnTypeMismatch (as_type expected) (some (as_type t)))) (return_check f value)
        unfolding return_check
        value_other y = record { says = λ ds S. rw (n, value_is F ds S, e, rw e at z, rw e at y) }

        pub value_fits : eq_type (as_type expected) (as_type t) ≡ true → Checks f (ok tt) (return_check f value)
        unfolding return_check
        value_fits y = record { says = λ ds S. rw (n, value_is F ds S, rw e at z, rw e at y) }

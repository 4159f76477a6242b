-- What the checks of their parts say of an instruction and of a terminator. Assumes nothing.
use mathlib.Core.Path.{◌≡◌, refl, sym, ◌∙◌}
use mathlib.Core.List.{[], ◌∷◌}
use Prim.Native.Nat.{ℕ}
use Rattle.std.specs.Prelude.{Option, Result, Ok, Err}
use Rattle.definitions.specs.Result.{err, ok, ◌>>=◌, ◌>>◌, check, Done}
use Rattle.definitions.specs.Ir.{eq_type}
use Rattle.definitions.specs.Ir as ir
use Rattle.definitions.specs.Verify.{VerifyError, Checked, Defined, check_value_ref, check_value_refs, verify_instr, verify_terminator}
use Rattle.format.specs.declared.operators.BinOp.{BinOp}
use Rattle.format.specs.declared.program.ContextKind.{ContextKind}
use Rattle.ir.specs.declared.IrType.{IrType}
use Rattle.ir.specs.declared.Name.{Name}
use Rattle.ir.specs.declared.ValueId.{ValueId}
use Rattle.ir.specs.declared.LocalId.{LocalId}
use Rattle.ir.specs.declared.BlockId.{BlockId}
use Rattle.ir.specs.declared.FunctionId.{FunctionId}
use Rattle.program_nodes.specs.Nodes.{ids_in, instr_is, term_is}
use Rattle.program_nodes.specs.declared.program.Function.{Function}
use Rattle.program_nodes.specs.declared.instr.Ids.{Ids}
use Rattle.program_nodes.specs.declared.instr.Instruction.{Instruction}
use Rattle.program_nodes.specs.declared.instr.Instruction.TheVariants as instr
use Rattle.program_nodes.specs.declared.term.Terminator.{Terminator}
use Rattle.program_nodes.specs.declared.term.Terminator.TheVariants as term
use Rattle.verify_state.specs.Errors.{Outcome, error_of, checked_of, in_function}
use Rattle.verify_state.specs.Promises.{Says, Checks}
use Rattle.verify_state.specs.declared.VerifyError.{VerifyError as Fault}
use Rattle.verify_refs.specs.Promises.{Finds, function_check, local_check, target_check, operands_check, condition_check, return_check, instr_check, term_check}
use Rattle.verify_state.proofs.Steps.{Leads, lead_over, lead_failed, lead_passed, says_all}
use Rattle.verify_refs.proofs.Values.{value_failed, value_passed}

-- ONE VALUE as a list of values
only : {A : Type 0} (n : ℕ) (r : Checked A) → in_function n (r >> ok (tt {0})) ≡ in_function n r
only n (err x) = refl
only n (ok a) = refl

module _ {f : Function} (v : ℕ) where
  as_list : {r : Outcome} → Checks f r (check_value_ref v) → Checks f r (check_value_refs (v ∷ []))
  unfolding check_value_refs
  as_list h = record { says = λ ds S. h.says ds S ∙ sym (only f.name.0 (check_value_ref v ds)) }

  pub use_failed : {x : Fault} → Finds f v (Err x) → Checks f (err (error_of x)) (check_value_refs (v ∷ []))
  use_failed F = as_list (value_failed F)

  pub use_passed : {t : IrType} → Finds f v (Ok t) → Checks f (ok tt) (check_value_refs (v ∷ []))
  use_passed F = as_list (value_passed F)

-- AN INSTRUCTION i, which the code matched on
abbrev pub Gives : Function → Instruction → Outcome → Type 0
Gives f i r = Checks f r (instr_check f (instr_is i))

module _ (f : Function) {i : Instruction} where
  pub const : {t : IrType} {n : ℕ} → i ≡ instr.Const t n → Gives f i (ok tt)
  unfolding verify_instr
  const e = rw e (record { says = λ ds S. refl })

  pub state_read : {t : IrType} {n : ℕ} → i ≡ instr.StateRead t n → Gives f i (ok tt)
  unfolding verify_instr
  state_read e = rw e (record { says = λ ds S. refl })

  pub context_read : {k : ContextKind} → i ≡ instr.ContextRead k → Gives f i (ok tt)
  unfolding verify_instr
  context_read e = rw e (record { says = λ ds S. refl })

  module _ {r : Outcome} where
    pub binary : {op : BinOp} {t : IrType} {a b : ValueId} → i ≡ instr.Binary op t a b → Checks f r (operands_check t a.0 b.0) → Gives f i r
    unfolding verify_instr operands_check
    binary e h = rw e h

    pub load : {t : IrType} {b : ValueId} {n : ℕ} → i ≡ instr.Load t b n → Checks f r (check_value_refs (b.0 ∷ [])) → Gives f i r
    unfolding verify_instr
    load e h = rw e h

    pub state_write : {n : ℕ} {v : ValueId} → i ≡ instr.StateWrite n v → Checks f r (check_value_refs (v.0 ∷ [])) → Gives f i r
    unfolding verify_instr
    state_write e h = rw e h

    pub assert : {v : ValueId} → i ≡ instr.Assert v → Checks f r (check_value_refs (v.0 ∷ [])) → Gives f i r
    unfolding verify_instr
    assert e h = rw e h

    pub emit : {n : Name} {vs : Ids} → i ≡ instr.Emit n vs → Checks f r (check_value_refs (ids_in vs)) → Gives f i r
    unfolding verify_instr
    emit e h = rw e h

    pub read_local : {l : LocalId} {t : IrType} → i ≡ instr.ReadLocal l t → Says f r (local_check f l.0) → Gives f i r
    unfolding verify_instr
    read_local {l} e h = rw e (says_all {f = f} (local_check f l.0) h)

-- AN INSTRUCTION OF TWO PARTS: the first fails, which `?` hands on, or it passes and the second decides
pub record Parts (f : Function) (i : Instruction) (first rest : Defined → Checked Done) : Type 0 where
  pub leads : Leads f (instr_check f (instr_is i)) (λ (ds : Defined). first ds >> rest ds)

module _ {f : Function} {i : Instruction} {first rest : Defined → Checked Done} (P : Parts f i first rest) where
  pub handed : {x : Fault} {r : Result (Unit {0}) Fault} → r ≡ Err x → Checks f (err (error_of x)) first → Gives f i (checked_of r)
  handed e h = rw e (lead_failed first rest P.leads h)

  pub second : {r : Outcome} → Checks f (ok tt) first → Checks f r rest → Gives f i r
  second h g = lead_over (lead_passed first rest P.leads h) g

two_values : {A : Type 0} (n : ℕ) (a : Checked A) (b : Checked Done) → in_function n ((a >> ok (tt {0})) >> b) ≡ in_function n (a >> b)
two_values n (err x) b = refl
two_values n (ok a) b = refl

module _ (f : Function) {i : Instruction} where
  pub store : {a v : ValueId} {n : ℕ} → i ≡ instr.Store a n v → Parts f i (check_value_refs (a.0 ∷ [])) (check_value_refs (v.0 ∷ []))
  unfolding verify_instr check_value_refs
  store {a} {v} e = rw e (record { leads = record { same = λ ds S. two_values f.name.0 (check_value_ref a.0 ds) (check_value_refs (v.0 ∷ []) ds) } })

  pub poseidon : {a b : ValueId} → i ≡ instr.Poseidon a b → Parts f i (check_value_refs (a.0 ∷ [])) (check_value_refs (b.0 ∷ []))
  unfolding verify_instr check_value_refs
  poseidon {a} {b} e = rw e (record { leads = record { same = λ ds S. two_values f.name.0 (check_value_ref a.0 ds) (check_value_refs (b.0 ∷ []) ds) } })

  pub write_local : {l : LocalId} {v : ValueId} → i ≡ instr.WriteLocal l v → Parts f i (λ (ds : Defined). local_check f l.0) (check_value_refs (v.0 ∷ []))
  unfolding verify_instr
  write_local e = rw e (record { leads = record { same = λ ds S. refl } })

  pub call : {g : FunctionId} {vs : Ids} {t : IrType} → i ≡ instr.Call g vs t → Parts f i (λ (ds : Defined). function_check f g.0) (check_value_refs (ids_in vs))
  unfolding verify_instr
  call e = rw e (record { leads = record { same = λ ds S. refl } })

-- A BRANCH on v to b or e
grouped : {A : Type 0} (n : ℕ) (r : Checked A) (k : A → Checked Done) (c : Checked Done) → in_function n ((r >>= k) >> c) ≡ in_function n (r >>= λ (a : A). k a >> c)
grouped n (err x) k c = refl
grouped n (ok a) k c = refl

module _ (f : Function) (v b e : ℕ) where
  whole_branch : Leads f (term_check f (ir.Terminator.Branch v b e)) (λ (ds : Defined). condition_check v ds >> (target_check f b >> target_check f e))
  unfolding verify_terminator condition_check
  whole_branch = record { same = λ ds S. grouped f.name.0 (check_value_ref v ds) (λ (t : ir.IrType). check (eq_type t ir.IrType.BoolT) (VerifyError.BranchConditionNotBool v t)) (target_check f b >> target_check f e) }

  value_fails : {x : ℕ × VerifyError} → Checks f (err x) (condition_check v) → Checks f (err x) (term_check f (ir.Terminator.Branch v b e))
  value_fails h = lead_failed (condition_check v) (λ (ds : Defined). target_check f b >> target_check f e) whole_branch h

  module _ (h : Checks f (ok tt) (condition_check v)) where
    targets_left : Leads f (term_check f (ir.Terminator.Branch v b e)) (λ (ds : Defined). target_check f b >> target_check f e)
    targets_left = lead_passed (condition_check v) (λ (ds : Defined). target_check f b >> target_check f e) whole_branch h

    then_fails : {x : ℕ × VerifyError} → Says f (err x) (target_check f b) → Checks f (err x) (term_check f (ir.Terminator.Branch v b e))
    then_fails g = lead_failed (λ (ds : Defined). target_check f b) (λ (ds : Defined). target_check f e) targets_left (says_all {f = f} (target_check f b) g)

    else_says : {r : Outcome} → Says f (ok tt) (target_check f b) → Says f r (target_check f e) → Checks f r (term_check f (ir.Terminator.Branch v b e))
    else_says g k = lead_over (lead_passed (λ (ds : Defined). target_check f b) (λ (ds : Defined). target_check f e) targets_left (says_all {f = f} (target_check f b) g)) (says_all {f = f} (target_check f e) k)

-- A TERMINATOR i, which the code matched on
abbrev pub Ends : Function → Terminator → Outcome → Type 0
Ends f i r = Checks f r (term_check f (term_is i))

module _ (f : Function) {i : Terminator} where
  pub unreachable : i ≡ term.Unreachable → Ends f i (ok tt)
  unfolding verify_terminator
  unreachable e = rw e (record { says = λ ds S. refl })

  module _ {v : ValueId} {b e : BlockId} (z : i ≡ term.Branch v b e) where
    pub condition_failed : {x : ℕ × VerifyError} → Checks f (err x) (condition_check v.0) → Ends f i (err x)
    condition_failed h = rw z (value_fails f v.0 b.0 e.0 h)

    module _ (h : Checks f (ok tt) (condition_check v.0)) where
      pub then_failed : {x : ℕ × VerifyError} → Says f (err x) (target_check f b.0) → Ends f i (err x)
      then_failed g = rw z (then_fails f v.0 b.0 e.0 h g)

      pub branch : {r : Outcome} → Says f (ok tt) (target_check f b.0) → Says f r (target_check f e.0) → Ends f i r
      branch g k = rw z (else_says f v.0 b.0 e.0 h g k)

  module _ {r : Outcome} where
    pub jump : {b : BlockId} → i ≡ term.Jump b → Says f r (target_check f b.0) → Ends f i r
    unfolding verify_terminator
    jump {b} z h = rw z (says_all {f = f} (target_check f b.0) h)

    pub return : {v : Option ValueId} → i ≡ term.Return v → Checks f r (return_check f v) → Ends f i r
    unfolding verify_terminator return_check
    return z h = rw z h

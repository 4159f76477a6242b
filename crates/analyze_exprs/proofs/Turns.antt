-- The fields of a literal and the arguments of a call, checked one by one: what is left gives what the whole gives. Assumes nothing.
use mathlib.Core.Path.{◌≡◌, refl, ap, sym, ◌∙◌}
use mathlib.Core.Bool.{Bool, true, false, not, ◌&&◌}
use mathlib.Core.List.{List, [], ◌∷◌, ◌++◌, append-nil, append_assoc}
use mathlib.Core.Option.{Option, none, some}
use Prim.Native.Nat.{ℕ, ◌+◌}
use lib.ListN.{length, length-append}
use Rattle.definitions.specs.Answers.{Refusal}
use Rattle.definitions.specs.Result.{err, ok, ◌>>=◌, ◌>>◌, ok_or_else, Done}
use Rattle.definitions.specs.Ast.{BinOp, Expr, Exprs, enil, econs, FieldInits, fnil, fcons, Param, Struct, Contract}
use Rattle.definitions.specs.Ir.{IrType}
use Rattle.definitions.specs.Sema.{from_str}
use Rattle.definitions.specs.Lower.{struct_named}
use Rattle.definitions.specs.Analyze.{Ty, known, differs, Env, Signature, field_type}
use Rattle.contract_lookup.specs.Answers.{second}
use Rattle.analyze_walk.specs.Stops.{Checking, sema, refuse_if, check_expr, check_fields, check_arguments, call}
use Rattle.analyze_exprs.specs.Typed.{field_check, check_literal}
use Rattle.analyze_exprs.specs.Calls.{param_ty, finished, params_fitting}
use Rattle.analyze_exprs.proofs.Fitting.{called, no_argument_of, one_more_of}

-- A LITERAL: its struct, and then its fields
module _ (K : Contract) (env : Env) (p n : ℕ) (fs : FieldInits) where
  abbrev with_fields : Struct → Checking Ty
  with_fields decl = check_fields K env p decl.fields fs >> ok (known (IrType.Struct n))

  both : (o : Option (ℕ × Struct)) → (ok_or_else (second o) (sema p 9) >>= with_fields) ≡ (ok_or_else o (sema p 9) >>= λ (d : ℕ × Struct). with_fields d.1)
  both none = refl
  both (some d) = refl

  pub struct_is : {r : Checking Struct} → r ≡ ok_or_else (second (struct_named K n)) (sema p 9) → (r >>= with_fields) ≡ check_literal K env p n fs
  struct_is h = ap (λ (r : Checking Struct). r >>= with_fields) h ∙ both (struct_named K n)

-- the first field, and then the rest
module _ (K : Contract) (env : Env) (p : ℕ) (sf : List Param) (k : Checking Ty) where
  field_then : (n : ℕ) (rest : Checking Done) (value : Checking Ty) → (value >>= λ ty. ok_or_else (field_type sf n) (sema p 8) >>= λ f. refuse_if (differs ty (known (from_str f.1.ty))) (sema p 7) >> rest) >> k ≡ ((value >>= field_check p sf n) >> (rest >> k))
  field_then n rest (err x) = refl
  field_then n rest (ok ty) = found (field_type sf n)
    where
      tested : (b : Bool) → ((refuse_if b (sema p 7) >> rest) >> k) ≡ (refuse_if b (sema p 7) >> (rest >> k))
      tested true = refl
      tested false = refl

      found : (o : Option (ℕ × Param)) → (ok_or_else o (sema p 8) >>= λ f. refuse_if (differs ty (known (from_str f.1.ty))) (sema p 7) >> rest) >> k ≡ ((ok_or_else o (sema p 8) >>= λ f. refuse_if (differs ty (known (from_str f.1.ty))) (sema p 7)) >> (rest >> k))
      found none = refl
      found (some f) = tested (differs ty (known (from_str f.1.ty)))

  module _ {all fs : FieldInits} {q n : ℕ} {e : Expr} {R : Checking Ty} (h : all ≡ fcons q n e fs) (is : (check_fields K env p sf all >> k) ≡ R) where
    opened : ((check_expr K env e >>= field_check p sf n) >> (check_fields K env p sf fs >> k)) ≡ R
    unfolding check_expr
    opened = sym (field_then n (check_fields K env p sf fs) (check_expr K env e)) ∙ (ap (λ (fs : FieldInits). check_fields K env p sf fs >> k) (sym h) ∙ is)

    -- given what came of its value, and of the field
    abbrev of_value : Checking Ty → Checking Ty
    of_value r = (r >>= field_check p sf n) >> (check_fields K env p sf fs >> k)

    pub value_is : {r : Checking Ty} → r ≡ check_expr K env e → of_value r ≡ R
    value_is w = ap of_value w ∙ opened

    pub field_is : {t : Ty} {r : Checking Done} → ok t ≡ check_expr K env e → r ≡ field_check p sf n t → (r >> (check_fields K env p sf fs >> k)) ≡ R
    field_is w v = ap (λ (r : Checking Done). r >> (check_fields K env p sf fs >> k)) v ∙ value_is w

  pub no_fields : {all : FieldInits} {R : Checking Ty} → all ≡ fnil → (check_fields K env p sf all >> k) ≡ R → k ≡ R
  unfolding check_expr
  no_fields h is = ap (λ (fs : FieldInits). check_fields K env p sf fs >> k) (sym h) ∙ is

-- AN OPERATOR, given what came of its operands
module _ (K : Contract) (env : Env) (p : ℕ) (op : BinOp) (left right : Expr) where
  abbrev both_of : Ty → Checking Ty → Checking Ty
  both_of l r = do
    t ← r
    refuse_if (differs l t) (sema p 13)
    ok l

  pub left_is : {r : Checking Ty} → r ≡ check_expr K env left → (r >>= λ l. both_of l (check_expr K env right)) ≡ check_expr K env (Expr.Binary p op left right)
  unfolding check_expr
  left_is w = ap (λ (r : Checking Ty). r >>= λ l. both_of l (check_expr K env right)) w

  pub right_is : {l : Ty} {r : Checking Ty} → ok l ≡ check_expr K env left → r ≡ check_expr K env right → both_of l r ≡ check_expr K env (Expr.Binary p op left right)
  right_is {l} w v = ap (both_of l) v ∙ left_is w

  pub both_typed : {l t : Ty} → ok l ≡ check_expr K env left → ok t ≡ check_expr K env right → {b : Bool} → b ≡ differs l t → (refuse_if b (sema p 13) >> ok l) ≡ check_expr K env (Expr.Binary p op left right)
  both_typed w v q = rw q (right_is w v)

-- THE ARGUMENTS that are left, after those whose types are known; then F of all the types
module _ (K : Contract) (env : Env) (F : List Ty → Checking Ty) where
  unfoldable pub go_on : Exprs → List Ty → Checking Ty
  go_on es acts = check_arguments K env es >>= λ ts. F (acts ++ ts)

  go_end : (acts : List Ty) → go_on enil acts ≡ F acts
  unfolding go_on check_expr
  go_end acts = ap F (append-nil acts)

  after_type : (acts : List Ty) (t : Ty) (r : Checking (List Ty)) → (r >>= (λ ts. ok (t ∷ ts)) >>= λ ts. F (acts ++ ts)) ≡ (r >>= λ ts. F ((acts ++ (t ∷ [])) ++ ts))
  after_type acts t (err x) = refl
  after_type acts t (ok ts) = ap F (sym (append_assoc acts (t ∷ []) ts))

  -- the first of them, given what came of it
  abbrev first_then : Exprs → List Ty → Checking Ty → Checking Ty
  first_then es acts r = r >>= (λ t. check_arguments K env es >>= λ ts. ok (t ∷ ts)) >>= λ ts. F (acts ++ ts)

  go_first : (e : Expr) (es : Exprs) (acts : List Ty) {r : Checking Ty} → r ≡ check_expr K env e → first_then es acts r ≡ go_on (econs e es) acts
  unfolding go_on check_expr
  go_first e es acts w = ap (first_then es acts) w

  go_type : (e : Expr) (es : Exprs) (acts : List Ty) (t : Ty) → ok t ≡ check_expr K env e → go_on es (acts ++ (t ∷ [])) ≡ go_on (econs e es) acts
  unfolding go_on
  go_type e es acts t w = sym (after_type acts t (check_arguments K env es)) ∙ go_first e es acts w

-- THE LOOP: `es` are the arguments that are left, `acts` are the types of the n before them, which fit or do not, and it all gives R
pub record Going (K : Contract) (env : Env) (p : ℕ) (sig : Option Signature) (R : Checking Ty) (es : Exprs) (n : ℕ) (flag : Bool) : Type 0 where
  pub acts : List Ty
  pub long : length acts ≡ n
  pub fit : flag ≡ params_fitting sig acts
  pub is : go_on K env (call p sig) es acts ≡ R

pub call_starts : (K : Contract) (env : Env) (p : ℕ) (sig : Option Signature) (es : Exprs) → Going K env p sig (check_arguments K env es >>= call p sig) es 0 true
unfolding go_on
call_starts K env p sig es = record { acts = []; long = refl; fit = sym (no_argument_of sig); is = refl }

module _ {K : Contract} {env : Env} {p : ℕ} {sig : Option Signature} {R : Checking Ty} {es : Exprs} {n : ℕ} {flag : Bool} (g : Going K env p sig R es n flag) where
  -- there is none left
  pub finishes : es ≡ enil → finished p sig n flag ≡ R
  finishes h =
      rw (sym g.long, g.fit)
      (sym (called p sig g.acts) ∙ (sym (go_end K env (call p sig) g.acts) ∙ (ap (λ (es : Exprs). go_on K env (call p sig) es g.acts) (sym h) ∙ g.is)))

  module _ {e : Expr} {rest : Exprs} (h : es ≡ econs e rest) where
    reached : go_on K env (call p sig) (econs e rest) g.acts ≡ R
    reached = ap (λ (es : Exprs). go_on K env (call p sig) es g.acts) (sym h) ∙ g.is

    -- it has a type
    pub goes_on : {t : Ty} → ok t ≡ check_expr K env e → {x : Ty} {d : Bool} → d ≡ differs x t → x ≡ param_ty sig n → Going K env p sig R rest (n + 1) (flag && not d)
    goes_on {t} w d x = record {
      acts = g.acts ++ (t ∷ []);
      long = simp length-append (ap (λ (m : ℕ). m + 1) g.long);
      fit = rw (d, x, g.fit, sym g.long) (sym (one_more_of sig g.acts t));
      is = go_type K env (call p sig) e rest g.acts t w ∙ reached;
    }

    -- it is refused
    pub refuses : {x : Refusal} → err x ≡ check_expr K env e → err x ≡ R
    refuses w = go_first K env (call p sig) e rest g.acts w ∙ reached

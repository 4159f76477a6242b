-- The records of a program sheet that passed, by position. Assumes nothing.
use mathlib.Core.Path.{◌≡◌, refl, ap, ◌∙◌}
use mathlib.Core.Bool.{Bool, true}
use mathlib.Core.List.{List, [], ◌∷◌, ◌++◌, map}
use Prim.Native.Nat.{ℕ, ◌+◌, ◌≤◌}
use lib.Dec.{leb, eqb, lit≤}
use borrow.Author.Tests.{leb-true}
use Rattle.definitions.specs.Fields.{le}
use Rattle.definitions.specs.Ir.{result_type}
use Rattle.definitions.specs.InstrTable.{kind_row, kind_of}
use Rattle.format.specs.Kinds.{instr_number}
use Rattle.format.specs.declared.kinds.Instruction.TheVariants as instr
use Rattle.ir.specs.Kinds.{rule_in}
use Rattle.definitions.specs.Grammar.{Class, Entry, up_to, optional, number, ir_type, Field, single, listed, Pattern, done, origin, rows}
use Rattle.definitions.specs.Records.{pick, FieldValue, ok_item, opt_from, read_item, read_value, size_of, read_values, opt_at}
use Rattle.definitions.specs.ProgramSheet.{instr_of, own_of}
use Rattle.definitions.specs.Fine.{Head}
use Rattle.definitions.proofs.Sheets.Passed.{both_true}
use Rattle.definitions.proofs.Sheets.Lines.{OfRows, Given, by_lines}
use Rattle.definitions.proofs.Sheets.Singles.{items_from, after, Valid, Own, own}
use Rattle.program_nodes.specs.Offsets.{head_width, fields_at, own_at}
use Rattle.program_nodes.specs.Positions.{type_here, ids_here, instr_here, size_here, has_type, type_offset, by_rule, own_rule, rule_test, InstrPlace}

-- what is known of the instruction of kind k at q, whose own values are vs
pub record InstrAt (s : List ℕ) (q stop k : ℕ) (vs : List FieldValue) : Type 0 where
  pub low : 60 ≤ k
  pub high : k ≤ 81
  pub fits : q + size_here k ≤ stop
  pub rules : rule_test k ≡ true
  pub result : opt_at 0 vs ≡ opt_from (le 2 s (q + fields_at))
  pub is : instr_of k vs ≡ instr_here k s q stop
  pub context : eqb k 81 ≡ true → leb (le 2 s (q + own_at)) 2 ≡ true
  pub kind_is : (e : ℕ) → kind_of (instr_here k s q e) ≡ k
  pub gives : (e : ℕ) → result_type (instr_here k s q e) ≡ by_rule (rule_in (kind_row k)) (type_here s (q + type_offset k))

-- the parts of `rule_test`
module _ (k : ℕ) (t : rule_test k ≡ true) where
  typed_part : Bool
  typed_part = pick (own_rule (rule_in (kind_row k))) (has_type k) true

  wide_part : Bool
  wide_part = pick (has_type k) (leb (type_offset k + 4) (size_here k)) true

  pub own_typed : own_rule (rule_in (kind_row k)) ≡ true → has_type k ≡ true
  unfolding rule_test typed_part wide_part
  own_typed e = rw e at (both_true typed_part wide_part t).0

  pub type_fits : has_type k ≡ true → type_offset k + 4 ≤ size_here k
  unfolding rule_test typed_part wide_part
  type_fits e = leb-true _ _ (rw e at (both_true typed_part wide_part t).1)

pub placed : {s : List ℕ} {q stop k : ℕ} {vs : List FieldValue} → InstrAt s q stop k vs → InstrPlace s q k
placed i = record { rules = i.rules; kind_is = i.kind_is; gives = i.gives; context = i.context }

module _ (s : List ℕ) (q end b stop : ℕ) where
  -- a line: the fields after the result are es, then fs
  line : (k : ℕ) (es : List Entry) (fs : List Field) → 60 ≤ k → k ≤ 81 → rule_test k ≡ true → after (optional ∷ es) fields_at ≡ size_here k
      → (instr_of k (items_from (optional ∷ es) s q fields_at ++ read_values fs s stop (q + after (optional ∷ es) fields_at)) ≡ instr_here k s q stop)
      → ((e : ℕ) → kind_of (instr_here k s q e) ≡ k) → ((e : ℕ) → result_type (instr_here k s q e) ≡ by_rule (rule_in (kind_row k)) (type_here s (q + type_offset k)))
      → (Valid (optional ∷ es) s q fields_at → eqb k 81 ≡ true → leb (le 2 s (q + own_at)) 2 ≡ true)
      → Head s q end Class.instruction (origin ∷ (map single (optional ∷ es) ++ fs)) done b stop → InstrAt s q stop k (own_of (read_values (origin ∷ (map single (optional ∷ es) ++ fs)) s stop (q + head_width)))
  unfolding items_from read_item
  line k es fs lo hi ru size is kk gives c hd =
      let S : Own (optional ∷ es) fs s q b stop = own (optional ∷ es) fs hd in
      record {
        low = lo;
        high = hi;
        rules = ru;
        fits = rw (← size) S.fits;
        result = ap (opt_at 0) S.values;
        is = ap (instr_of k) S.values ∙ is;
        context = c S.valid;
        kind_is = kk;
        gives = gives;
      }

  abbrev P : Class → ℕ → List Field → Pattern → Type 0
  P c k fs p = Head s q end c fs p b stop → (p ≡ done) × InstrAt s q stop k (own_of (read_values fs s stop (q + head_width)))

  binary_line : (k : ℕ) → 60 ≤ k → k ≤ 81 → rule_test k ≡ true → after (optional ∷ ir_type ∷ up_to 65534 ∷ up_to 65534 ∷ []) fields_at ≡ size_here k
      → (instr_of k (items_from (optional ∷ ir_type ∷ up_to 65534 ∷ up_to 65534 ∷ []) s q fields_at ++ []) ≡ instr_here k s q stop)
      → ((e : ℕ) → kind_of (instr_here k s q e) ≡ k) → ((e : ℕ) → result_type (instr_here k s q e) ≡ by_rule (rule_in (kind_row k)) (type_here s (q + type_offset k)))
      → (Valid (optional ∷ ir_type ∷ up_to 65534 ∷ up_to 65534 ∷ []) s q fields_at → eqb k 81 ≡ true → leb (le 2 s (q + own_at)) 2 ≡ true)
      → P Class.instruction k (origin ∷ single optional ∷ single ir_type ∷ single (up_to 65534) ∷ single (up_to 65534) ∷ []) done
  unfolding read_values
  binary_line k lo hi ru size is kk gives c hd = (refl, line k (ir_type ∷ up_to 65534 ∷ up_to 65534 ∷ []) [] lo hi ru size is kk gives c hd)

  pub instr_at : OfRows P Class.instruction rows
  unfolding Given rows rule_test kind_row items_from read_item Valid ok_item after size_of instr_here type_here ids_here read_values read_value
  instr_at =
      by_lines P Class.instruction rows
      (λ hd. (refl, line 60 (ir_type ∷ number 8 ∷ []) [] (lit≤ tt) (lit≤ tt) refl refl refl (λ _. refl) (λ _. refl) (λ _ e. cc) hd))
      (binary_line 61 (lit≤ tt) (lit≤ tt) refl refl refl (λ _. refl) (λ _. refl) (λ _ e. cc))
      (binary_line 62 (lit≤ tt) (lit≤ tt) refl refl refl (λ _. refl) (λ _. refl) (λ _ e. cc))
      (binary_line 63 (lit≤ tt) (lit≤ tt) refl refl refl (λ _. refl) (λ _. refl) (λ _ e. cc))
      (binary_line 64 (lit≤ tt) (lit≤ tt) refl refl refl (λ _. refl) (λ _. refl) (λ _ e. cc))
      (binary_line 65 (lit≤ tt) (lit≤ tt) refl refl refl (λ _. refl) (λ _. refl) (λ _ e. cc))
      (binary_line 66 (lit≤ tt) (lit≤ tt) refl refl refl (λ _. refl) (λ _. refl) (λ _ e. cc))
      (binary_line 67 (lit≤ tt) (lit≤ tt) refl refl refl (λ _. refl) (λ _. refl) (λ _ e. cc))
      (binary_line 68 (lit≤ tt) (lit≤ tt) refl refl refl (λ _. refl) (λ _. refl) (λ _ e. cc))
      (binary_line 69 (lit≤ tt) (lit≤ tt) refl refl refl (λ _. refl) (λ _. refl) (λ _ e. cc))
      (binary_line 70 (lit≤ tt) (lit≤ tt) refl refl refl (λ _. refl) (λ _. refl) (λ _ e. cc))
      (λ hd. (refl, line 71 (ir_type ∷ up_to 65534 ∷ number 8 ∷ []) [] (lit≤ tt) (lit≤ tt) refl refl refl (λ _. refl) (λ _. refl) (λ _ e. cc) hd))
      (λ hd. (refl, line 72 (up_to 65534 ∷ number 8 ∷ up_to 65534 ∷ []) [] (lit≤ tt) (lit≤ tt) refl refl refl (λ _. refl) (λ _. refl) (λ _ e. cc) hd))
      (λ hd. (refl, line 73 (ir_type ∷ number 4 ∷ []) [] (lit≤ tt) (lit≤ tt) refl refl refl (λ _. refl) (λ _. refl) (λ _ e. cc) hd))
      (λ hd. (refl, line 74 (number 4 ∷ up_to 65534 ∷ []) [] (lit≤ tt) (lit≤ tt) refl refl refl (λ _. refl) (λ _. refl) (λ _ e. cc) hd))
      (λ hd. (refl, line 75 (up_to 65534 ∷ ir_type ∷ []) [] (lit≤ tt) (lit≤ tt) refl refl refl (λ _. refl) (λ _. refl) (λ _ e. cc) hd))
      (λ hd. (refl, line 76 (up_to 65534 ∷ up_to 65534 ∷ []) [] (lit≤ tt) (lit≤ tt) refl refl refl (λ _. refl) (λ _. refl) (λ _ e. cc) hd))
      (λ hd. (refl, line 77 (up_to 65534 ∷ ir_type ∷ []) (listed (up_to 65534) ∷ []) (lit≤ tt) (lit≤ tt) refl refl refl (λ _. refl) (λ _. refl) (λ _ e. cc) hd))
      (λ hd. (refl, line 78 (up_to 65534 ∷ []) [] (lit≤ tt) (lit≤ tt) refl refl refl (λ _. refl) (λ _. refl) (λ _ e. cc) hd))
      (λ hd. (refl, line 79 (up_to 65534 ∷ up_to 65534 ∷ []) [] (lit≤ tt) (lit≤ tt) refl refl refl (λ _. refl) (λ _. refl) (λ _ e. cc) hd))
      (λ hd. (refl, line 80 (up_to 65534 ∷ []) (listed (up_to 65534) ∷ []) (lit≤ tt) (lit≤ tt) refl refl refl (λ _. refl) (λ _. refl) (λ _ e. cc) hd))
      (λ hd. (refl, line 81 (up_to 2 ∷ []) [] (lit≤ tt) (lit≤ tt) refl refl refl (λ _. refl) (λ _. refl) (λ v _. v.1.0) hd))

-- each has a kind of the code
abbrev pub HasKind : {K : Type 0} → (K → ℕ) → Class → ℕ → List Field → Pattern → Type 0
HasKind {K = K} numbered c k fs p = (kind : K) × (numbered kind ≡ k)

pub instr_kind : OfRows (HasKind instr_number) Class.instruction rows
unfolding Given rows
instr_kind =
    by_lines (HasKind instr_number) Class.instruction rows
    (instr.Const, refl)
    (instr.Add, refl)
    (instr.Sub, refl)
    (instr.Mul, refl)
    (instr.Div, refl)
    (instr.IrEq, refl)
    (instr.IrNe, refl)
    (instr.Lt, refl)
    (instr.Le, refl)
    (instr.Gt, refl)
    (instr.Ge, refl)
    (instr.Load, refl)
    (instr.Store, refl)
    (instr.StateRead, refl)
    (instr.StateWrite, refl)
    (instr.ReadLocal, refl)
    (instr.WriteLocal, refl)
    (instr.Call, refl)
    (instr.Assert, refl)
    (instr.Poseidon, refl)
    (instr.Emit, refl)
    (instr.ContextRead, refl)

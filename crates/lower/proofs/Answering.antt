-- From the parts to the answer: the program's record, the sheet's checks, the output with its zeros, and demand 3. Assumes nothing.
use Rattle.std.specs.Prelude as code
use Rattle.std.specs.Prelude.{None, Some}
use Rattle.std.specs.Result.{result_unwrap_or}
use mathlib.Core.Path.{◌≡◌, refl, sym, ap, ◌∙◌, subst}
use mathlib.Core.List.{List, [], ◌++◌}
use Prim.Native.Nat.{ℕ, ◌-◌, ◌≤◌}
use native.Mathlib.Omega.{arith}
use lib.ListN.{length, take, replicate}
use lib.Seq.{sets}
use Rattle.definitions.specs.Fields.{Bytes}
use Rattle.definitions.specs.Result.{Result, err, ok}
use Rattle.definitions.specs.Ast.{Contract}
use Rattle.definitions.specs.Ir.{IrFunction}
use Rattle.definitions.specs.Lower.{lower_functions, lower_contract, function_names}
use Rattle.definitions.specs.Records.{tnil, trees_of, write_record, write_tree, write_trees, write_values}
use Rattle.definitions.specs.ProgramSheet.{ir_function_tree, function_name_tree, write_program}
use Rattle.definitions.specs.ContractSheet.{read_contract}
use Rattle.definitions.specs.Answers as answers
use Rattle.definitions.specs.Answers.{Refusal, check_contract, lower_sheet, output_of}
use Rattle.definitions.specs.Demand3.{Demand3Of}
use Rattle.definitions.proofs.Demand3.{demand3}
use Rattle.definitions.proofs.Results.{ok_inj, err_ok, take_padded}
use Rattle.lower_state.specs.declared.refusals.LoweringError.{LoweringError}
use Rattle.lower_walk.proofs.Trees.{trees_front}
use Rattle.lower_layout.specs.Laid.{Laid}
use Rattle.lower_layout.proofs.Storing.{laid_then, laid_lost}
use Rattle.lower_name_table.specs.NameTable.{names_of}
use Rattle.lower.specs.Whole.{program_head, FunctionsPlaced, program_answer, AnsweredWith, answer_of, lower_rest}
use Rattle.lower.specs.declared.refusal.Refusal as lowering
use Rattle.lower.specs.declared.refusal.Refusal.TheVariants as lower_refused
use Rattle.writer.proofs.Stores.{then_zeros}
use Rattle.lower.proofs.Fill.{refused_31, accepted}

-- THE PROGRAM'S RECORD
abbrev body_of : List IrFunction → List (ℕ × ℕ) → List ℕ
body_of gs names = write_trees (trees_of ir_function_tree gs tnil) ++ write_trees (trees_of function_name_tree names tnil)

program_is : (gs : List IrFunction) (names : List (ℕ × ℕ)) → write_program (record { functions = gs; function_names = names }) ≡ write_record 50 (body_of gs names)
unfolding write_program write_tree write_values
program_is gs names = ap (write_record 50) (trees_front ir_function_tree gs (trees_of function_name_tree names tnil))

module _ (K : Contract) where
  -- the functions and the names are laid down, or something did not fit
  record Body (before after : List ℕ) (r : code.Option ℕ) : Type 0 where
    gs : List IrFunction
    lowered : lower_functions K 0 K.functions ≡ ok gs
    laid : Laid (body_of gs (function_names 0 K.functions [])) before 6 after r

  rest_is : (n : ℕ) (gs : List IrFunction) → lower_functions K 0 K.functions ≡ ok gs → lower_rest K n ≡ program_answer (write_record 50 (body_of gs (function_names 0 K.functions []))) n
  unfolding lower_rest lower_contract
  rest_is n gs e = rw (e, program_is gs (function_names 0 K.functions []))

  abbrev Answered : (before out : List ℕ) → code.Result ℕ lowering.Refusal → Type 0
  Answered before out r = AnsweredWith (lower_rest K (length before)) (length before) out r

  answered : {before after out : List ℕ} {to : code.Option ℕ} {r : code.Result ℕ lowering.Refusal} (B : Body before after to) → AnsweredWith (program_answer (write_record 50 (body_of B.gs (function_names 0 K.functions []))) (length before)) (length before) out r → Answered before out r
  answered {before} {out = out} {r = r} B f = subst (λ (a : answers.Answer). AnsweredWith a (length before) out r) (sym (rest_is (length before) B.gs B.lowered)) f

  pub refused : (before after : List ℕ) (x : LoweringError) → FunctionsPlaced K before after (code.Err x) → Answered before after (code.Err (lower_refused.Lowering x))
  unfolding lower_rest lower_contract
  refused before after x F = record { is = rw F.0 refl; same_length = F.1; holds = rw F.0 tt }

  pub no_room : {before after : List ℕ} → FunctionsPlaced K before after (code.Ok None) → Answered before after (code.Err lower_refused.NoRoom)
  no_room F = let B : Body _ _ None = record { gs = F.0; lowered = F.1.0; laid = laid_lost _ F.1.1 } in answered B (refused_31 B.laid)

  -- the functions are laid down; then the names
  module _ {before mid : List ℕ} {to : ℕ} (F : FunctionsPlaced K before mid (code.Ok (Some to))) where
    with_names : {after : List ℕ} {r : code.Option ℕ} → Laid (names_of K) mid to after r → Body before after r
    with_names l = record { gs = F.0; lowered = F.1.0; laid = laid_then F.1.1 l }

    pub names_lost : {after : List ℕ} → Laid (names_of K) mid to after None → Answered before after (code.Err lower_refused.NoRoom)
    names_lost l = answered (with_names l) (refused_31 (with_names l).laid)

    pub finished : {after : List ℕ} {end : ℕ} → Laid (names_of K) mid to after (Some end) → Answered before (sets after 0 (program_head end)) (code.Ok end)
    finished l = answered (with_names l) (accepted (with_names l).laid)

-- THE CHECKS
module _ (s : List ℕ) (n : ℕ) (out : List ℕ) (same : length out ≡ n) where
  pub stopped : (x : Refusal) (r : code.Result ℕ lowering.Refusal) → check_contract s ≡ err x → answer_of r ≡ err x → AnsweredWith (lower_sheet s n) n out r
  unfolding lower_sheet
  stopped x r e i = record { is = rw e i; same_length = same; holds = rw e tt }

pub passed : (s : List ℕ) (n : ℕ) (out : List ℕ) (r : code.Result ℕ lowering.Refusal) → check_contract s ≡ ok tt → AnsweredWith (lower_rest (read_contract s) n) n out r → AnsweredWith (lower_sheet s n) n out r
unfolding lower_sheet lower_rest
passed s n out r e a = subst (λ (b : answers.Answer). AnsweredWith b n out r) (sym (rw e)) a

-- THE OUTPUT: zeros from the end of what is written on
abbrev written_by : Result Refusal ℕ → ℕ
written_by (ok n) = n
written_by (err x) = 0

written : (r : code.Result ℕ lowering.Refusal) → result_unwrap_or r 0 ≡ written_by (answer_of r)
written (code.Ok n) = refl
written (code.Err x) = refl

abbrev pub cleared : (out : List ℕ) → code.Result ℕ lowering.Refusal → List ℕ
cleared out r = sets out (result_unwrap_or r 0) (replicate (length out - result_unwrap_or r 0) 0)

pub zeros_behind : (a : answers.Answer) (n : ℕ) (out : List ℕ) (r : code.Result ℕ lowering.Refusal) → AnsweredWith a n out r → cleared out r ≡ output_of a n
zeros_behind (ok b) n out r h = rw (written r, h.is, ← h.same_length) (then_zeros b out h.holds.0 h.holds.1)
zeros_behind (err x) n out r h = rw (written r, h.is, ← h.same_length) (then_zeros [] out (omega arith) refl)

-- DEMAND 3
pub demanded : (s : List ℕ) → Bytes s → (n : ℕ) (out : List ℕ) (r : code.Result ℕ lowering.Refusal) → AnsweredWith (lower_sheet s n) n out r → (k : ℕ) → r ≡ code.Ok k → Demand3Of s (take k (cleared out r))
demanded s h n out r a k e = go (lower_sheet s n) refl a
  where
    go : (w : answers.Answer) → lower_sheet s n ≡ w → AnsweredWith w n out r → Demand3Of s (take k (cleared out r))
    go (err x) q a = absurd (err_ok (sym (sym (ap answer_of e) ∙ a.is)))
    go (ok b) q a =
        let size : k ≡ length b = ok_inj (sym (ap answer_of e) ∙ a.is) in
        let out-is = zeros_behind (ok b) n out r a in
        let fits : length b ≤ n = rw a.same_length at a.holds.0 in
        subst (Demand3Of s) (sym (ap (take k) out-is ∙ rw size (take_padded n b fits))) (demand3 s h n b q)

-- a fact of an answer that is a sheet, by cases
pub on_ok : {T E : Type 0} (r : code.Result T E) {P : T → Type 0} → ((x : T) → r ≡ code.Ok x → P x) → code.IfOk r P
on_ok (code.Ok x) f = f x refl
on_ok (code.Err e) f = tt

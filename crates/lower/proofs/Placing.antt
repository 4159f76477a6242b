-- From the walk of a function to its record at its place, and from the functions placed so far to all of them. Assumes nothing.
use Rattle.std.specs.Prelude as code
use Rattle.std.specs.Prelude.{None, Some}
use mathlib.Core.Path.{◌≡◌, refl, sym, ap, ◌∙◌, subst}
use mathlib.Core.List.{List, [], ◌∷◌, ◌++◌, append_assoc, append-nil}
use Prim.Native.Nat.{ℕ, suc, ◌≤◌, ◌<◌}
use native.Mathlib.Omega.{arith}
use lib.ListN.{length}
use Rattle.definitions.specs.Result.{Result, err, ok, ◌>>=◌}
use Rattle.definitions.specs.Ast.{Function, Contract}
use Rattle.definitions.specs.Ir.{IrFunction}
use Rattle.definitions.specs.Lower.{Lowering, lower_function, lower_functions}
use Rattle.definitions.specs.Lower as lowering
use Rattle.definitions.specs.Records.{tnil, trees_of, write_tree, write_trees}
use Rattle.definitions.specs.ProgramSheet.{ir_function_tree}
use Rattle.definitions.specs.ContractSheet.{read_contract}
use Rattle.ir.specs.declared.FunctionId.{FunctionId}
use Rattle.contract_nodes.specs.Nodes.{contract_in, function_in}
use Rattle.contract_nodes.specs.declared.contract.Function as node
use Rattle.contract_nodes.proofs.Standing.{ready}
use Rattle.contract_nodes.proofs.Steps.{params_count}
use Rattle.contract_nodes.proofs.Tops.{FunctionAt, function_at_lem}
use Rattle.contract_nodes.specs.Ready.{top_depth}
use Rattle.contract_lookup.specs.Walked.{left_in, NextFunction}
use Rattle.contract_lookup.specs.declared.declarations.Functions.{Functions}
use Rattle.contract_lookup.specs.declared.declarations.FunctionIter.{FunctionIter}
use Rattle.lower_walk.specs.Stmts.{LogCtx}
use Rattle.lower_walk.specs.Layout.{walk_function}
use Rattle.lower_walk.proofs.Functions.{Whole, Same, function_same}
use Rattle.lower_walk.proofs.Trees.{trees_more}
use Rattle.lower_state.specs.declared.refusals.LoweringError.{LoweringError}
use Rattle.lower_layout.specs.Laid.{room_of, Laid}
use Rattle.lower_layout.specs.Parts.{BlocksWithin, LaidOrLost}
use Rattle.lower.specs.Whole.{FunctionPlaced, FunctionsPlaced}
use Rattle.lower_layout.proofs.Storing.{room_low}
use Rattle.lower.proofs.Fill.{either, then_laid}

-- A FUNCTION: what its walk came to, and its record
module _ (f : node.Function) (i : ℕ) (starts stops : List ℕ) (sizes : (length starts ≡ 256) × (length stops ≡ 256)) where
  abbrev lowers : Lowering IrFunction
  lowers = lower_function (contract_in f.contract) i (function_in f)

  abbrev walks : Lowering LogCtx
  walks = walk_function (contract_in f.contract) i (function_in f) starts stops

  same : {r : Lowering LogCtx} → r ≡ walks → Same i (function_in f) lowers r
  same w =
      let F : FunctionAt f.contract.sheet.now f.at top_depth = function_at_lem (ready {d = top_depth} f.ready) in
      subst (Same i (function_in f) lowers) (sym w) (function_same (contract_in f.contract) i (function_in f) starts stops sizes.0 sizes.1 (omega (arith, params_count F, F.few)))

  pub not_walked : {x : lowering.LoweringError} → err x ≡ walks → lowers ≡ err x
  not_walked w = go (same w)
    where
      go : {l : Lowering IrFunction} {y : lowering.LoweringError} → Same i (function_in f) l (err y) → l ≡ err y
      go (Same.refused y) = refl

  module _ {c : LogCtx} (w : ok c ≡ walks) where
    walked : (g : IrFunction) × ((lowers ≡ ok g) × Whole i (function_in f) g c)
    walked = go (same w)
      where
        go : {l : Lowering IrFunction} {c : LogCtx} → Same i (function_in f) l (ok c) → (g : IrFunction) × ((l ≡ ok g) × Whole i (function_in f) g c)
        go (Same.done g c h) = (g, (refl, h))

    pub within : c.log.at ≤ 32768 → BlocksWithin c
    within h k l = let o = walked.1.1.ordered h k l in (o.0, (o.1, h))

    -- laid down from a log that fits, or lost
    pub put : (before after : List ℕ) (to : ℕ) (r : code.Option ℕ) → LaidOrLost i (function_in f) c before to after r → FunctionPlaced (contract_in f.contract) i (function_in f) before (Some to) after (code.Ok r)
    put before after to r p = (walked.0, (walked.1.0, either c.log.at 32768 (λ h. rw (walked.1.1.kept h) (p.0 h)) over))
      where
        over : 32768 < c.log.at → Laid (write_tree (ir_function_tree walked.0)) before to after r
        over h =
            let l = p.1 h in
            let w : room_of (length before) ≤ 32768 = (room_low (length before)).0 in
            let m = walked.1.1.lost h in
            record { same_length = l.0; fits = λ o. absurd (omega (arith, o, w, m)); over = λ o. l.1 }

    -- something before it did not fit
    pub not_put : (before : List ℕ) → FunctionPlaced (contract_in f.contract) i (function_in f) before None before (code.Ok None)
    not_put before = (walked.0, (walked.1.0, (refl, refl)))

unchanged : {E A : Type 0} (r : Result E (List A)) → r ≡ (r >>= λ hs. ok ([] ++ hs))
unchanged (err x) = refl
unchanged (ok hs) = refl

regrouped : {E A : Type 0} (gs : List A) (g : A) (r : Result E (List A)) → (r >>= (λ hs. ok (g ∷ hs)) >>= λ hs. ok (gs ++ hs)) ≡ (r >>= λ hs. ok ((gs ++ (g ∷ [])) ++ hs))
regrouped gs g (err x) = refl
regrouped gs g (ok hs) = ap ok (sym (append_assoc gs (g ∷ []) hs))

-- one function is lowered, or refused
module _ (K : Contract) (i : ℕ) (f : Function) (fs : List Function) (gs : List IrFunction) where
  lowered : {g : IrFunction} → lower_function K i f ≡ ok g → (lower_functions K i (f ∷ fs) >>= λ hs. ok (gs ++ hs)) ≡ (lower_functions K (suc i) fs >>= λ hs. ok ((gs ++ (g ∷ [])) ++ hs))
  unfolding lower_functions
  lowered {g} e = rw e (regrouped gs g (lower_functions K (suc i) fs))

  not_lowered : {x : lowering.LoweringError} → lower_function K i f ≡ err x → (lower_functions K i (f ∷ fs) >>= λ hs. ok (gs ++ hs)) ≡ err x
  unfolding lower_functions
  not_lowered e = rw e refl

-- THE LOOP
abbrev all_lowered : Functions → Lowering (List IrFunction)
all_lowered F = lower_functions (contract_in F.contract) 0 (contract_in F.contract).functions

-- the functions gs, and those from the i-th on
abbrev lowered_from : Functions → List IrFunction → (i : ℕ) → List Function → Lowering (List IrFunction)
lowered_from F gs i fs = lower_functions (contract_in F.contract) i fs >>= λ hs. ok (gs ++ hs)

-- of the functions F, those before w are done, with the records `gs`
pub record Along (F : Functions) (before after : List ℕ) (to : code.Option ℕ) (w : FunctionIter) : Type 0 where
  pub same : w.functions.now ≡ F
  pub gs : List IrFunction
  pub left : all_lowered F ≡ lowered_from F gs w.next (left_in w)
  pub laid : Laid (write_trees (trees_of ir_function_tree gs tnil)) before 6 after to

pub begins : {F : Functions} {before : List ℕ} {to : code.Option ℕ} {w : FunctionIter} → w.next ≡ 0 → w.functions.now ≡ F → Laid [] before 6 before to → Along F before before to w
unfolding write_trees
begins first same x = record { same = same; gs = []; left = rw (first, same) (unchanged _); laid = x }

module _ {F : Functions} {before after : List ℕ} {to : code.Option ℕ} {w : FunctionIter} (A : Along F before after to w) where
  onward : {fs : List Function} → left_in w ≡ fs → all_lowered F ≡ lowered_from F A.gs w.next fs
  onward e = A.left ∙ ap (lowered_from F A.gs w.next) e

  pub ends : left_in w ≡ [] → FunctionsPlaced (contract_in F.contract) before after (code.Ok to)
  unfolding lower_functions
  ends e = (A.gs, (onward e ∙ ap ok (append-nil A.gs), A.laid))

  -- the next function is placed, or refused
  module _ {behind : FunctionIter} {id : FunctionId} {f : node.Function} (n : NextFunction w behind id f) (later : List ℕ) where
    here : (r : code.Result (code.Option ℕ) LoweringError) → FunctionPlaced (contract_in f.contract) id.0 (function_in f) after to later r → FunctionPlaced (contract_in F.contract) w.next (function_in f) after to later r
    here r p =
        let sheet = n.sheet ∙ ap (λ (F : Functions). F.contract.sheet.now) A.same in
        subst (λ (s : List ℕ). FunctionPlaced (read_contract s) w.next (function_in f) after to later r) sheet (rw n.id at p)

    pub one_more : (r : code.Option ℕ) → FunctionPlaced (contract_in f.contract) id.0 (function_in f) after to later (code.Ok r) → Along F before later r behind
    one_more r p =
        let q = here (code.Ok r) p in
        record {
          same = n.same ∙ A.same;
          gs = A.gs ++ (q.0 ∷ []);
          left = onward n.is ∙ (lowered (contract_in F.contract) w.next (function_in f) (left_in behind) A.gs q.1.0 ∙ ap (λ (i : ℕ). lowered_from F (A.gs ++ (q.0 ∷ [])) i (left_in behind)) (sym n.next));
          laid = rw (trees_more ir_function_tree A.gs q.0) (then_laid (write_tree (ir_function_tree q.0)) A.laid q.1.1);
        }

    pub refuses : (x : LoweringError) → FunctionPlaced (contract_in f.contract) id.0 (function_in f) after to later (code.Err x) → FunctionsPlaced (contract_in F.contract) before later (code.Err x)
    refuses x p =
        let q = here (code.Err x) p in
        (onward n.is ∙ not_lowered (contract_in F.contract) w.next (function_in f) (left_in behind) A.gs q.0, q.1 ∙ A.laid.same_length)

-- A function's walk refuses what its lowering refuses; else its log gives the lowered function's record, or that is longer than the room. Assumes nothing.
use Prim.Native.Nat.{ℕ, suc, ◌≤◌, ◌<◌}
use mathlib.Core.Path.{◌≡◌, refl, sym, ◌∙◌, subst}
use mathlib.Core.List.{List, [], ◌∷◌}
use mathlib.Core.Option.{none}
use mathlib.Core.Bool.{Bool, true, false}
use lib.Dec.{lit≤}
use lib.ListN.{length, get_or, set, length-set}
use lib.Seq.{get_or-set_same}
use native.Mathlib.Omega.{arith}
use Rattle.definitions.specs.Result.{err, ok, ◌>>=◌}
use Rattle.definitions.specs.Ast.{Param, Function, Contract}
use Rattle.definitions.specs.Ir.{Terminator, IrFunction}
use Rattle.definitions.specs.Lower.{LoweringError, Lowering, FnCtx, Scope, Value, empty_block, fresh_value, set_scopes, parse_ir_type, ir_function, lower_params, lower_function}
use Rattle.definitions.specs.Records.{write_tree, write_trees}
use Rattle.definitions.specs.ProgramSheet.{ir_function_tree}
use Rattle.definitions.proofs.Runs.Safe.{in_nil, in_one}
use Rattle.definitions.proofs.Runs.Blocks.{only}
use Rattle.lower_walk.specs.Held.{Held}
use Rattle.lower_walk.specs.Stmts.{LogCtx, taken}
use Rattle.lower_walk.specs.Layout.{new_ctx, walk_params, param_values, walk_function, function_bytes}
use Rattle.lower_walk.proofs.Parts.{opened, Parts}
use Rattle.lower_walk.proofs.Prims.{true_false}
use Rattle.lower_walk.proofs.Tied.{whole, over, then, Now, now, value_is, define_now}
use Rattle.lower_walk.proofs.Related.{Rel, bad, good, nested, bind, joined}
use Rattle.lower_walk.proofs.Steps.{init_same, close_now}
use Rattle.lower_walk.proofs.Statements.{stmts_same}
use Rattle.lower_walk.proofs.Laid.{function_is, log_least, part_inside}

-- ---- parameters
-- a value without a record
take_now : {Q : List ℕ} {t : Scope} {up : List Scope} {g : Bool} {c : FnCtx} {d : LogCtx} → Now 0 Q t up false g c d → Now 1 Q t up false g (fresh_value c) (taken d)
unfolding fresh_value
take_now (now fid cur count v ls bs l k (whole val len low small P)) = now fid cur count (suc v) ls bs _ k (whole (rw val (omega arith)) len low (omega arith) P)
take_now (now fid cur count v ls bs l k (over high u h long P)) = now fid cur count (suc v) ls bs _ k (over high u h long P)

params_same : {C D : Type 0} {R : C → D → Type 0} (ps : List Param) {Q : List ℕ} {t : Scope} {g : Bool} {c : FnCtx} {d : LogCtx} (h : FnCtx × List Value → Lowering C) (h' : LogCtx × Held → Lowering D) → Now 0 Q t [] false g c d
    → ((t : Scope) (g : Bool) (c₁ : FnCtx) (d : LogCtx) → Now 0 Q t [] false g c₁ d → Rel R (h (c₁, param_values c.next_value ps)) (h' (d, joined (t ∷ [])))) → Rel R (lower_params ps c >>= h) (walk_params ps (joined (t ∷ [])) d >>= h')
unfolding lower_params walk_params param_values fresh_value set_scopes
params_same [] h h' N more = more _ _ _ _ N
params_same (p ∷ ps) {c = c} h h' N more =
    simp nested (init_same _ _ (omega arith) (parse_ir_type p.ty) (λ q. value_is N q) (take_now N) λ c₁ d i g le s N.
    params_same ps (λ q. h (q.0, (c.next_value, parse_ir_type p.ty) ∷ q.1)) h' (define_now p.name i (parse_ir_type p.ty) N) λ t g c₂ d N.
    rw s (more t g c₂ d N))

-- ---- the start
start_parts : (starts stops : List ℕ) → length starts ≡ 256 → length stops ≡ 256 → Parts false [] 0 1 (empty_block 0 ∷ []) [] (record { starts = set starts 0 0; stops = stops })
unfolding write_trees
start_parts starts stops l m =
    record {
      spot = opened (empty_block 0) [] refl refl refl (get_or-set_same starts 0 0 0 (omega (arith, l)));
      each = λ k b f out c. true_false (sym (c (sym (only 0 k b f).1)));
      fresh = λ k h. absurd (in_nil h);
      ids = refl;
      distinct = (λ h. in_nil h, tt);
      below = λ k h. in_one (λ (k : ℕ). k < 1) (omega arith) h;
      few = lit≤ tt;
      starts = length-set starts 0 0 ∙ l;
      stops = m;
      total = refl;
    }

-- ---- what a walked function is to the lowered one
pub record Whole (i : ℕ) (f : Function) (g : IrFunction) (c : LogCtx) : Type 0 where
  pub kept : c.log.at ≤ 32768 → write_tree (ir_function_tree g) ≡ function_bytes i f c
  pub lost : 32768 < c.log.at → 32768 < length (write_tree (ir_function_tree g))
  pub length_is : c.log.at ≤ 32768 → length c.log.bytes ≡ c.log.at
  pub ordered : c.log.at ≤ 32768 → (k : ℕ) → k < c.next_block → (get_or c.starts k 0 ≤ get_or c.stops k 0) × (get_or c.stops k 0 ≤ c.log.at)

pub data Same (i : ℕ) (f : Function) : Lowering IrFunction → Lowering LogCtx → Type 0 where
  refused : (x : LoweringError) → Same i f (err x) (err x)
  done : (g : IrFunction) (c : LogCtx) → Whole i f g c → Same i f (ok g) (ok c)

ended : (i : ℕ) (f : Function) {t : Scope} {up : List Scope} {g : Bool} {c : FnCtx} {d : LogCtx} → Now 0 [] t up true g c d → Whole i f (ir_function i f (param_values 0 f.params) c) d
ended i f {c = c} {d} (now fid cur count v ls bs l k (whole val len low small P)) =
    record {
      kept = λ h. function_is i f c d refl P;
      lost = λ h. absurd (omega arith);
      length_is = λ h. len;
      ordered = λ h j lt. subst (λ (n : ℕ). (get_or k.starts j 0 ≤ get_or k.stops j 0) × (get_or k.stops j 0 ≤ n)) len (part_inside P j lt);
    }
ended i f {c = c} {d} (now fid cur count v ls bs l k (over high u marks long P)) =
    record {
      kept = λ h. absurd (omega arith);
      lost = λ h. log_least (ir_function i f (param_values 0 f.params) c) P 32768 long;
      length_is = λ h. absurd (omega arith);
      ordered = λ h. absurd (omega arith);
    }

pub function_same : (K : Contract) (i : ℕ) (f : Function) (starts stops : List ℕ) → length starts ≡ 256 → length stops ≡ 256 → length f.params ≤ 16 → Same i f (lower_function K i f) (walk_function K i f starts stops)
unfolding lower_function walk_function new_ctx
function_same K i f starts stops l m few =
    same (params_same f.params _ _ (now i 0 1 0 [] _ _ _ (whole refl refl (omega arith) (omega arith) (start_parts starts stops l m))) λ t g c d N.
    bind _ _ (stmts_same K f.body N) λ c d B.
    then (close_now (Terminator.Return none) B.now) λ g le N.
    good _ _ (ended i f N))
  where
    same : {r : Lowering IrFunction} {r' : Lowering LogCtx} → Rel (Whole i f) r r' → Same i f r r'
    same (bad x) = refused x
    same (good g c w) = done g c w

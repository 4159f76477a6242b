-- A name's record; the rows of functions' names: a row for each function whose name no earlier one has, with the last id of the name; the loop that lays
-- them down, and the one that looks for an earlier function of a name. Assumes nothing.
use Rattle.std.specs.Prelude as prelude
use Rattle.std.specs.Prelude.{None, Some}
use mathlib.Core.Path.{◌≡◌, refl, ap, sym, ◌∙◌}
use mathlib.Core.Bool.{Bool, true, false, ◌||◌}
use mathlib.Core.List.{List, [], ◌∷◌, ◌++◌, append_assoc}
use mathlib.Core.Option.{Option, none, some}
use Prim.Native.Nat.{ℕ, zero, suc}
use borrow.Author.Tests.{eqb-true, eq-eqb, eqb-false, ne_eqb}
use lib.Dec.{eqb}
use lib.ListN.{length, drop, length-append}
use Rattle.std.proofs.lemmas.Iterator.{YieldsList}
use Rattle.std.proofs.lemmas.Iterator.Consumers.{YieldsList-from_shown}
use Rattle.definitions.specs.Ast.{Function}
use Rattle.definitions.specs.Lower.{set_name, function_names}
use Rattle.definitions.specs.Names.{last_named, or_this}
use Rattle.definitions.specs.Records.{pick, tnil, trees_of, write_item, write_value, write_record, write_values, write_tree, write_trees}
use Rattle.definitions.specs.Fields.{bytes}
use Rattle.definitions.specs.Ir.{IrType}
use Rattle.definitions.specs.ProgramSheet.{function_name_tree}
use Rattle.definitions.specs.Sema.{return_type}
use Rattle.definitions.proofs.Fields.{length_bytes}
use Rattle.definitions.proofs.Results.{by_test}
use Rattle.ir.specs.declared.FunctionId.{FunctionId}
use Rattle.contract_nodes.specs.Nodes.{contract_in, function_in}
use Rattle.contract_nodes.specs.declared.contract.Function as code
use Rattle.contract_lookup.specs.Answers.{id_named}
use Rattle.contract_lookup.specs.Walked.{left_in, NextFunction, TakesNext}
use Rattle.contract_lookup.specs.declared.declarations.Functions.{Functions}
use Rattle.contract_lookup.specs.declared.declarations.FunctionIter.{FunctionIter}
use Rattle.lower_walk.proofs.Trees.{trees_append, trees_more}
use Rattle.lower_layout.specs.Laid.{Laid}
use Rattle.lower_layout.proofs.Storing.{laid_then, laid_lost}
use Rattle.lower_name_table.specs.NameTable.{is_named, names_of}

-- A NAME'S RECORD
pub name_is : (n i : ℕ) → ((bytes 4 10 ++ bytes 2 52) ++ bytes 2 n) ++ bytes 2 i ≡ write_tree (function_name_tree (n, i))
unfolding write_tree write_record write_values write_value write_item bytes
name_is n i = refl

pub name_length : (n i : ℕ) → length (write_tree (function_name_tree (n, i))) ≡ 10
name_length n i = rw (← name_is n i) (simp (length-append, length_bytes))

-- names with their ids
abbrev Rows : Type 0
Rows = List (ℕ × ℕ)

-- the last function of a name, from the functions that start with the id i
abbrev last_from : ℕ → List Function → ℕ → Option (ℕ × Function)
last_from i fs n = last_named (λ (f : Function). f.name) i fs n

abbrev id_or : Option (ℕ × Function) → ℕ → ℕ
id_or none j = j
id_or (some x) j = x.0

-- the rows without the names that P has
abbrev unseen : (ℕ → Bool) → Rows → Rows
unseen P [] = []
unseen P (r ∷ rs) = pick (P r.0) (unseen P rs) (r ∷ unseen P rs)

-- one name more
abbrev or_name : ℕ → (ℕ → Bool) → ℕ → Bool
or_name n P m = eqb n m || P m

unseen_both : (P : ℕ → Bool) (n : ℕ) (rs : Rows) → unseen P (unseen (eqb n) rs) ≡ unseen (or_name n P) rs
unseen_both P n [] = refl
unseen_both P n (r ∷ rs) = by_test (eqb n r.0) (λ q. rw q (unseen_both P n rs)) (λ q. rw (q, unseen_both P n rs))

all_unseen : (rs : Rows) → unseen (λ (n : ℕ). false) rs ≡ rs
all_unseen [] = refl
all_unseen (r ∷ rs) = ap (λ (x : Rows). r ∷ x) (all_unseen rs)

-- a row is set: the rows of other names do not see it
turned : (n m : ℕ) (t : Bool) → eqb n m ≡ t → eqb m n ≡ t
turned n m true q = eq-eqb m n (sym (eqb-true n m q))
turned n m false q = ne_eqb m n (λ e. eqb-false n m q (sym e))

set_hit : (n i : ℕ) (r : ℕ × ℕ) (rs : Rows) → eqb r.0 n ≡ true → set_name n i (r ∷ rs) ≡ (n, i) ∷ rs
set_hit n i r rs q = rw (q, set_name)

set_miss : (n i : ℕ) (r : ℕ × ℕ) (rs : Rows) → eqb r.0 n ≡ false → set_name n i (r ∷ rs) ≡ r ∷ set_name n i rs
set_miss n i r rs q = rw (q, set_name)

set_same : (n i : ℕ) (rs : Rows) → unseen (eqb n) (set_name n i rs) ≡ unseen (eqb n) rs
set_same n i [] = rw (eq-eqb n n refl)
set_same n i (r ∷ rs) =
    by_test (eqb r.0 n)
    (λ q. rw (set_hit n i r rs q, eq-eqb n n refl, turned r.0 n true q))
    (λ q. rw (set_miss n i r rs q, turned r.0 n false q, set_same n i rs))

set_other : (n m i : ℕ) (rs : Rows) → eqb n m ≡ false → unseen (eqb n) (set_name m i rs) ≡ set_name m i (unseen (eqb n) rs)
set_other n m i [] h = rw h
set_other n m i (r ∷ rs) h =
    by_test (eqb n r.0)
    (λ q. rw (set_miss m i r rs (rw (eqb-true n r.0 q) at h), q) (set_other n m i rs h))
    (λ q.
    by_test (eqb r.0 m)
    (λ k. rw (set_hit m i r rs k, q, h) (sym (set_hit m i r (unseen (eqb n) rs) k)))
    (λ k. rw (set_miss m i r rs k, q, set_other n m i rs h) (sym (set_miss m i r (unseen (eqb n) rs) k))))

or_this_lem : (l : Option (ℕ × Function)) (i : ℕ) (f : Function) → (g : Function) × (or_this l true (i, f) ≡ some (id_or l i, g))
or_this_lem none i f = (f, refl)
or_this_lem (some x) i f = (x.1, refl)

-- the first row stays first, with the last id of its name, and the others do not see its name
first_row : (i : ℕ) (fs : List Function) (n j : ℕ) (rs : Rows) → function_names i fs ((n, j) ∷ unseen (eqb n) rs) ≡ (n, id_or (last_from i fs n) j) ∷ unseen (eqb n) (function_names i fs rs)
first_row i [] n j rs = refl
first_row i (f ∷ fs) n j rs =
    by_test (eqb n f.name)
    (λ q.
    let m = f.name in
    let h = eq-eqb m m refl in
    let r = set_hit m i (m, j) (unseen (eqb m) rs) h ∙ ap (λ (x : Rows). (m, i) ∷ x) (sym (set_same m i rs)) in
    rw (eqb-true n m q, h) (ap (function_names (suc i) fs) r ∙ (first_row (suc i) fs m i (set_name m i rs) ∙ rw (or_this_lem (last_from (suc i) fs m) i f).1)))
    (λ q.
    let r = set_miss f.name i (n, j) (unseen (eqb n) rs) q ∙ ap (λ (x : Rows). (n, j) ∷ x) (sym (set_other n f.name i rs q)) in
    rw (turned n f.name false q) (ap (function_names (suc i) fs) r ∙ (first_row (suc i) fs n j (set_name f.name i rs) ∙ rw (miss (last_from (suc i) fs n)))))
  where
    miss : (l : Option (ℕ × Function)) → id_or l j ≡ id_or (or_this l false (i, f)) j
    miss none = refl
    miss (some x) = refl

-- THE ROWS that are left for the functions fs, the first of which has the id i, after functions with the names that P has
abbrev rows_left : (ℕ → Bool) → ℕ → List Function → Rows
rows_left P i fs = unseen P (function_names i fs [])

rows_next : (P : ℕ → Bool) (i : ℕ) (f : Function) (fs : List Function)
    → rows_left P i (f ∷ fs) ≡ pick (P f.name) (rows_left (or_name f.name P) (suc i) fs) ((f.name, id_or (last_from (suc i) fs f.name) i) ∷ rows_left (or_name f.name P) (suc i) fs)
rows_next P i f fs = ap (unseen P) (first_row (suc i) fs f.name i []) ∙ rw (unseen_both P f.name (function_names (suc i) fs []))

last_is : (i : ℕ) (f : Function) (fs : List Function) → (g : Function) × (last_from i (f ∷ fs) f.name ≡ some (id_or (last_from (suc i) fs f.name) i, g))
last_is i f fs = rw (eq-eqb f.name f.name refl) (or_this_lem (last_from (suc i) fs f.name) i f)

-- AN EARLIER FUNCTION of a name
either : (t u v : Bool) → (t || (u || v)) ≡ (u || (t || v))
either true true v = refl
either true false v = refl
either false u v = refl

is_named_next : (m i : ℕ) (fs : List Function) {f : Function} {more : List Function} → f ∷ more ≡ drop i fs → is_named m (suc i) fs ≡ (eqb f.name m || is_named m i fs)
is_named_next m zero [] h = absurd (cc)
is_named_next m (suc i) [] h = absurd (cc)
is_named_next m zero (g ∷ fs) {f} h = let e : f ≡ g = cc in rw e refl
is_named_next m (suc i) (g ∷ fs) {f} h = rw (is_named_next m i fs h) (either (eqb g.name m) (eqb f.name m) (is_named m i fs))

-- the functions, as their iterator gives them
pub functions_left : (w : FunctionIter) → YieldsList TakesNext (λ p. function_in p.1) w (left_in w)
functions_left w = YieldsList-from_shown TakesNext (λ p. function_in p.1) left_in (λ s t h. ap length h) (λ s x t h. h.is) w

-- LAYING THE NAMES DOWN
abbrev name_rows : Rows → List ℕ
name_rows rs = write_trees (trees_of function_name_tree rs tnil)

abbrev all_of : Functions → List Function
all_of F = (contract_in F.contract).functions

-- of the functions F, the names of those before w are laid down: their rows, and what is left gives the rest of them
pub record Named (F : Functions) (before : List ℕ) (to : ℕ) (w : FunctionIter) (now : List ℕ) (at : ℕ) : Type 0 where
  pub same : w.functions.now ≡ F
  pub seen : ℕ → Bool
  pub seen_is : (n : ℕ) → seen n ≡ is_named n w.next (all_of F)
  pub later : (n : ℕ) (x : ℕ × Function) → last_from w.next (left_in w) n ≡ some x → last_from 0 (all_of F) n ≡ some x
  pub rows : Rows
  pub rows_are : function_names 0 (all_of F) [] ≡ rows ++ rows_left seen w.next (left_in w)
  pub laid : Laid (name_rows rows) before to now (Some at)

pub start : {F : Functions} {w : FunctionIter} {before : List ℕ} {to at : ℕ} → w.next ≡ 0 → w.functions.now ≡ F → Laid [] before to before (Some at) → Named F before to w before at
unfolding write_trees
start {F} first same x =
    record {
      same = same;
      seen = λ n. false;
      seen_is = λ n. rw first refl;
      later = λ n x e. rw (first, same) at e;
      rows = [];
      rows_are = rw (first, same) (sym (all_unseen (function_names 0 (all_of F) [])));
      laid = x;
    }

module _ {F : Functions} {before now : List ℕ} {to at : ℕ} {w behind : FunctionIter} {id : FunctionId} {f : code.Function} (N : Named F before to w now at) (n : NextFunction w behind id f) where
  abbrev name : ℕ
  name = (function_in f).name

  here : drop w.next (all_of F) ≡ function_in f ∷ left_in behind
  here = sym (ap (λ (F : Functions). drop w.next (all_of F)) N.same) ∙ n.is

  id_here : ℕ
  id_here = id_or (last_from (suc w.next) (left_in behind) name) w.next

  left : Rows
  left = rows_left (or_name name N.seen) (suc w.next) (left_in behind)

  rows_here : rows_left N.seen w.next (left_in w) ≡ pick (N.seen name) left ((name, id_here) ∷ left)
  unfolding left id_here
  rows_here = ap (rows_left N.seen w.next) n.is ∙ rows_next N.seen w.next (function_in f) (left_in behind)

  next : {after : List ℕ} {end : ℕ} (rows : Rows) → N.rows ++ rows_left N.seen w.next (left_in w) ≡ rows ++ left → Laid (name_rows rows) before to after (Some end) → Named F before to behind after end
  unfolding left
  next rows q x =
      record {
        same = n.same ∙ N.same;
        seen = or_name name N.seen;
        seen_is = λ m. rw n.next (ap (λ (b : Bool). eqb name m || b) (N.seen_is m) ∙ sym (is_named_next m w.next (all_of F) (sym here)));
        later = λ m y p. N.later m y (rw (n.is, ap (λ (i : ℕ). last_from i (left_in behind) m) (sym n.next) ∙ p));
        rows = rows;
        rows_are = N.rows_are ∙ (q ∙ ap (λ (i : ℕ). rows ++ rows_left (or_name name N.seen) i (left_in behind)) (sym n.next));
        laid = x;
      }

  -- a new name: the last function that has it
  last_here : (g : Function) × (last_from 0 (all_of F) name ≡ some (id_here, g))
  unfolding id_here
  last_here = let r = last_is w.next (function_in f) (left_in behind) in (r.0, N.later name _ (rw n.is r.1))

  has_id : (p : ℕ × IrType) × (id_named (contract_in F.contract) name ≡ some p)
  unfolding id_named
  has_id = ((id_here, return_type last_here.0.return_type), rw last_here.1)

  module _ {m : ℕ} (name_is : m ≡ name) where
    -- its name m has an id
    pub named : (p : ℕ × IrType) × (id_named (contract_in F.contract) m ≡ some p)
    named = rw name_is has_id

    -- an earlier one has the name
    pub next_old : is_named m id.0 (all_of F) ≡ true → Named F before to behind now at
    next_old q = next N.rows (ap (λ (rs : Rows). N.rows ++ rs) (rows_here ∙ rw (N.seen_is name, rw (name_is, n.id) at q))) N.laid

    -- no earlier one has it: a row with the last id of the name, which may not fit
    module _ {j : ℕ} (new : is_named m id.0 (all_of F) ≡ false) (last : (i : ℕ) (t : IrType) → id_named (contract_in F.contract) m ≡ some (i, t) → j ≡ i) where
      rows_more : Rows
      rows_more = N.rows ++ ((m, j) ∷ [])

      more_are : N.rows ++ rows_left N.seen w.next (left_in w) ≡ rows_more ++ left
      unfolding rows_more has_id
      more_are =
          let id-is : j ≡ id_here = (rw name_is at last) _ _ has_id.1 in
          rw (name_is, id-is) (ap (λ (rs : Rows). N.rows ++ rs) (rows_here ∙ rw (N.seen_is name, rw (name_is, n.id) at new)) ∙ sym (append_assoc N.rows ((name, id_here) ∷ []) left))

      row_laid : {after : List ℕ} {end : prelude.Option ℕ} → Laid (write_tree (function_name_tree (m, j))) now at after end → Laid (name_rows rows_more) before to after end
      unfolding rows_more
      row_laid x = rw (trees_more function_name_tree N.rows (m, j)) (laid_then N.laid x)

      pub next_new : {after : List ℕ} {end : ℕ} → Laid (write_tree (function_name_tree (m, j))) now at after (Some end) → Named F before to behind after end
      next_new x = next rows_more more_are (row_laid x)

      pub lost_new : {after : List ℕ} → Laid (write_tree (function_name_tree (m, j))) now at after None → Laid (names_of (contract_in F.contract)) before to after None
      lost_new x = rw (N.rows_are ∙ more_are, trees_append function_name_tree rows_more left) (laid_lost _ (row_laid x))

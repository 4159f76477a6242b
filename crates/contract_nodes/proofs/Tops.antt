-- The top records of a contract sheet that passed 3 and 4: the contract, the walk over the storage fields, structs and functions in it,
-- how many there are of each, and what stands in a struct and in a function. Assumes nothing.
use mathlib.Core.Path.{◌≡◌, refl, ap, sym, ◌∙◌, subst}
use mathlib.Core.Bool.{true}
use mathlib.Core.List.{List, [], ◌∷◌, ◌++◌, map}
use mathlib.Core.Option.{some}
use Prim.Native.Nat.{ℕ, zero, suc, ◌+◌, ◌-◌, ◌*◌, ◌/◌, ◌%◌, ◌≤◌, ◌<◌}
use native.Mathlib.Nat.{div-add-mod'}
use native.Mathlib.Omega.{arith}
use lib.Dec.{leb, eqb}
use lib.ListN.{length}
use borrow.Author.Tests.{leb-true, eqb-true}
use Rattle.definitions.specs.All.{All, anil, acons}
use Rattle.definitions.specs.Fields.{le}
use Rattle.definitions.specs.Ast.{Param}
use Rattle.definitions.specs.Grammar.{Class, class_no, Entry, up_to, optional, name_and_type, Field, single, counted, listed, Pattern, done, one, many, rows}
use Rattle.definitions.specs.Records.{FieldValue, item, group, rest, ok_item, ok_items, read_item, read_items, read_value, read_values, size_of, field_end, ok_field, past_all, fields_end, opt_from, row, row_in, row_fields, Tree, node, Trees, tnil, tcons, read_records, Good, check_records, num_at, opt_at, items_at, gather}
use Rattle.definitions.specs.ContractSheet.{param_of, params_at, storage_of, struct_of, function_of, contract_of, read_contract, refusal3, refusal4, Counts, none_before, one_if, limit_tree, limit_trees}
use Rattle.definitions.proofs.Contracts.Limits.{TopKind, storage, struct, function, most_of, count_of, count_next, room_for, tree_within, within}
use Rattle.definitions.specs.Fine.{Head, Fine}
use Rattle.definitions.proofs.Sheets.Passed.{both_true, first_past, fine, both_good, read_end}
use Rattle.definitions.proofs.Sheets.Reads.{items_count}
use Rattle.definitions.proofs.Sheets.Lines.{OfRows, Given, by_lines}
use Rattle.definitions.proofs.Sheets.Singles.{items_from, after as after_all, Valid, Counted, counted_field}
use Rattle.definitions.proofs.Sheets.Steps.{Step, here, past as passed_over, many_step, One, this, one_step, done_ends}
use Rattle.sheet.specs.Passed.{Node, record_kind, stop_of, body_of, values_at, children_of}
use Rattle.sheet.proofs.Nodes.{opens}
use Rattle.contract_nodes.proofs.Children.{Entries, entries, row_is, by_row, not_over, kids_of, all_of}
use Rattle.contract_nodes.specs.Ready.{tree_at, top_class, function_at, stmts_from, params_from, Ready, ReadyAll, top_depth}
use Rattle.sheet.specs.Passed.{ContractPassed}

-- CLASSES: the kind of a record at the top is its class's number
abbrev Numbered : Class → ℕ → List Field → Pattern → Type 0
Numbered c k fs p = k ≡ class_no c

contract_kind : OfRows Numbered Class.contract rows
unfolding Given rows
contract_kind = by_lines Numbered Class.contract rows refl

storage_kind : OfRows Numbered Class.storage rows
unfolding Given rows
storage_kind = by_lines Numbered Class.storage rows refl

struct_kind : OfRows Numbered Class.struct rows
unfolding Given rows
struct_kind = by_lines Numbered Class.struct rows refl

function_kind : OfRows Numbered Class.function rows
unfolding Given rows
function_kind = by_lines Numbered Class.function rows refl

-- what a class at the top has
record TopRow (c : Class) : Type 0 where
  numbered : OfRows Numbered c rows
  kind : TopKind (class_no c)
  is : top_class (class_no c) ≡ c

abbrev top_pattern : List Class → Pattern
top_pattern [] = done
top_pattern (c ∷ cs) = many c (top_pattern cs)

abbrev top_classes : List Class
top_classes = Class.storage ∷ Class.struct ∷ Class.function ∷ []

top_rows : All TopRow top_classes
top_rows =
    acons (record { numbered = storage_kind; kind = storage; is = refl })
    (acons (record { numbered = struct_kind; kind = struct; is = refl })
    (acons (record { numbered = function_kind; kind = function; is = refl }) anil))

-- their numbers rise
abbrev pub Over : ℕ → List Class → Type 0
Over k cs = All (λ (c : Class). k < class_no c) cs

abbrev Rising : List Class → Type 0
Rising [] = Unit {0}
Rising (c ∷ cs) = ((k : ℕ) → k < class_no c → Over k (c ∷ cs)) × Rising cs

top_rising : Rising top_classes
top_rising = (λ k h. acons h (acons {a = Class.struct} (omega arith) (acons {a = Class.function} (omega arith) anil)), (λ k h. acons h (acons {a = Class.function} (omega arith) anil), (λ k h. acons h anil, tt)))

-- A RECORD whose first field is a name
record Named (s : List ℕ) (at : ℕ) : Type 0 where
  long : at + 8 ≤ stop_of s at
  is : num_at 0 (values_at s at) ≡ le 2 s (at + 6)
  small : le 2 s (at + 6) ≤ 65534

named_row : {fs : List Field} {s : List ℕ} {at : ℕ} → Entries (up_to 65534 ∷ []) fs s at → Named s at
unfolding items_from read_item after_all size_of Valid ok_item
named_row E = record { long = E.fits; is = ap (num_at 0) E.values; small = leb-true _ _ E.valid.0 }

top_named : {s : List ℕ} {at end k : ℕ} → Node s at end → record_kind s at ≡ k → TopKind k → Named s at
unfolding rows row_in row_fields
top_named n e storage = named_row (entries n (up_to 65534 ∷ []) (single (up_to 65534) ∷ []) e refl)
top_named n e struct = named_row (entries n (up_to 65534 ∷ []) (listed name_and_type ∷ []) e refl)
top_named n e function = named_row (entries n (up_to 65534 ∷ []) (single optional ∷ single (up_to 1) ∷ counted name_and_type ∷ []) e refl)

-- THE WALK: what is left of the contract's children from `at` on, and the three counts of those that came before
pub record Tops (s : List ℕ) (at : ℕ) : Type 0 where
  pub classes : List Class
  each : All TopRow classes
  rising : Rising classes
  pub fine : Fine s at (length s) (top_pattern classes)
  pub before : Counts
  pub limit : limit_trees (read_records s at (length s)) 2 before ≡ Good

-- the record at `at`, and what is left after it
pub record Top (s : List ℕ) (at : ℕ) (T : Tops s at) : Type 0 where
  pub kind : TopKind (record_kind s at)
  pub long : at + 8 ≤ stop_of s at
  pub inside : stop_of s at ≤ length s
  pub name : num_at 0 (values_at s at) ≡ le 2 s (at + 6)
  pub small : le 2 s (at + 6) ≤ 65534
  pub ready : {j : ℕ} → record_kind s at ≡ j → Ready (top_class j) s at top_depth
  pub read : read_records s at (length s) ≡ tcons (tree_at s at) (read_records s (stop_of s at) (length s))
  pub room : count_of (record_kind s at) T.before < most_of (record_kind s at)
  pub next : Tops s (stop_of s at)
  pub over_here : (k : ℕ) → Over k T.classes → k < record_kind s at
  pub over_next : (k : ℕ) → k < record_kind s at → Over k next.classes
  pub counts : {k : ℕ} → TopKind k → count_of k next.before ≡ count_of k T.before + one_if k (tree_at s at)

pub next_top : {s : List ℕ} {at : ℕ} (T : Tops s at) → at < length s → Top s at T
unfolding limit_tree
next_top {s} {at} T l = go T.classes T.each T.rising (λ k o. o) T.fine
  where
    n : Node s at (length s)
    n = opens (record { pattern = _; fine = T.fine }) l

    -- what is over all classes is over these
    Among : List Class → Type 0
    Among cs = (k : ℕ) → Over k T.classes → Over k cs

    first_over : {k : ℕ} {c : Class} {cs : List Class} → Over k (c ∷ cs) → k < class_no c
    first_over (acons h hs) = h

    rest_over : {k : ℕ} {c : Class} {cs : List Class} → Over k (c ∷ cs) → Over k cs
    rest_over (acons h hs) = hs

    found : {c : Class} {cs : List Class} {fs : List Field} {q : Pattern} {b stop : ℕ} → TopRow c → All TopRow (c ∷ cs) → Rising (c ∷ cs) → Among (c ∷ cs) → Head s at (length s) c fs q b stop → Fine s stop (length s) (top_pattern (c ∷ cs)) → Top s at T
    found {c} {cs} {fs} {q} R Rs u among hd more =
        let k : record_kind s at ≡ class_no c = R.numbered (record_kind s at) fs q hd.is in
        let K : TopKind (record_kind s at) = subst TopKind (sym k) R.kind in
        let x : row c fs q ≡ row n.class n.fields n.pattern = sym hd.is ∙ n.head.is in
        let y : n.class ≡ c = cc in
        let N : Named s at = top_named n k R.kind in
        let g = both_good _ _ (subst (λ (ts : Trees). limit_trees ts 2 T.before ≡ Good) n.is T.limit) in
        record {
          kind = K;
          long = N.long;
          inside = n.head.high;
          name = N.is;
          small = N.small;
          ready = λ {j} e. record { end = length s; node_at = n; class_is = y ∙ (sym R.is ∙ ap top_class (sym k ∙ e)); inside = omega arith; depth = 2; sum = refl; before = T.before; limit = g.0 };
          read = n.is;
          room = room_for K (tree_within at (record_kind s at) (values_at s at) (children_of s at) 2 T.before g.0).0 refl;
          next = record { classes = c ∷ cs; each = Rs; rising = u; fine = rw hd.stop_is at more; before = _; limit = g.1 };
          over_here = λ j o. subst (λ (x : ℕ). j < x) (sym k) (first_over (among j o));
          over_next = λ j h. u.0 j (subst (λ (x : ℕ). j < x) k h);
          counts = λ J. count_next (tree_at s at) T.before J;
        }

    go : (cs : List Class) → All TopRow cs → Rising cs → Among cs → Fine s at (length s) (top_pattern cs) → Top s at T
    go [] anil u among f = absurd (omega (arith, done_ends f))
    go (c ∷ cs) (acons R Rs) u among f = step (many_step c (top_pattern cs) f) (λ g. go cs Rs u.1 (λ k o. rest_over (among k o)) g)
      where
        step : Step s at (length s) c (many c (top_pattern cs)) (top_pattern cs) → (Fine s at (length s) (top_pattern cs) → Top s at T) → Top s at T
        step (here hd kids more) below = found R (acons R Rs) u among hd more
        step (passed_over g) below = below g

-- THE CONTRACT: its record stands at 0, and its children from 8 to the end
pub record ContractAt (s : List ℕ) : Type 0 where
  pub long : 8 ≤ length s
  pub kind : record_kind s 0 ≡ 1
  pub body : body_of s 0 ≡ 8
  pub stop : stop_of s 0 ≡ length s
  pub ready : Ready Class.contract s 0 40
  pub children : children_of s 0 ≡ read_records s 8 (length s)
  pub tops : Tops s 8
  pub none_before_lem : tops.before ≡ none_before
  pub storage : (read_contract s).storage ≡ gather 2 2 storage_of (read_records s 8 (length s))
  pub structs : (read_contract s).structs ≡ gather 3 3 struct_of (read_records s 8 (length s))
  pub functions : (read_contract s).functions ≡ gather 4 4 function_of (read_records s 8 (length s))

pub contract_at : {s : List ℕ} → ContractPassed s → ContractAt s
unfolding refusal3 refusal4 check_records read_contract contract_of limit_tree rows row_in row_fields fields_end items_from after_all size_of
contract_at {s} C = go (one_step Class.contract done f)
  where
    f : Fine s 0 (length s) (one Class.contract done)
    f = fine _ s 0 (length s) _ C.form

    go : One s 0 (length s) Class.contract done → ContractAt s
    go (this {fs = fs} {q = q} {b = b} {stop = stop} hd kids more) =
        let n : Node s 0 (length s) = opens (record { pattern = _; fine = f }) (omega (arith, hd.low, hd.mid, hd.high)) in
        let k : record_kind s 0 ≡ 1 = contract_kind (record_kind s 0) fs q hd.is in
        let z : stop_of s 0 ≡ length s = sym hd.stop_is ∙ done_ends more in
        let w : body_of s 0 ≡ 8 = (entries n (up_to 65534 ∷ []) [] k refl).body in
        let r : row Class.contract (single (up_to 65534) ∷ []) (top_pattern top_classes) ≡ row n.class n.fields n.pattern = row_is n k in
        let p : n.pattern ≡ top_pattern top_classes = cc in
        let y : n.class ≡ Class.contract = cc in
        let l : read_records s (length s) (length s) ≡ tnil = read_end s (length s) in
        let h : children_of s 0 ≡ read_records s 8 (length s) = rw (w, z) in
        let i : read_records s 0 (length s) ≡ tcons (node 0 (record_kind s 0) (values_at s 0) (read_records s 8 (length s))) (read_records s (stop_of s 0) (length s)) = n.is ∙ ap (λ (ts : Trees). tcons (node 0 (record_kind s 0) (values_at s 0) ts) (read_records s (stop_of s 0) (length s))) h in
        let g = both_good _ _ (subst (λ (ts : Trees). limit_trees ts 1 none_before ≡ Good) n.is C.limits) in
        let m = (tree_within 0 (record_kind s 0) (values_at s 0) (children_of s 0) 1 none_before g.0).1 in
        record {
          long = omega (arith, w, z, n.head.mid);
          kind = k;
          body = w;
          stop = z;
          ready = record { end = length s; node_at = n; class_is = y; inside = omega arith; depth = 1; sum = refl; before = none_before; limit = g.0 };
          children = h;
          tops = record { classes = top_classes; each = top_rows; rising = top_rising; fine = rw (w, z, p) at n.kids; before = none_before; limit = subst (λ (ts : Trees). limit_trees ts 2 none_before ≡ Good) h m };
          none_before_lem = refl;
          storage = ap (λ (ts : Trees). (contract_of ts).storage) i;
          structs = ap (λ (ts : Trees). (contract_of ts).structs) i;
          functions = ap (λ (ts : Trees). (contract_of ts).functions) i;
        }

-- at most 256 storage fields, 64 structs and 64 functions
pub at_most : {s : List ℕ} {A : Type 0} {k : ℕ} (f : Tree → A) → ContractPassed s → TopKind k → length (gather k k f (read_records s 8 (length s))) ≤ most_of k
at_most {s} {A} {k} f C K =
    let D : ContractAt s = contract_at C in
    let e : limit_trees (read_records s 8 (length s)) 2 none_before ≡ Good = rw D.none_before_lem at D.tops.limit in
    omega (arith, within f (read_records s 8 (length s)) 2 none_before K e (omega (arith, zero_count K)), zero_count K)
  where
    zero_count : {j : ℕ} → TopKind j → count_of j none_before ≡ 0
    zero_count storage = refl
    zero_count struct = refl
    zero_count function = refl

-- PAIRS of a name and a type
pairs_are : (n : ℕ) (s : List ℕ) (at : ℕ) → map param_of (read_items name_and_type n s at) ≡ params_from s at n
unfolding read_items read_item size_of params_from
pairs_are zero s at = refl
pairs_are (suc n) s at = ap (λ (ps : List Param). record { name = le 2 s at; ty = le 2 s (at + 2) } ∷ ps) (pairs_are n s (at + 4))

abbrev pub SmallParam : Param → Type 0
SmallParam p = (p.name ≤ 65534) × (p.ty ≤ 65534)

pairs_small : (n : ℕ) (s : List ℕ) (at : ℕ) → ok_items name_and_type n s at ≡ true → All SmallParam (params_from s at n)
unfolding ok_items ok_item size_of params_from
pairs_small zero s at e = anil
pairs_small (suc n) s at e =
    let a = both_true (ok_item name_and_type s at) (ok_items name_and_type n s (at + 4)) e in
    let b = both_true (leb (le 2 s at) 65534) (leb (le 2 s (at + 2)) 65534) a.0 in
    acons (leb-true _ _ b.0, leb-true _ _ b.1) (pairs_small n s (at + 4) a.1)

-- A STRUCT: n fields from `at + 8` to its end
pub record StructAt (s : List ℕ) (at n : ℕ) : Type 0 where
  pub kind : record_kind s at ≡ 3
  pub inside : stop_of s at ≤ length s
  pub ends : 4 * n + (at + 8) ≡ stop_of s at
  pub few : n ≤ 64
  pub name : (struct_of (tree_at s at)).name ≡ le 2 s (at + 6)
  pub fields : (struct_of (tree_at s at)).fields ≡ params_from s (at + 8) n
  pub small_fields : All SmallParam (params_from s (at + 8) n)

-- the whole rest is entries
listed_rest : {b : ℕ} (s : List ℕ) (stop at : ℕ) → past_all (listed name_and_type ∷ []) s stop at ≡ some b → ((stop - at) % 4 ≡ 0) × (ok_items name_and_type ((stop - at) / 4) s at ≡ true)
unfolding ok_field size_of
listed_rest s stop at h = let a = both_true (eqb ((stop - at) % 4) 0) _ (first_past (listed name_and_type) [] s stop at h).0 in (eqb-true _ _ a.0, a.1)

pub struct_at : {s : List ℕ} {at d : ℕ} → Ready Class.struct s at d → (n : ℕ) × StructAt s at n
unfolding rows row_in row_fields read_values read_value items_from read_item after_all size_of
struct_at {s} {at} R =
    let n = R.node_at in
    let k : record_kind s at ≡ 3 = by_row Numbered struct_kind R in
    let E : Entries (up_to 65534 ∷ []) (listed name_and_type ∷ []) s at = entries n (up_to 65534 ∷ []) (listed name_and_type ∷ []) k refl in
    let m : ℕ = (stop_of s at - (at + 8)) / 4 in
    let v : values_at s at ≡ item (read_item (up_to 65534) s (at + 6)) ∷ rest (read_items name_and_type m s (at + 8)) ∷ [] = E.values in
    let j : length (items_at 1 (values_at s at)) ≡ m = ap (λ (x : List FieldValue). length (items_at 1 x)) v ∙ items_count name_and_type m s (at + 8) in
    let l : at + 8 ≤ stop_of s at = E.fits in
    let y = listed_rest s (stop_of s at) (at + 8) E.more in
    let z : (stop_of s at - (at + 8)) % 4 ≡ 0 = y.0 in (
      m,
      record {
        kind = k;
        inside = omega (arith, n.head.high, R.inside);
        ends = omega (arith, div-add-mod' (stop_of s at - (at + 8)) 4);
        few = omega (arith, (not_over R).0.struct_fields k);
        name = ap (num_at 0) v;
        fields = ap (params_at 1) v ∙ pairs_are m s (at + 8);
        small_fields = pairs_small m s (at + 8) y.1;
      },
    )

-- A FUNCTION: its parameters, and its statements after them
abbrev pub body_from : List ℕ → ℕ → ℕ
body_from s at = at + 14 + 4 * le 2 s (at + 12)

pub record FunctionAt (s : List ℕ) (at d : ℕ) : Type 0 where
  pub kind : record_kind s at ≡ 4
  pub inside : stop_of s at ≤ length s
  pub fits : body_from s at ≤ stop_of s at
  pub body_is : body_of s at ≡ body_from s at
  pub few : le 2 s (at + 12) ≤ 16
  pub small : le 2 s (at + 6) ≤ 65534
  pub name : (function_at s at).name ≡ le 2 s (at + 6)
  pub return_type : (function_at s at).return_type ≡ opt_from (le 2 s (at + 8))
  pub params : (function_at s at).params ≡ params_from s (at + 14) (le 2 s (at + 12))
  pub small_params : All SmallParam (params_from s (at + 14) (le 2 s (at + 12)))
  pub body : (function_at s at).body ≡ stmts_from s (body_from s at) (stop_of s at)
  pub statements : ReadyAll Class.statement s (body_from s at) (stop_of s at) (d - 1)

pub function_at_lem : {s : List ℕ} {at d : ℕ} → Ready Class.function s at d → FunctionAt s at d
unfolding rows row_in row_fields read_values read_value items_from read_item after_all size_of field_end fields_end function_of Valid ok_item
function_at_lem {s} {at} {d} R =
    let n = R.node_at in
    let k : record_kind s at ≡ 4 = by_row Numbered function_kind R in
    let es : List Entry = up_to 65534 ∷ optional ∷ up_to 1 ∷ [] in
    let E : Entries es (counted name_and_type ∷ []) s at = entries n es (counted name_and_type ∷ []) k refl in
    let C : Counted name_and_type [] s (stop_of s at) (at + 12) (body_of s at) = counted_field name_and_type [] s (stop_of s at) (at + 12) E.more in
    let m : ℕ = le 2 s (at + 12) in
    let e : at + 12 + 2 ≡ at + 14 = omega arith in
    let v : values_at s at ≡ items_from es s at 6 ++ (group (read_items name_and_type m s (at + 14)) ∷ []) = E.values ∙ ap (λ (x : ℕ). items_from es s at 6 ++ (group (read_items name_and_type m s x) ∷ [])) e in
    let w : body_of s at ≡ body_from s at = E.body ∙ ap (λ (x : ℕ). x + 4 * m) e in
    let j : length (items_at 3 (values_at s at)) ≡ m = ap (λ (x : List FieldValue). length (items_at 3 x)) v ∙ items_count name_and_type m s (at + 14) in
    let r : row Class.function (single (up_to 65534) ∷ single optional ∷ single (up_to 1) ∷ counted name_and_type ∷ []) (many Class.statement done) ≡ row n.class n.fields n.pattern = row_is n k in
    let p : n.pattern ≡ many Class.statement done = cc in
    record {
      kind = k;
      inside = omega (arith, n.head.high, R.inside);
      fits = omega (arith, w, n.head.mid);
      body_is = w;
      few = omega (arith, (not_over R).0.parameters k);
      small = leb-true _ _ E.valid.0;
      name = ap (num_at 0) v;
      return_type = ap (opt_at 1) v;
      params = ap (params_at 3) v ∙ pairs_are m s (at + 14);
      small_params = pairs_small m s (at + 14) (subst (λ (x : ℕ). ok_items name_and_type m s x ≡ true) e C.valid);
      body = rw w;
      statements = all_of (rw (w, p) at (kids_of R));
    }

-- The walk over the functions of a program sheet that passed; the sheet as a whole. Assumes nothing.
use mathlib.Core.Path.{◌≡◌, refl, ap, ◌∙◌, subst}
use mathlib.Core.List.{List, [], ◌∷◌}
use Prim.Native.Nat.{ℕ, ◌+◌, ◌*◌, ◌≤◌, ◌<◌}
use native.Mathlib.Omega.{arith}
use lib.Dec.{eqb}
use lib.ListN.{length}
use Rattle.definitions.specs.Fields.{le}
use Rattle.definitions.specs.Ir.{IrFunction}
use Rattle.definitions.specs.Grammar.{Class, class_no, Entry, up_to, ir_type, value_and_type, Field, counted, Pattern, done, many, rows}
use Rattle.definitions.specs.Records.{left, after, FieldValue, ok_item, read_item, read_value, size_of, field_end, fields_end, read_values, node, Trees, read_records, gather, Good, check_records}
use Rattle.definitions.specs.ProgramSheet.{block_of, ir_function_of, program_of, read_program, refusal40}
use Rattle.definitions.proofs.Results.{by_test}
use Rattle.definitions.specs.Fine.{Head, Fine, ends, goes}
use Rattle.definitions.proofs.Sheets.Passed.{fine, read_end, read_step}
use Rattle.definitions.proofs.Sheets.Lines.{OfRows, Given, by_lines, same_class, not_left}
use Rattle.definitions.proofs.Sheets.Singles.{items_from, after as after_all, Valid, Starts, starts, Counted, counted_field}
use Rattle.definitions.proofs.Sheets.Steps.{Step, here, past, many_step, One, this, one_step, done_ends, low}
use Rattle.program_nodes.specs.Offsets.{head_width, function_id_at, function_name_at, return_type_at, param_count_at, first_param_at}
use Rattle.sheet.specs.Passed.{record_kind, stop_of}
use Rattle.program_nodes.specs.Positions.{type_here, BlocksFrom, blocks_here, params_here, locals_at, first_block, types_here, functions_here, function_here, FunctionsFrom, ProgramHere, FunctionHere}
use Rattle.program_nodes.specs.Standing.{FunctionStands}
use Rattle.sheet.proofs.Standing.{kept}

-- A FUNCTION'S RECORD
pub record FunctionStep (s : List ℕ) (at end stop : ℕ) : Type 0 where
  pub high : stop ≤ end
  pub low : at + (first_param_at + 2) ≤ first_block s at
  pub kind : record_kind s at ≡ 51
  pub blocks : BlocksFrom s (first_block s at) stop
  pub next : Fine s stop end (many Class.ir_function (many Class.function_name done))
  pub read : functions_here s at end ≡ function_here s at (first_block s at) stop ∷ functions_here s stop end

module _ (s : List ℕ) (at end b stop : ℕ) where
  record Row51 (k : ℕ) (vs : List FieldValue) : Type 0 where
    kind : k ≡ 51
    body : b ≡ first_block s at
    low : at + (first_param_at + 2) ≤ b
    is : (ts : Trees) → ir_function_of (node at k vs ts) ≡ record {
      id = le 2 s (at + function_id_at);
      name = le 2 s (at + function_name_at);
      params = params_here s at;
      ret_ty = type_here s (at + return_type_at);
      blocks = gather 53 53 block_of ts;
      locals = types_here (le 2 s (locals_at s at)) s (locals_at s at + 2);
    }

  abbrev F : Class → ℕ → List Field → Pattern → Type 0
  F c k fs p = Head s at end c fs p b stop → (p ≡ many Class.basic_block done) × Row51 k (read_values fs s stop (at + head_width))

  function_row : OfRows F Class.ir_function rows
  unfolding Given rows items_from read_item after_all size_of field_end read_value read_values fields_end Valid ok_item params_here type_here types_here
  function_row =
      by_lines F Class.ir_function rows
      (λ hd.
      let fs : List Field = counted value_and_type ∷ counted ir_type ∷ [] in
      let es : List Entry = up_to 65534 ∷ up_to 65534 ∷ ir_type ∷ [] in
      let S : Starts es fs s at b stop = starts es fs hd in
      let C : Counted value_and_type (counted ir_type ∷ []) s stop (at + param_count_at) b = counted_field value_and_type (counted ir_type ∷ []) s stop (at + param_count_at) S.more in
      let e : at + param_count_at + 2 ≡ at + first_param_at = omega arith in
      let f : at + param_count_at + 2 + 6 * le 2 s (at + param_count_at) ≡ locals_at s at = omega arith in
      let body : b ≡ first_block s at = S.body ∙ ap (λ (x : ℕ). x + 2 + 4 * le 2 s x) f in (
        refl,
        record {
          kind = refl;
          body = body;
          low = omega (arith, body);
          is = λ ts. ap (λ (x : List FieldValue). ir_function_of (node at 51 x ts)) S.values ∙ rw (f, e) refl;
        },
      ))

-- FUNCTIONS AND THEIR NAMES: what stands at a place among them
data AtFunction (s : List ℕ) (at end : ℕ) : Type 0 where
  no_function_lem : functions_here s at end ≡ [] → (at < end → record_kind s at ≡ 52) → AtFunction s at end
  at_function : FunctionStep s at end (stop_of s at) → AtFunction s at end

abbrev N : Class → ℕ → List Field → Pattern → Type 0
N c k fs p = k ≡ 52

name_row : OfRows N Class.function_name rows
unfolding Given rows
name_row = by_lines N Class.function_name rows refl

name_kind : {s : List ℕ} {at end b stop : ℕ} {fs : List Field} {p : Pattern} → Head s at end Class.function_name fs p b stop → record_kind s at ≡ 52
name_kind {s} {at} hd = name_row (record_kind s at) _ _ hd.is

left_name : {c : Class} (r : Pattern) → after (many Class.function_name done) c ≡ left r → (c ≡ Class.function_name) × (r ≡ many Class.function_name done)
unfolding after
left_name {c} r e =
    by_test (eqb (class_no c) (class_no Class.function_name))
    (λ z. let y : left (many Class.function_name done) ≡ left r = rw z at e in (same_class c Class.function_name z, cc))
    (λ z. absurd (not_left (rw z at e)))

-- the records of names: none of them is a function
names_only : {s : List ℕ} {at end : ℕ} {q : Pattern} → Fine s at end q → q ≡ many Class.function_name done → functions_here s at end ≡ []
unfolding functions_here
names_only {s} {at} (ends z m) e = rw (← z) (ap (gather 51 51 ir_function_of) (read_end s at))
names_only {s} {at} {end} (goes {b = b} {stop = stop} {fs = fs} hd a kids rest) e =
    let w = left_name _ (rw e at a) in
    let k : record_kind s at ≡ 52 = name_kind (rw w.0 at hd) in
    rw (read_step hd kids rest, k) (names_only rest w.1)

first_name : {s : List ℕ} {at end : ℕ} → Step s at end Class.function_name (many Class.function_name done) done → at < end → record_kind s at ≡ 52
first_name (past f) l = absurd (omega (arith, done_ends f))
first_name (here hd kids more) l = name_kind hd

function_step : {s : List ℕ} {at end : ℕ} → Step s at end Class.ir_function (many Class.ir_function (many Class.function_name done)) (many Class.function_name done) → AtFunction s at end
unfolding functions_here blocks_here
function_step {s} {at} {end} (past f) = no_function_lem (names_only f refl) (first_name (many_step Class.function_name done f))
function_step {s} {at} {end} (here {fs = fs} {q = q} {b = b} {stop = stop} hd kids more) =
    let r = function_row s at end b stop (record_kind s at) fs q hd.is hd in
    let R = r.1 in
    let f : BlocksFrom s (first_block s at) stop = subst (λ (x : ℕ). BlocksFrom s x stop) R.body (subst (λ (p : Pattern). Fine s b stop p) r.0 kids) in
    at_function (subst (FunctionStep s at end) hd.stop_is (record {
      high = hd.high;
      low = omega (arith, R.low, R.body);
      kind = R.kind;
      blocks = f;
      next = more;
      read =
          ap (gather 51 51 ir_function_of) (read_step hd kids more) ∙ rw R.kind
          (ap (λ (x : IrFunction). x ∷ gather 51 51 ir_function_of (read_records s stop end)) (subst (λ (k : ℕ). ir_function_of (node at k (read_values fs s stop (at + head_width)) (read_records s b stop)) ≡ function_here s at b stop) R.kind (R.is (read_records s b stop)) ∙ ap (λ (x : ℕ). function_here s at x stop) R.body));
    }))

at_functions : {s : List ℕ} {at : ℕ} → FunctionsFrom s at → AtFunction s at (length s)
at_functions f = function_step (many_step Class.ir_function (many Class.function_name done) f)

-- a record that is there has its head, and its kind says whether it is a function
pub head_there : {s : List ℕ} {at end : ℕ} {p : Pattern} → Fine s at end p → at < end → at + head_width ≤ end
head_there (ends z m) l = absurd (omega arith)
head_there (goes hd a kids rest) l = omega (arith, hd.low, hd.mid, hd.high)

pub function_here_lem : {s : List ℕ} {at : ℕ} → FunctionsFrom s at → at < length s → record_kind s at ≡ 51 → FunctionStep s at (length s) (stop_of s at)
function_here_lem f l k = elim (at_functions f) [ no_function_lem e n ↦ absurd (omega (arith, n l, k)) | at_function F ↦ F ]

pub no_functions : {s : List ℕ} {at : ℕ} → FunctionsFrom s at → (at < length s → record_kind s at ≡ 51 → ⊥) → functions_here s at (length s) ≡ []
no_functions f n = elim (at_functions f) [ no_function_lem e m ↦ e | at_function F ↦ absurd (n (omega (arith, F.low, F.high, low F.blocks)) F.kind) ]

-- where the fields of a function end
pub function_fits : {s : List ℕ} {at : ℕ} → FunctionsFrom s at → at < length s → record_kind s at ≡ 51 → (first_block s at ≤ stop_of s at) × (stop_of s at ≤ length s)
function_fits f l k = let F = function_here_lem f l k in (low F.blocks, F.high)

-- a function by what its node keeps
pub function_here_is : {s : List ℕ} {at first stop name : ℕ} → FunctionStands s at first stop name → FunctionHere s at first stop name
function_here_is h =
    let F = function_here_lem (kept h.0) h.1 h.2 in
    record {
      name_is = h.5;
      first_is = h.3;
      low = rw (h.3, h.4) (low F.blocks);
      inside = rw h.4 F.high;
      blocks = rw (h.3, h.4) F.blocks;
      next = rw h.4 F.next;
      read = rw (h.3, h.4) F.read;
    }

-- THE PROGRAM: its records stand from 6 on, to the end
abbrev G : Class → ℕ → List Field → Pattern → Type 0
G c k fs p = (fs ≡ []) × (p ≡ many Class.ir_function (many Class.function_name done))

program_row : OfRows G Class.program rows
unfolding Given rows
program_row = by_lines G Class.program rows (refl, refl)

pub record ProgramAt (s : List ℕ) : Type 0 where
  pub records : ProgramHere s
  pub functions : (read_program s).functions ≡ functions_here s 6 (length s)

pub program_at : (s : List ℕ) → refusal40 s ≡ Good → ProgramAt s
unfolding refusal40 check_records read_program fields_end functions_here
program_at s e = go (one_step Class.program done (fine _ s 0 (length s) _ e))
  where
    go : One s 0 (length s) Class.program done → ProgramAt s
    go (this {fs = fs} {q = q} {b = b} {stop = stop} hd kids more) =
        let r = program_row (record_kind s 0) fs q hd.is in
        let z : stop ≡ length s = done_ends more in
        let w : b ≡ 6 = subst (λ (x : List Field). b ≡ fields_end x s stop (0 + head_width)) r.0 hd.body_is in
        record {
          records = rw (← z, ← w) (subst (λ (p : Pattern). Fine s b stop p) r.1 kids);
          functions = ap (λ (x : Trees). (program_of x).functions) (read_step hd kids more) ∙ (ap (λ (x : ℕ). gather 51 51 ir_function_of (read_records s x stop)) w ∙ ap (λ (x : ℕ). gather 51 51 ir_function_of (read_records s 6 x)) z);
        }

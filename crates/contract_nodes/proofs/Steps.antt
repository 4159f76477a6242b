-- What the nodes' functions cite: the kinds by their numbers, pairs of a name and a type by their position, and the fields of a struct literal. Assumes nothing.
use mathlib.Core.Path.{◌≡◌, refl, ap, ap₂, sym, ◌∙◌, subst}
use mathlib.Core.List.{List, [], ◌∷◌, ◌++◌}
use mathlib.Core.Option.{some}
use Prim.Native.Nat.{ℕ, zero, suc, ◌+◌, ◌-◌, ◌*◌, ◌<◌, ◌≤◌}
use native.Mathlib.Omega.{arith}
use lib.Dec.{eqb}
use lib.ListN.{length}
use borrow.Author.Tests.{eqb-true, eqb-false}
use Rattle.std.proofs.Common.{Option as Maybe, None, Some}
use Rattle.std.specs.Iterator.{MakesProgress, at_most}
use Rattle.std.specs.Option.{MatchOption, IsSomeAnd, SomeIff}
use Rattle.definitions.specs.Fields.{le}
use Rattle.definitions.specs.Ast as ast
use Rattle.definitions.specs.Grammar.{Class, Field, Pattern, done, one, rows}
use Rattle.definitions.specs.Records.{row_in, num_at, Tree, node, Trees}
use Rattle.definitions.specs.ContractSheet.{expr_of, exprs_of, field_inits_of}
use Rattle.definitions.proofs.Results.{by_test}
use Rattle.definitions.proofs.Sheets.Lines.{OfRows, Given, by_lines}
use Rattle.format.specs.Kinds.{expr_number, stmt_number}
use Rattle.format.specs.Operators.{operator_number}
use Rattle.format.specs.declared.kinds.Expr.TheVariants as expr
use Rattle.format.specs.declared.kinds.Expr as exprs
use Rattle.format.specs.declared.kinds.Stmt.TheVariants as stmt
use Rattle.format.specs.declared.kinds.Stmt as stmts
use Rattle.format.specs.declared.operators.BinOp.{BinOp}
use Rattle.format.specs.declared.operators.BinOp.TheVariants as op
use Rattle.ir.specs.Answers.{option_of}
use Rattle.ir.specs.declared.Name.{Name}
use Rattle.sheet.specs.Passed.{record_kind, stop_of, values_at}
use Rattle.contract_nodes.specs.declared.contract.Function.{Function}
use Rattle.contract_nodes.specs.declared.contract.Param.{Param}
use Rattle.contract_nodes.specs.declared.contract.Struct.{Struct}
use Rattle.contract_nodes.specs.Ready.{expr_at, fields_from, function_at, params_from, RecordStands, StandAll, Ready, ReadyAll, top_depth}
use Rattle.contract_nodes.specs.Nodes.{opt_name, param_is}
use Rattle.contract_nodes.proofs.Children.{by_row, named, More, more, End}
use Rattle.contract_nodes.proofs.ExprPlaces.{one_at}
use Rattle.contract_nodes.proofs.Standing.{ready, ready_all, stands, stand_all}
use Rattle.contract_nodes.proofs.Tops.{FunctionAt, StructAt, function_at_lem, struct_at}

-- a record's stop, from the number that was read
pub stop_is : (s : List ℕ) (at : ℕ) {n : ℕ} → n ≡ le 4 s at → at + n ≡ stop_of s at
stop_is s at e = ap (λ (x : ℕ). at + x) e

-- AT AN EQUAL PLACE
pub stands_at : {c : Class} {s : List ℕ} {p x d : ℕ} → p ≡ x → Ready c s x d → RecordStands c s p d
stands_at {c} {s} {d = d} e r = subst (λ (y : ℕ). RecordStands c s y d) (sym e) (stands r)

pub all_to : {c : Class} {s : List ℕ} {at e x d : ℕ} → e ≡ x → ReadyAll c s at x d → StandAll c s at e d
all_to {c} {s} {at} {d = d} z r = subst (λ (y : ℕ). StandAll c s at y d) (sym z) (stand_all r)

pub all_at : {c : Class} {s : List ℕ} {a at e x d : ℕ} → a ≡ at → e ≡ x → ReadyAll c s at x d → StandAll c s a e d
all_at {c} {s} {e = e} {d = d} w z r = subst (λ (y : ℕ). StandAll c s y e d) (sym w) (all_to z r)

-- KINDS: a record of a class has a number that is read as a kind
abbrev ExprKind : Class → ℕ → List Field → Pattern → Type 0
ExprKind c k fs p = (x : exprs.Expr) × (expr_number x ≡ k)

expr_rows : OfRows ExprKind Class.expression rows
unfolding Given rows
expr_rows =
    by_lines ExprKind Class.expression rows
    (expr.Int, refl)
    (expr.Ident, refl)
    (expr.StorageRead, refl)
    (expr.MappingRead, refl)
    (expr.FieldAccess, refl)
    (expr.StructLiteral, refl)
    (expr.Binary, refl)
    (expr.Call, refl)

pub expr_kind : {s : List ℕ} {at d : ℕ} → Ready Class.expression s at d → (x : exprs.Expr) × (expr_number x ≡ record_kind s at)
expr_kind r = by_row ExprKind expr_rows r

abbrev StmtKind : Class → ℕ → List Field → Pattern → Type 0
StmtKind c k fs p = (x : stmts.Stmt) × (stmt_number x ≡ k)

stmt_rows : OfRows StmtKind Class.statement rows
unfolding Given rows
stmt_rows =
    by_lines StmtKind Class.statement rows
    (stmt.Let, refl)
    (stmt.Constrain, refl)
    (stmt.Assign, refl)
    (stmt.StorageWrite, refl)
    (stmt.MappingWrite, refl)
    (stmt.If, refl)
    (stmt.While, refl)
    (stmt.For, refl)
    (stmt.Return, refl)
    (stmt.Emit, refl)
    (stmt.Expr, refl)

pub stmt_kind : {s : List ℕ} {at d : ℕ} → Ready Class.statement s at d → (x : stmts.Stmt) × (stmt_number x ≡ record_kind s at)
stmt_kind r = by_row StmtKind stmt_rows r

-- an operator's number
abbrev OpOf : ℕ → Type 0
OpOf n = (x : BinOp) × (operator_number x ≡ n)

or_above : (i n : ℕ) → i ≤ n → OpOf i → (i < n → OpOf n) → OpOf n
or_above i n h x above = by_test (eqb n i) (λ q. (x.0, x.1 ∙ sym (eqb-true n i q))) (λ q. above (omega (arith, eqb-false n i q, h)))

pub op_kind : (n : ℕ) → n ≤ 9 → OpOf n
op_kind n h =
    or_above 0 n (omega arith) (op.Add, refl) (λ h.
    or_above 1 n h (op.Sub, refl) (λ h.
    or_above 2 n h (op.Mul, refl) (λ h.
    or_above 3 n h (op.Div, refl) (λ h.
    or_above 4 n h (op.Eq, refl) (λ h.
    or_above 5 n h (op.Neq, refl) (λ h.
    or_above 6 n h (op.Lt, refl) (λ h.
    or_above 7 n h (op.Gt, refl) (λ h.
    or_above 8 n h (op.Lte, refl) (λ h.
    or_above 9 n h (op.Gte, refl) (λ i.
    absurd (omega (arith, i, h_most))))))))))))
  where
    h_most : n ≤ 9
    h_most = h

-- PAIRS of a name and a type
pub params_length : (s : List ℕ) (at n : ℕ) → length (params_from s at n) ≡ n
unfolding params_from
params_length s at zero = refl
params_length s at (suc n) = ap suc (params_length s (at + 4) n)

pub param_at : (s : List ℕ) (at n i : ℕ) {x : ℕ} (p : Param) → i < n → x ≡ at + 4 * i → p.name.0 ≡ le 2 s x → p.ty.0 ≡ le 2 s (x + 2) → param_is p (params_from s at n) i
unfolding params_from
param_at s at zero i p h e a b = absurd (omega (arith, h))
param_at s at (suc n) zero {x} p h e a b = let z : x ≡ at = omega (arith, e) in (a ∙ ap (le 2 s) z, b ∙ ap (λ (y : ℕ). le 2 s (y + 2)) z)
param_at s at (suc n) (suc i) p h e a b = param_at s (at + 4) n i p (omega (arith, h)) (omega (arith, e)) a b

-- none of them is left, or the first and what is behind it
pub no_param : (s : List ℕ) (at n : ℕ) {r : Maybe ℕ} → r ≡ None → SomeIff r (1 ≤ n) (n - 1) → params_from s at n ≡ []
unfolding params_from
no_param s at n e h =
    let few : (1 ≤ n → ⊥) = subst (λ (o : Maybe ℕ). SomeIff o (1 ≤ n) (n - 1)) e h in
    let z : n ≡ 0 = by_test (eqb n 0) (λ q. eqb-true n 0 q) (λ q. absurd (few (omega (arith, eqb-false n 0 q)))) in
    rw z

pub one_less : (n : ℕ) {m : ℕ} {r : Maybe ℕ} → r ≡ Some m → SomeIff r (1 ≤ n) (n - 1) → n ≡ suc m
one_less n e h =
    let w = subst (λ (o : Maybe ℕ). SomeIff o (1 ≤ n) (n - 1)) e h in
    omega (arith, w.0, w.1)

pub first_param : (s : List ℕ) (at : ℕ) {n m : ℕ} (p : Param) → n ≡ suc m → (p.name.0 ≡ le 2 s at) × (p.ty.0 ≡ le 2 s (at + 2)) → params_from s at n ≡ record { name = p.name.0; ty = p.ty.0 } ∷ params_from s (at + 4) m
unfolding params_from
first_param s at p e is = rw (e, is.0, is.1)

-- or the last and what is before it
params_end : (s : List ℕ) (m at : ℕ) → params_from s at (suc m) ≡ params_from s at m ++ record { name = le 2 s (at + 4 * m); ty = le 2 s (at + 4 * m + 2) } ∷ []
unfolding params_from
params_end s zero at = let e : at + 4 * 0 ≡ at = omega arith in rw e
params_end s (suc m) at = let e : at + 4 * suc m ≡ at + 4 + 4 * m = omega arith in rw (e, params_end s m (at + 4))

pub last_param : (s : List ℕ) (at : ℕ) {n m : ℕ} (p : Param) → n ≡ suc m → (p.name.0 ≡ le 2 s (at + 4 * m)) × (p.ty.0 ≡ le 2 s (at + 4 * m + 2)) → params_from s at n ≡ params_from s at m ++ record { name = p.name.0; ty = p.ty.0 } ∷ []
last_param s at {n} {m} p e is = rw (e, is.0, is.1) (params_end s m at)

-- WHAT STANDS in a function and in a struct of a contract
abbrev pub FunctionHere : Function → Type 0
FunctionHere f = FunctionAt f.contract.sheet.now f.at top_depth

pub function_here : (f : Function) → FunctionHere f
function_here f = function_at_lem (ready {d = top_depth} f.ready)

pub struct_here : (x : Struct) → (n : ℕ) × StructAt x.contract.sheet.now x.at n
struct_here x = struct_at (ready {d = top_depth} x.ready)

-- how many parameters a function has
pub params_count : {s : List ℕ} {at d : ℕ} → FunctionAt s at d → length (function_at s at).params ≡ le 2 s (at + 12)
params_count {s} {at} F = ap length F.params ∙ params_length s (at + 14) (le 2 s (at + 12))

-- A FIELD of a struct literal: its name, and an expression
abbrev IsField : Class → ℕ → List Field → Pattern → Type 0
IsField c k fs p = k ≡ 6

field_rows : OfRows IsField Class.field_init rows
unfolding Given rows
field_rows = by_lines IsField Class.field_init rows refl

abbrev name_in : Tree → ℕ
name_in (node at k v ts) = num_at 0 v

pub record FieldAt (s : List ℕ) (at d : ℕ) : Type 0 where
  pub fits : at + 8 ≤ length s
  pub value : Ready Class.expression s (at + 8) (d - 1)
  pub name : num_at 0 (values_at s at) ≡ le 2 s (at + 6)
  pub is : expr_at s at ≡ expr_at s (at + 8)

pub field_at : {s : List ℕ} {at d : ℕ} → Ready Class.field_init s at d → FieldAt s at d
unfolding row_in rows expr_of
field_at {s} {at} {d} r =
    let e : record_kind s at ≡ 6 = by_row IsField field_rows r in
    let o = one_at expr_of r e refl in
    record { fits = o.fits; value = o.value; name = ap name_in (named 65534 (one Class.expression done) refl r e).tree; is = o.is }

abbrev read_fields : Trees → ast.FieldInits
read_fields ts = field_inits_of ts (exprs_of ts)

pub first_field : {s : List ℕ} {at end d : ℕ} → More Class.field_init s at end d
    → fields_from s at end ≡ ast.fcons at (le 2 s (at + 6)) (expr_at s (at + 8)) (fields_from s (stop_of s at) end)
unfolding expr_of
first_field {s} {at} {end} m =
    let f = field_at m.ready in
    ap read_fields m.is ∙ ap₂ (λ (n : ℕ) (e : ast.Expr). ast.fcons at n e (fields_from s (stop_of s at) end)) f.name f.is

pub no_field : {s : List ℕ} {at end : ℕ} → End s at end → fields_from s at end ≡ ast.fnil
unfolding expr_of
no_field e = ap read_fields e.is

-- A NAME that may be absent, from a number that may be
pub name_or_none : (o : Maybe ℕ) (r : Maybe Name) → MatchOption o (r ≡ None) (λ n. IsSomeAnd r (λ name. name.0 ≡ n)) → opt_name r ≡ option_of (λ n. n) o
name_or_none None r e = ap opt_name e
name_or_none (Some n) (Some name) e = ap some e
name_or_none (Some n) None e = absurd e

-- what is left behind the first of them, from an equal place
pub all_from : {c : Class} {s : List ℕ} {a at e d : ℕ} → a ≡ at → ReadyAll c s at e d → StandAll c s a e d
all_from {c} {s} {e = e} {d = d} w r = subst (λ (y : ℕ). StandAll c s y e d) (sym w) (stand_all r)

-- A STEP of a walk over records: one stands at `at`, and its n bytes are passed
pub record Stepped (c : Class) (s : List ℕ) (at end d n : ℕ) : Type 0 where
  pub first : More c s at end d
  pub rest : StandAll c s (at + n) end d
  pub next : at + n ≡ stop_of s at
  pub less : at < at + n
  pub within : at + n ≤ end

pub stepped : {c : Class} {s : List ℕ} {at end d n : ℕ} → StandAll c s at end d → at < end → n ≡ le 4 s at → Stepped c s at end d n
stepped {s = s} {at = at} {n = n} r l e =
    let m = more (ready_all r) l in
    let z : at + n ≡ stop_of s at = stop_is s at e in
    record { first = m; rest = all_from z m.rest; next = z; less = omega (arith, m.low, z); within = omega (arith, m.high, z) }

-- it takes from the number that bounds what is left
pub goes_on : {S A : Type 0} (left : S → ℕ) {old new : S} {x : A} → left new < left old → MakesProgress {A = A} (λ s. Unit {0}) (λ s. at_most (left s)) old (Some x) new
goes_on left h = record { on = λ f. (tt, tt, h); keeps = tt; rests = λ f. tt }

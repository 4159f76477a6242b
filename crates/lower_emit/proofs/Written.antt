-- The bytes that the log got are a record's, and what that says of the state: `Pushes`, `Appends`, `AppendsTerm`. Assumes nothing.
-- Each emitter has an answer that cites these: with a clause of `push_instr` over any instruction, tried in their place, each has one as well.
use mathlib.Core.Path.{◌≡◌, refl, ap, sym, ◌∙◌}
use mathlib.Core.Bool.{Bool, true, false}
use mathlib.Core.List.{List, [], ◌∷◌, ◌++◌, map}
use mathlib.Core.Option.{Option, none, some}
use Prim.Native.Nat.{ℕ, ◌+◌, ◌*◌, ◌/◌, ◌%◌, ◌<◌}
use native.Mathlib.Omega.{arith}
use lib.Dec.{leb}
use lib.ListN.{length}
use Rattle.definitions.specs.Fields.{bytes}
use Rattle.definitions.specs.Fine.{fields_start}
use Rattle.definitions.specs.Grammar.{origin_width}
use Rattle.definitions.specs.InstrTable.{binary_kind}
use Rattle.definitions.specs.Ir.{IrType, tag_of, unless_void, Instruction, Terminator, result_type}
use Rattle.definitions.specs.Lower.{result_id}
use Rattle.definitions.specs.Records.{small, opt, rest, write_tree, write_trees, write_record, write_values, write_value, write_item, write_items, write_type}
use Rattle.definitions.specs.ProgramSheet.{instr_tree, term_tree}
use Rattle.ir.specs.Types.{type_code}
use Rattle.ir.specs.declared.ValueId.{ValueId}
use Rattle.lower_walk.specs.Log.{Log, room, append, counted, next_value, log_instr, log_term}
use Rattle.lower_walk.specs.Stmts.{LogCtx, with_log, push_c, taken}
use Rattle.lower_state.specs.Bytes.{record_bytes, id_bytes, no_part, id_or}
use Rattle.lower_state.specs.State.{appended}
use Rattle.lower_emit.specs.Emitted.{Pushes}
use Rattle.lower_emit.proofs.Listed.{listed}

-- the record of an instruction, if v is the next value
abbrev pub instr_bytes : Instruction → ℕ → List ℕ
instr_bytes (Instruction.Const t n) v = record_bytes 60 v (4, type_code t) (8, n) no_part []
instr_bytes (Instruction.Binary op t l r) v = record_bytes (binary_kind op) v (4, type_code t) (2, l) (2, r) []
instr_bytes (Instruction.Load t b o) v = record_bytes 71 v (4, type_code t) (2, b) (8, o) []
instr_bytes (Instruction.Store b o w) v = record_bytes 72 65535 (2, b) (8, o) (2, w) []
instr_bytes (Instruction.StateRead t s) v = record_bytes 73 v (4, type_code t) (4, s) no_part []
instr_bytes (Instruction.StateWrite s w) v = record_bytes 74 65535 (4, s) (2, w) no_part []
instr_bytes (Instruction.ReadLocal l t) v = record_bytes 75 v (2, l) (4, type_code t) no_part []
instr_bytes (Instruction.WriteLocal l w) v = record_bytes 76 65535 (2, l) (2, w) no_part []
instr_bytes (Instruction.Call f l t) v = record_bytes 77 (id_or (result_id (unless_void t) v)) (2, f) (4, type_code t) no_part l
instr_bytes (Instruction.Assert c) v = record_bytes 78 65535 (2, c) no_part no_part []
instr_bytes (Instruction.Poseidon l r) v = record_bytes 79 v (2, l) (2, r) no_part []
instr_bytes (Instruction.Emit e l) v = record_bytes 80 65535 (2, e) no_part no_part l
instr_bytes (Instruction.ContextRead k) v = record_bytes 81 v (2, k) no_part no_part []

abbrev pub term_bytes : Terminator → List ℕ
term_bytes (Terminator.Jump b) = record_bytes 90 b no_part no_part no_part []
term_bytes (Terminator.Branch c a b) = record_bytes 91 c (2, a) (2, b) no_part []
term_bytes (Terminator.Return v) = record_bytes 92 (id_or v) no_part no_part no_part []
term_bytes Terminator.Unreachable = write_tree (term_tree Terminator.Unreachable)

type_bytes : (t : IrType) → bytes 4 (type_code t) ≡ write_type t
unfolding bytes write_type
type_bytes IrType.U64 = refl
type_bytes IrType.BoolT = refl
type_bytes IrType.FieldT = refl
type_bytes (IrType.Struct n) =
    let a : (3 + 65536 * n) % 256 ≡ 3 = omega arith in
    let b : (3 + 65536 * n) / 256 ≡ 256 * n = omega arith in
    let d : 256 * n % 256 ≡ 0 = omega arith in
    let e : 256 * n / 256 ≡ n = omega arith in
    rw (a, b, d, e)
type_bytes IrType.Void = refl

id_bytes_lem : (o : Option ℕ) → bytes 2 (id_or o) ≡ write_item (opt o)
unfolding write_item
id_bytes_lem none = refl
id_bytes_lem (some v) = refl

call_bytes_lem : (f : ℕ) (l : List ℕ) (t : IrType) (v : ℕ)
    → instr_bytes (Instruction.Call f l t) v ≡ write_tree (instr_tree (record { result = result_id (unless_void t) v; instr = Instruction.Call f l t }))
unfolding record_bytes bytes write_values write_value write_item write_type
call_bytes_lem f l t v =
    let n = fields_start + 8 + 2 * length l in
    let o = result_id (unless_void t) v in
    ap (λ z. bytes 4 n ++ bytes 2 77 ++ bytes origin_width 0 ++ bytes 2 (id_or o) ++ bytes 2 f ++ z ++ id_bytes l) (type_bytes t)
    ∙ listed 77 n _ (bytes origin_width 0 ++ bytes 2 (id_or o) ++ bytes 2 f ++ write_type t) l (omega arith)
    (ap (λ z. bytes origin_width 0 ++ z ++ (bytes 2 f ++ write_type t ++ write_values (rest (map small l) ∷ []))) (sym (id_bytes_lem o)))

event_bytes : (e : ℕ) (l : List ℕ) → instr_bytes (Instruction.Emit e l) 0 ≡ write_tree (instr_tree (record { result = none; instr = Instruction.Emit e l }))
unfolding record_bytes bytes write_values write_value write_item
event_bytes e l = listed 80 (fields_start + 4 + 2 * length l) _ (bytes origin_width 0 ++ bytes 2 65535 ++ bytes 2 e) l (omega arith) refl

instr_bytes_lem : (i : Instruction) (v : ℕ) → instr_bytes i v ≡ write_tree (instr_tree (record { result = result_id (result_type i) v; instr = i }))
unfolding record_bytes bytes write_tree write_trees write_record write_values write_value write_item write_items write_type
instr_bytes_lem (Instruction.Const t n) v = ap (λ z. bytes 4 (fields_start + 14) ++ bytes 2 60 ++ bytes origin_width 0 ++ bytes 2 v ++ z ++ bytes 8 n) (type_bytes t)
instr_bytes_lem (Instruction.Binary op t l r) v = ap (λ z. bytes 4 (fields_start + 10) ++ bytes 2 (binary_kind op) ++ bytes origin_width 0 ++ bytes 2 v ++ z ++ bytes 2 l ++ bytes 2 r) (type_bytes t)
instr_bytes_lem (Instruction.Load t b o) v = ap (λ z. bytes 4 (fields_start + 16) ++ bytes 2 71 ++ bytes origin_width 0 ++ bytes 2 v ++ z ++ bytes 2 b ++ bytes 8 o) (type_bytes t)
instr_bytes_lem (Instruction.Store b o w) v = refl
instr_bytes_lem (Instruction.StateRead t s) v = ap (λ z. bytes 4 (fields_start + 10) ++ bytes 2 73 ++ bytes origin_width 0 ++ bytes 2 v ++ z ++ bytes 4 s) (type_bytes t)
instr_bytes_lem (Instruction.StateWrite s w) v = refl
instr_bytes_lem (Instruction.ReadLocal l t) v = ap (λ z. bytes 4 (fields_start + 8) ++ bytes 2 75 ++ bytes origin_width 0 ++ bytes 2 v ++ bytes 2 l ++ z) (type_bytes t)
instr_bytes_lem (Instruction.WriteLocal l w) v = refl
instr_bytes_lem (Instruction.Call f l t) v = call_bytes_lem f l t v
instr_bytes_lem (Instruction.Assert c) v = refl
instr_bytes_lem (Instruction.Poseidon l r) v = refl
instr_bytes_lem (Instruction.Emit e l) v = event_bytes e l
instr_bytes_lem (Instruction.ContextRead k) v = refl

term_bytes_lem : (t : Terminator) → term_bytes t ≡ write_tree (term_tree t)
unfolding record_bytes bytes write_tree write_trees write_record write_values write_value write_item write_items
term_bytes_lem (Terminator.Jump b) = refl
term_bytes_lem (Terminator.Branch c a b) = refl
term_bytes_lem (Terminator.Return none) = refl
term_bytes_lem (Terminator.Return (some v)) = refl
term_bytes_lem Terminator.Unreachable = refl

-- the count of values plays no part in an append
pub counted_append : (v : ℕ) (x : List ℕ) (c : Log) → append x (counted v c) ≡ counted v (append x c)
unfolding append
counted_append v x c = go (leb (c.at + length x) room) refl
  where
    go : (t : Bool) → leb (c.at + length x) room ≡ t → append x (counted v c) ≡ counted v (append x c)
    go true q = rw q
    go false q = rw q

-- the next value and the bytes are what `log_instr` gives
logged : (i : Instruction) (c : Log) {o : Option IrType} → result_type i ≡ o → append (instr_bytes i c.value) (counted (next_value o c.value) c) ≡ log_instr i c
unfolding log_instr
logged i c e =
    let x = instr_bytes i c.value in
    let v = next_value (result_type i) c.value in
    ap (λ r. append x (counted (next_value r c.value) c)) (sym e) ∙ counted_append v x c ∙ ap (λ y. counted v (append y c)) (instr_bytes_lem i c.value)

-- the next value is taken, then the record is appended
pub pushes : (i : Instruction) {t : IrType} {before after : LogCtx} {v : ValueId} → result_type i ≡ some t
    → v.0 ≡ before.log.value → after ≡ appended (instr_bytes i v.0) (taken before) → Pushes i before after v
pushes i {before = b} e n a = record { is = (rw n at a) ∙ ap (λ l. with_log l b) (logged i b.log e); id = n }

-- the record is appended
pub appends : (i : Instruction) (c : LogCtx) → result_type i ≡ none → appended (instr_bytes i c.log.value) c ≡ push_c i c
appends i c e = ap (λ l. with_log l c) (logged i c.log e)

pub closes : (t : Terminator) (c : LogCtx) → appended (term_bytes t) c ≡ with_log (log_term t c.log) c
unfolding log_term
closes t c = ap (λ b. appended b c) (term_bytes_lem t)

-- a type of a call that gives a value
pub not_void : (t : IrType) → tag_of t < 4 → unless_void t ≡ some t
not_void IrType.U64 h = refl
not_void IrType.BoolT h = refl
not_void IrType.FieldT h = refl
not_void (IrType.Struct n) h = refl
not_void IrType.Void h = absurd (omega arith)

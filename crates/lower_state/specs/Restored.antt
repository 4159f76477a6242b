-- The state of the walk gives the code's state back, since what it does not show is blank. It stands in specs/, since the model of `FnCtx` cites it and code cites no proof. Assumes nothing.
use Rattle.std.specs.Prelude.{ℕ, ◌-◌, ◌≡◌, ◌≤◌, List, [], ◌∷◌, ◌++◌, map, length, take, replicate, leb, Option, None, Some, IfSome}
use Rattle.std.proofs.Common.{refl, ap, arith, rules, tests}
use Rattle.std.proofs.lemmas.List.{length-take, length-append, length-replicate, length-map}
use Rattle.definitions.specs.Ir as defs
use Rattle.definitions.specs.Records.{pick}
use Rattle.ir.specs.Types.{as_type}
use Rattle.ir.specs.declared.IrType as code
use Rattle.ir.specs.declared.IrType.TheVariants as ty
use Rattle.lower_walk.specs.Log.{capped, log_of}
use Rattle.lower_walk.specs.Stmts.{LogCtx}
use Rattle.lower_state.specs.Bytes.{log_end}
use Rattle.lower_state.specs.State.{ctx_in, starts_of, stops_of, Sound}
use Rattle.lower_state.specs.declared.ctx.Span.{Span}
use Rattle.lower_state.specs.declared.ctx.FnCtx.TheInside.{Inside}

-- a list with blanks behind it, as an array of n
abbrev pub filled : {A : Type 0} → (n : ℕ) → A → List A → List A
filled n blank l = l ++ replicate (n - length l) blank

-- zeros stand behind the log's records
abbrev pub ZerosBehind : List ℕ → (to : Option ℕ) → Type 0
ZerosBehind log to = filled 32768 0 (log_of log 0 (log_end to)).bytes ≡ log

pub record Restorable (c : Inside) : Type 0 where
  pub sound : Sound c
  pub log : ZerosBehind c.log c.to
  pub locals : filled 256 ty.U64 (take c.counters.local c.locals) ≡ c.locals

abbrev type_back : defs.IrType → code.IrType
type_back defs.IrType.U64 = ty.U64
type_back defs.IrType.BoolT = ty.Bool
type_back defs.IrType.FieldT = ty.Field
type_back (defs.IrType.Struct n) = ty.Struct (record { 0 = n })
type_back defs.IrType.Void = ty.Void

abbrev spans_back : (starts stops : List ℕ) → List Span
spans_back [] stops = []
spans_back (a ∷ starts) [] = []
spans_back (a ∷ starts) (z ∷ stops) = record { start = a; stop = z } ∷ spans_back starts stops

abbrev to_back : ℕ → Option ℕ
to_back at = pick (leb at 32768) (Some at) None

abbrev pub ctx_back : LogCtx → Inside
ctx_back c =
    record { function = record { 0 = c.fid }; counters = record { value = c.log.value; block = c.next_block; local = length c.locals }; current = record { 0 = c.current }; ended = c.ended; to = to_back c.log.at; log = filled 32768 0 c.log.bytes; locals = filled 256 ty.U64 (map type_back c.locals); spans = spans_back c.starts c.stops }

type_same : (t : code.IrType) → type_back (as_type t) ≡ t
type_same ty.U64 = refl
type_same ty.Bool = refl
type_same ty.Field = refl
type_same (ty.Struct n) = refl
type_same ty.Void = refl

types_same : (l : List code.IrType) → map type_back (map as_type l) ≡ l
types_same [] = refl
types_same (t ∷ ts) = rw (type_same t, types_same ts) refl

spans_same : (l : List Span) → spans_back (starts_of l) (stops_of l) ≡ l
spans_same [] = refl
spans_same (s ∷ ss) = ap (λ (r : List Span). s ∷ r) (spans_same ss)

to_same : (to : Option ℕ) → IfSome to (λ n. n ≤ 32768) → to_back (capped (log_end to)) ≡ to
to_same None h = refl
to_same (Some n) h = search (rules, tests)

-- what is filled up to n, of its first k
pub first_length : {A : Type 0} (n k : ℕ) (blank : A) (l : List A) → k ≤ n → filled n blank (take k l) ≡ l → length (take k l) ≡ k
first_length n k blank l h e =
    let p = take k l in
    omega (arith, ap length e, length-append p (replicate (n - length p) blank), length-replicate (n - length p) blank, length-take k l)

pub ctx_restored : (c : Inside) → Restorable c → ctx_back (ctx_in c) ≡ c
ctx_restored c r =
    let locals = take c.counters.local c.locals in
    rw (to_same c.to r.sound.to, r.log, types_same locals, r.locals, length-map locals as_type, first_length 256 c.counters.local ty.U64 c.locals r.sound.locals r.locals, spans_same c.spans) refl

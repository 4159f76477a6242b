-- A place that is stored as a block's start or stop: the other of the two stays. Assumes nothing.
use mathlib.Core.Path.{◌≡◌, refl}
use mathlib.Core.List.{List}
use Prim.Native.Nat.{ℕ}
use lib.ListN.{set, get_or}
use Rattle.std.proofs.lemmas.List.{map-set}
use Rattle.std.proofs.Math.Seq.{map-set_same}
use Rattle.lower_state.specs.State.{starts_of, stops_of}
use Rattle.lower_state.specs.declared.ctx.Span.{Span}

-- what the code reads where a list has no element k
abbrev nothing : Span
nothing = record { start = 0; stop = 0 }

abbrev started : List Span → (k v : ℕ) → List Span
started spans k v = set spans k (record { start = v; stop = (get_or spans k nothing).stop })

abbrev stopped : List Span → (k v : ℕ) → List Span
stopped spans k v = set spans k (record { start = (get_or spans k nothing).start; stop = v })

pub started_starts : (spans : List Span) (k v : ℕ) → starts_of (started spans k v) ≡ set (starts_of spans) k v
started_starts spans k v = map-set (λ (s : Span). s.start) spans k _

pub started_stops : (spans : List Span) (k v : ℕ) → stops_of (started spans k v) ≡ stops_of spans
started_stops spans k v = map-set_same (λ (s : Span). s.stop) spans k _ nothing refl

pub stopped_starts : (spans : List Span) (k v : ℕ) → starts_of (stopped spans k v) ≡ starts_of spans
stopped_starts spans k v = map-set_same (λ (s : Span). s.start) spans k _ nothing refl

pub stopped_stops : (spans : List Span) (k v : ℕ) → stops_of (stopped spans k v) ≡ set (stops_of spans) k v
stopped_stops spans k v = map-set (λ (s : Span). s.stop) spans k _

-- For the proofs of other crates: what a node keeps of a check, as an equation and as a proof tree, each of which gives the other; and a kind by its number.
-- Assumes nothing.
use mathlib.Core.Path.{◌≡◌, refl}
use mathlib.Core.List.{List}
use Prim.Native.Nat.{ℕ, zero, suc, ◌+◌, ◌-◌, ◌<◌, ◌≤◌}
use native.Mathlib.Nat.{not-suc-le-zero}
use native.Mathlib.Omega.{arith}
use borrow.Author.Tests.{eq-eqb, ne_eqb, le-leb}
use Rattle.std.specs.Prelude.{Result, Ok, Err, IsOk}
use Rattle.definitions.specs.Fields.{le}
use Rattle.definitions.specs.Grammar.{Class, Field, Pattern}
use Rattle.definitions.specs.Records.{Good, after, and_then, check_records, check_rest, left, records_from, start_at, start_if, start_row, starts}
use Rattle.definitions.specs.Fine.{Head, Fine, ends, goes}
use Rattle.definitions.proofs.Sheets.Passed.{fine}
use Rattle.format.specs.Kinds.{ReadsNumber}
use Rattle.format.specs.declared.kinds.UnknownKind.{UnknownKind}

started : {s : List ℕ} {at end b stop : ℕ} (q : Pattern) {r p : Pattern} {c : Class} {fs : List Field} → Head s at end c fs p b stop → after q c ≡ left r → start_at s at end q ≡ starts b stop p r
unfolding start_at start_row start_if
started {s} {at} {end} {b} {stop} q hd a =
    let l : at + 6 ≤ b = hd.low in
    let m : b ≤ stop = hd.mid in
    let h : stop ≤ end = hd.high in
    let e : stop ≡ at + le 4 s at = hd.stop_is in
    rw (le-leb 6 (end - at) (omega arith), le-leb 6 (le 4 s at) (omega arith), le-leb (le 4 s at) (end - at) (omega arith), hd.is, ← e, hd.valid, a)

good_from : {s : List ℕ} {at end : ℕ} {q : Pattern} → Fine s at end q → (n : ℕ) → end - at < n → records_from n s at end q ≡ Good
unfolding records_from check_rest and_then
good_from f zero h = absurd (not-suc-le-zero h)
good_from {at = at} {end = end} (ends z m) (suc n) h = rw (eq-eqb at end z, m)
good_from {at = at} {end = end} {q = q} (goes {b = b} {stop = stop} hd a kids rest) (suc n) h =
    let l : at + 6 ≤ b = hd.low in
    let m : b ≤ stop = hd.mid in
    let g : stop ≤ end = hd.high in
    rw (ne_eqb at end (λ e. omega arith), started q hd a, check_rest, good_from kids n (omega arith), and_then) (good_from rest n (omega arith))

pub good : {s : List ℕ} {at end : ℕ} {q : Pattern} → Fine s at end q → check_records s at end q ≡ Good
unfolding check_records
good {at = at} {end = end} f = good_from f (suc (end - at)) (omega arith)

pub kept : {s : List ℕ} {at end : ℕ} {q : Pattern} → check_records s at end q ≡ Good → Fine s at end q
unfolding check_records
kept {s} {at} {end} {q} e = fine _ s at end q e

-- A NUMBER that some kind has is read as that kind
pub kind_ok : {K : Type 0} (number : K → ℕ) {n : ℕ} (r : Result K UnknownKind) → ReadsNumber number n r → (k : K) × (number k ≡ n) → IsOk r
kind_ok number (Ok k) h w = refl
kind_ok number (Err x) h w = absurd (h w.0 w.1)

pub kind_is : {K : Type 0} (number : K → ℕ) {n : ℕ} {r : Result K UnknownKind} {k : K} → ReadsNumber number n r → r ≡ Ok k → number k ≡ n
kind_is number h e = rw e at h

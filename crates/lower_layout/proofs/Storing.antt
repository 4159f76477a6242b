-- Bytes written one after the other: pieces of which some are written, and records that may not fit.
-- Assumes nothing.
use mathlib.Core.Path.{◌≡◌, refl, ap, sym, ◌∙◌}
use mathlib.Core.List.{List, [], ◌++◌, append_assoc, append-nil}
use Prim.Native.Nat.{ℕ, zero, suc, ◌+◌, ◌≤◌, ◌<◌}
use native.Mathlib.Nat.{add-zero, zero-add}
use native.Mathlib.Numerals.{add-one}
use native.Mathlib.Omega.{arith}
use borrow.Author.Tests.{leb-true, leb-false}
use Rattle.std.specs.Prelude.{Option, None, Some}
use Rattle.std.proofs.lemmas.Option.{same_Some, none-some}
use lib.Dec.{leb}
use lib.ListN.{length, length-append}
use lib.Seq.{sets, length-sets}
use Rattle.definitions.specs.Fields.{bytes}
use Rattle.definitions.proofs.Fields.{length_bytes}
use Rattle.definitions.proofs.Results.{by_test}
use Rattle.writer.proofs.Stores.{sets_append}
use Rattle.lower_state.specs.Bytes.{Put}
use Rattle.lower_state.proofs.Appending.{◌then◌}
use Rattle.lower_layout.specs.Laid.{room_of, behind, Laid}

-- a number was written
pub wrote : {l m : List ℕ} {a b : ℕ} (n v : ℕ) → m ≡ sets l a (bytes n v) → b ≡ a + n → Put (bytes n v) l a m b
wrote n v e h = record { is = e; past = rw length_bytes h }

-- a record's head was written
pub wrote_head : {l m : List ℕ} {a b : ℕ} (size kind : ℕ) → m ≡ sets l a (bytes 4 size ++ bytes 2 kind) → b ≡ a + 6 → Put (bytes 4 size ++ bytes 2 kind) l a m b
wrote_head size kind e h = record { is = e; past = rw (length-append, length_bytes, length_bytes) h }

pub put_as : {x y l m : List ℕ} {a b : ℕ} → x ≡ y → Put x l a m b → Put y l a m b
put_as {x} {y} {l} {m} {a} {b} e p = rw (← e) p

pub put_length : {x l m : List ℕ} {a b : ℕ} → Put x l a m b → length m ≡ length l
put_length {x} {l} {m} {a} {b} p = ap length p.is ∙ length-sets l a x

-- PIECES f k, f (k + 1), .., n of them
unfoldable pub run : (ℕ → List ℕ) → (k n : ℕ) → List ℕ
run f k zero = []
run f k (suc n) = f k ++ run f (suc k) n

more_from : (f : ℕ → List ℕ) (k n : ℕ) → run f k (suc n) ≡ run f k n ++ f (k + n)
unfolding run
more_from f k zero = rw (add-zero k) (append-nil (f k))
more_from f k (suc n) =
    let e : suc k + n ≡ k + suc n = omega arith in
    rw (← e) (ap (λ (x : List ℕ). f k ++ x) (more_from f (suc k) n) ∙ sym (append_assoc (f k) (run f (suc k) n) (f (suc k + n))))

pub run_more : (f : ℕ → List ℕ) (n : ℕ) → run f 0 (suc n) ≡ run f 0 n ++ f n
run_more f n = more_from f 0 n ∙ rw zero-add

-- a piece lies in the whole
run_least : (f : ℕ → List ℕ) (k n : ℕ) → k < n → length (run f 0 k) + length (f k) ≤ length (run f 0 n)
run_least f k zero h = absurd (omega arith)
run_least f k (suc n) h =
    let e = ap length (run_more f n) ∙ length-append (run f 0 n) (f n) in
    by_test (leb n k) (λ q. let g : k ≡ n = omega (arith, leb-true n k q) in rw g (omega arith)) (λ q. omega (arith, e, run_least f k n (leb-false n k q)))

-- the first k are written
pub run_none : (f : ℕ → List ℕ) (l : List ℕ) (a : ℕ) → Put (run f 0 0) l a l a
unfolding run
run_none f l a = record { is = refl; past = omega arith }

pub run_next : {l m n : List ℕ} {a b c : ℕ} (f : ℕ → List ℕ) (k : ℕ) → Put (run f 0 k) l a m b → Put (f k) m b n c → Put (run f 0 (k + 1)) l a n c
run_next f k p q = put_as (sym (ap (run f 0) (add-one k) ∙ run_more f k)) (p then q)

pub run_room : {l m : List ℕ} {a b : ℕ} (f : ℕ → List ℕ) (k n : ℕ) → Put (run f 0 k) l a m b → k < n → a + length (run f 0 n) ≤ length l → b + length (f k) ≤ length m
run_room {l} {m} {a} {b} f k n p h g = omega (arith, p.past, put_length p, run_least f k n h)

-- THE ROOM
pub room_low : (n : ℕ) → (room_of n ≤ 32768) × (room_of n ≤ n)
room_low n = by_test (leb n 32768) (λ q. rw q (leb-true n 32768 q, omega arith)) (λ q. rw q (omega arith, omega (arith, leb-false n 32768 q)))

-- so many bytes may be written, or they are too many
pub behind_some : (n to size : ℕ) {end : ℕ} → Some end ≡ behind n to size → (to + size ≤ room_of n) × (end ≡ to + size)
behind_some n to size {end} e = by_test (leb (to + size) (room_of n)) (λ q. (leb-true _ _ q, same_Some _ _ (rw q at e))) (λ q. absurd (none-some end (sym (rw q at e))))

behind_none : (n to size : ℕ) → None ≡ behind n to size → room_of n < to + size
behind_none n to size e = by_test (leb (to + size) (room_of n)) (λ q. absurd (none-some (to + size) (rw q at e))) (λ q. leb-false _ _ q)

pub behind_in : (l : List ℕ) (a size : ℕ) {end : ℕ} → Some end ≡ behind (length l) a size → a + size ≤ length l
behind_in l a size e = omega (arith, (behind_some (length l) a size e).0, (room_low (length l)).1)

-- RECORDS that fit, or not
pub laid_none : {x l : List ℕ} {a size : ℕ} → length x ≡ size → None ≡ behind (length l) a size → Laid x l a l None
laid_none {x} {l} {a} {size} z e = let h = behind_none (length l) a size e in record { same_length = refl; fits = λ g. absurd (omega (arith, g, h, z)); over = λ g. refl }

pub laid_put : {x l m : List ℕ} {a b size end : ℕ} → length x ≡ size → Some end ≡ behind (length l) a size → Put x l a m b → Laid x l a m (Some end)
laid_put {x} {l} {m} {a} {b} {size} {end} z e p =
    let h = behind_some (length l) a size e in
    record { same_length = put_length p; fits = λ g. (p.is, ap (λ (r : ℕ). Some r) (omega (arith, h.1, z))); over = λ g. absurd (omega (arith, g, h.0, z)) }

-- nothing is laid down yet, if the place may be written
pub laid_start : {l : List ℕ} {a : ℕ} {r : Option ℕ} → r ≡ behind (length l) a 0 → Laid [] l a l r
laid_start {r = None} e = laid_none refl e
laid_start {r = Some end} e = laid_put refl e (record { is = refl; past = refl })

-- what was laid down fits
pub laid_some : {x l m : List ℕ} {a b : ℕ} → Laid x l a m (Some b) → Put x l a m b × (a + length x ≤ room_of (length l))
laid_some {x} {l} {m} {a} {b} p =
    by_test (leb (a + length x) (room_of (length l)))
    (λ q. let h = leb-true _ _ q in let f = p.fits h in (record { is = f.0; past = same_Some _ _ f.1 }, h))
    (λ q. absurd (none-some b (sym (p.over (leb-false _ _ q)))))

-- one record after the other, of which the first fits, and one that does not
pub laid_then : {x y l m n : List ℕ} {a b : ℕ} {c : Option ℕ} → Laid x l a m (Some b) → Laid y m b n c → Laid (x ++ y) l a n c
laid_then {x} {y} {l} {m} {n} {a} {b} {c} p q =
    let s = laid_some p in
    let e : length (x ++ y) ≡ length x + length y = length-append x y in
    let g : room_of (length m) ≡ room_of (length l) = ap room_of p.same_length in
    record {
      same_length = q.same_length ∙ p.same_length;
      fits = λ h.
          let k = q.fits (omega (arith, s.0.past, e, g, h)) in
          let r : a + length (x ++ y) ≡ b + length y = omega (arith, s.0.past, e) in
          (k.0 ∙ rw (s.0.past, s.0.is) (sym (sets_append x y l a)), k.1 ∙ ap (λ (i : ℕ). Some i) (sym r));
      over = λ h. q.over (omega (arith, s.0.past, e, g, h));
    }

pub laid_lost : {x l m : List ℕ} {a : ℕ} (y : List ℕ) → Laid x l a m None → Laid (x ++ y) l a m None
laid_lost {x} {l} {m} {a} y p =
    let e : length (x ++ y) ≡ length x + length y = length-append x y in
    record { same_length = p.same_length; fits = λ h. absurd (none-some _ (p.fits (omega (arith, e, h))).1); over = λ h. refl }

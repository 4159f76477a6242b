-- Parts laid down one behind the other, and the head in front of them. Assumes nothing.
use Rattle.std.specs.Prelude as code
use Rattle.std.specs.Prelude.{None, Some}
use Rattle.std.proofs.lemmas.Option.{none-some}
use mathlib.Core.Path.{◌≡◌, refl, sym, ap, ◌∙◌}
use mathlib.Core.Bool.{true, false, ◌&&◌}
use mathlib.Core.List.{List, ◌++◌, append_assoc}
use Prim.Native.Nat.{ℕ, ◌+◌, ◌≤◌, ◌<◌}
use native.Mathlib.Omega.{arith}
use borrow.Author.Tests.{leb-true, leb-false, le-leb}
use lib.Dec.{leb}
use lib.ListN.{length, take, drop, length-append}
use lib.Seq.{sets, sets-eq, length-sets, take_at, drop_at, length-take-le}
use Rattle.definitions.specs.Fields.{bytes}
use Rattle.definitions.specs.Result.{ok}
use Rattle.definitions.specs.Records.{write_record}
use Rattle.definitions.proofs.Results.{by_test}
use Rattle.lower_layout.specs.Laid.{room_of, Laid}
use Rattle.lower_layout.proofs.Storing.{room_low, laid_some, laid_then, laid_lost}
use Rattle.lower.specs.Whole.{program_head, LaidFrom, program_answer, AnsweredWith}
use Rattle.lower.specs.declared.refusal.Refusal as lowering
use Rattle.lower.specs.declared.refusal.Refusal.TheVariants as lower_refused

-- one number is at most another, or over it
pub either : {G : Type 0} (a b : ℕ) → (a ≤ b → G) → (b < a → G) → G
either a b y n = by_test (leb a b) (λ q. y (leb-true a b q)) (λ q. n (leb-false a b q))

-- THE ROOM
room_in : (n k : ℕ) → k ≤ 32768 → k ≤ n → k ≤ room_of n
room_in n k a b = by_test (leb n 32768) (λ q. rw q b) (λ q. rw q a)

-- ONE BEHIND THE OTHER: what is behind a part that did not fit
lost_then : {x before mid after : List ℕ} (y : List ℕ) → Laid x before 6 mid None → length after ≡ length mid → Laid (x ++ y) before 6 after None
lost_then y a same =
    let L = laid_lost y a in
    record { same_length = same ∙ L.same_length; fits = λ h. absurd (none-some _ (L.fits h).1); over = λ h. refl }

pub then_laid : {x before mid after : List ℕ} {to r : code.Option ℕ} (y : List ℕ) → Laid x before 6 mid to → LaidFrom y mid to after r → Laid (x ++ y) before 6 after r
then_laid {to = Some m} y a b = laid_then a b
then_laid {to = None} y a b = rw b.1 (lost_then y a b.0)

-- THE HEAD
at_start_lem : (h l : List ℕ) → length h ≡ 6 → 6 ≤ length l → sets l 0 h ≡ h ++ drop 6 l
at_start_lem h l six fit =
    let z : 0 + length h ≡ 6 = omega (arith, six) in
    sets-eq h l 0 (omega (arith, six, fit)) ∙ rw z refl

headed : (before body h : List ℕ) → length h ≡ 6 → 6 + length body ≤ length before → take (6 + length body) (sets (sets before 6 body) 0 h) ≡ h ++ body
headed before body h six fit =
    let inner : sets before 6 body ≡ take 6 before ++ body ++ drop (6 + length body) before = sets-eq body before 6 fit in
    let front : length (take 6 before) ≡ 6 = length-take-le 6 before (omega arith) in
    let long : length (sets before 6 body) ≡ length before = length-sets before 6 body in
    let outer : sets (sets before 6 body) 0 h ≡ h ++ drop 6 (sets before 6 body) = at_start_lem h (sets before 6 body) six (omega (arith, long, fit)) in
    let back : drop 6 (sets before 6 body) ≡ body ++ drop (6 + length body) before = ap (drop 6) (inner ∙ append_assoc (take 6 before) body _) ∙ drop_at (take 6 before) (body ++ drop (6 + length body) before) 6 front in
    ap (take (6 + length body)) (outer ∙ ap (λ (k : List ℕ). h ++ k) back ∙ sym (append_assoc h body _))
    ∙ take_at (h ++ body) (drop (6 + length body) before) (6 + length body) (length-append h body ∙ ap (λ (k : ℕ). k + length body) six)

-- THE ANSWER OF A PROGRAM whose functions and names are laid down
record_length : (body : List ℕ) → length (write_record 50 body) ≡ 6 + length body
unfolding write_record bytes
record_length body = omega arith

-- more than the room, and within it
over_room : (n k : ℕ) → room_of n < k → (leb k 32768 && leb k n) ≡ false
over_room n k h = by_test (leb k 32768) (λ p. by_test (leb k n) (λ q. absurd (omega (arith, room_in n k (leb-true k 32768 p) (leb-true k n q)))) (λ q. rw (p, q))) (λ p. rw p)

in_room : (n k : ℕ) → k ≤ room_of n → (leb k 32768 && leb k n) ≡ true
in_room n k h = let w = room_low n in rw (le-leb k 32768 (omega (arith, w.0)), le-leb k n (omega (arith, w.1)))

abbrev Done : (body before after : List ℕ) → code.Result ℕ lowering.Refusal → Type 0
Done body before after r = AnsweredWith (program_answer (write_record 50 body) (length before)) (length before) after r

pub refused_31 : {body before out : List ℕ} → Laid body before 6 out None → Done body before out (code.Err lower_refused.NoRoom)
refused_31 {body} {before} f =
    either (6 + length body) (room_of (length before))
    (λ l. absurd (none-some _ (f.fits l).1))
    (λ l. let o : (leb (length (write_record 50 body)) 32768 && leb (length (write_record 50 body)) (length before)) ≡ false = rw (record_length body) (over_room (length before) (6 + length body) l) in
    record { is = rw o refl; same_length = f.same_length; holds = rw o tt })

module _ {body before out : List ℕ} {to : ℕ} (f : Laid body before 6 out (Some to)) where
  inside : 6 + length body ≤ room_of (length before)
  inside = (laid_some f).1

  pub accepted : Done body before (sets out 0 (program_head to)) (code.Ok to)
  unfolding write_record bytes
  accepted =
      let e : to ≡ 6 + length body = (laid_some f).0.past in
      let o : out ≡ sets before 6 body = (laid_some f).0.is in
      let w : room_of (length before) ≤ length before = (room_low (length before)).1 in
      let i : (leb (length (write_record 50 body)) 32768 && leb (length (write_record 50 body)) (length before)) ≡ true = rw (record_length body) (in_room (length before) (6 + length body) inside) in
      let s : sets out 0 (program_head to) ≡ sets (sets before 6 body) 0 (program_head to) = ap (λ (l : List ℕ). sets l 0 (program_head to)) o in
      let n : length (sets out 0 (program_head to)) ≡ length before = length-sets out 0 (program_head to) ∙ f.same_length in
      let t : take (6 + length body) (sets out 0 (program_head to)) ≡ write_record 50 body = ap (take (6 + length body)) s ∙ headed before body (program_head to) refl (omega (arith, inside, w)) ∙ rw e refl in
      record { is = rw i (ap ok (e ∙ sym (record_length body))); same_length = n; holds = rw i (rw (n, record_length body) (omega (arith, inside, w)), rw (record_length body) t) }

-- What `specs/Demand3Rows.antt` says of the statement of demand 3 holds. Assumes nothing.
use Prim.Native.Nat.{ℕ, zero, suc, ◌<◌, ◌≤◌}
use mathlib.Core.Path.{◌≡◌, refl}
use mathlib.Core.Logic.{◌⊎◌, inl, inr}
use mathlib.Core.List.Memᴰ
use mathlib.Core.List.{List, [], ◌∷◌, Memᴰ}
use native.Mathlib.Omega.{arith}
use lib.ListN.{length, get_or}
use Rattle.definitions.specs.All.{All, acons}
use Rattle.definitions.specs.Result.{err}
use Rattle.definitions.specs.Fields.{Bytes}
use Rattle.definitions.specs.Ir.{IrFunction}
use Rattle.definitions.specs.Run.{Pick, State, at, ended, lacks, enter, follow, step_entry, step, steps, start, run}
use Rattle.definitions.specs.Answers.{Refusal}
use Rattle.definitions.specs.Demand3.{NeverLacks, AcceptedOr45to47}
use Rattle.definitions.specs.Demand3Rows.{Lacking, program_with, Refuted, lacking_programs, LackingRefuted, fine, reads_parameter, never_lacking, NeverLackingHold, taken_answers, TakenAnswers, GivesProgram, GivesRuns, GivesAnswer, OfLowerSheet, GivesSheet, GivesContractSheet, GivesProgramSheet, BytesSay}
use Rattle.definitions.proofs.All.{all_of}

lacking : (l : Lacking) → length l.words ≡ length l.function.params → run l.function l.words l.picks ≡ lacks → Refuted l
lacking l n e = record { fits = n; run_lacks = e; refuted = λ h. h l.function (Memᴰ.append_right l.before (Memᴰ.head refl)) l.words n l.picks e }

pub lacking_refuted : LackingRefuted
unfolding enter follow step_entry step steps start run
lacking_refuted =
    all_of Refuted lacking_programs
    (lacking _ refl refl)  -- the_only
    (lacking _ refl refl)  -- the_first
    (lacking _ refl refl)  -- the_second
    (lacking _ refl refl)  -- the_last
    (lacking _ refl refl)  -- with_parameters
    (lacking _ refl refl)  -- at_once
    (lacking _ refl refl)  -- on_then
    (lacking _ refl refl)  -- on_else
    (lacking _ refl refl)  -- on_then_and_else
    (lacking _ refl refl)  -- after_many

-- a run that does not lack
NotLacking : State → Type 0
NotLacking (at place) = Unit {0}
NotLacking ended = Unit {0}
NotLacking lacks = ⊥

not_lacks : (s : State) → NotLacking s → s ≡ lacks → ⊥
unfolding NotLacking
not_lacks s h e = rw e at h

stays_ended : (f : IrFunction) (words : List ℕ) (picks : List Pick) → NotLacking (steps f words picks ended)
unfolding NotLacking steps step
stays_ended f words [] = tt
stays_ended f words (p ∷ ps) = stays_ended f words ps

fine_runs : (words : List ℕ) (picks : List Pick) → NotLacking (run fine words picks)
unfolding NotLacking enter follow step_entry step steps start run
fine_runs words [] = tt
fine_runs words (p ∷ ps) = stays_ended fine words ps

parameter_runs : (words : List ℕ) → length words ≡ 1 → (picks : List Pick) → NotLacking (run reads_parameter words picks)
unfolding NotLacking enter follow step_entry step steps start run
parameter_runs [] n picks = absurd (omega (arith, n))
parameter_runs (w ∷ ws) n [] = tt
parameter_runs (w ∷ ws) n (p ∷ ps) = stays_ended reads_parameter (w ∷ ws) ps

only : (g : IrFunction) → ((words : List ℕ) → length words ≡ length g.params → (picks : List Pick) → run g words picks ≡ lacks → ⊥) → NeverLacks (program_with (g ∷ []))
only g h f m = of_case (Memᴰ.cases_cons m)
  where
    of_case : (f ≡ g) ⊎ Memᴰ f [] → (words : List ℕ) → length words ≡ length f.params → (picks : List Pick) → run f words picks ≡ lacks → ⊥
    of_case (inl e) = rw e h
    of_case (inr n) = absurd (Memᴰ.not-nil n)

pub never_lacking_hold : NeverLackingHold
never_lacking_hold =
    all_of NeverLacks never_lacking
    (λ f m. absurd (Memᴰ.not-nil m))  -- no_function
    (only fine (λ words n picks. not_lacks _ (fine_runs words picks)))  -- ends_at_once
    (only reads_parameter (λ words n picks. not_lacks _ (parameter_runs words n picks)))  -- reads_its_parameter

pub taken_answers_lem : TakenAnswers
taken_answers_lem =
    all_of AcceptedOr45to47 taken_answers
    tt  -- accepted
    tt  -- accepted_with_bytes
    (inl refl)  -- 45
    (inr (inl refl))  -- 46
    (inr (inr refl))  -- 47

within : (r : Refusal) → AcceptedOr45to47 (err r) → (45 ≤ r.number) × (r.number ≤ 47)
within r (inl e) = (omega (arith, e), omega (arith, e))
within r (inr (inl e)) = (omega (arith, e), omega (arith, e))
within r (inr (inr e)) = (omega (arith, e), omega (arith, e))

-- what demand 3 gives
each_byte : (s : List ℕ) → All (λ (x : ℕ). x < 256) s → (i : ℕ) → get_or s i 0 < 256
each_byte [] h i = omega arith
each_byte (x ∷ s) (acons p h) zero = p
each_byte (x ∷ s) (acons p h) (suc i) = each_byte s h i

bytes_of : (s : List ℕ) → All (λ (x : ℕ). x < 256) s → Bytes s
bytes_of s h = record { each = each_byte s h }

pub bytes_say : BytesSay
bytes_say = record { below = bytes_of; first = λ h. omega (arith, h.each 0); later = λ h. omega (arith, h.each 2) }

pub gives_program : GivesProgram
gives_program l d s h room b e = (d s (bytes_of s h) room b e).lowered

pub gives_runs : GivesRuns
gives_runs l d s h room b e = (d s (bytes_of s h) room b e).runs

pub gives_answer : GivesAnswer
gives_answer l d s h room b e r q = within r (rw q at (d s (bytes_of s h) room b e).verifies)

pub of_lower_sheet : OfLowerSheet
of_lower_sheet d = d

pub gives_sheet : GivesSheet
gives_sheet A check read write n s h g = n s (bytes_of s h) g

pub gives_contract_sheet : GivesContractSheet
gives_contract_sheet n s h g = n s (bytes_of s h) g

pub gives_program_sheet : GivesProgramSheet
gives_program_sheet n s h g = n s (bytes_of s h) g

-- The list that the code keeps as the names that are held: one more, some dropped, and the search from its end. Assumes nothing.
use mathlib.Core.Path.{◌≡◌, refl, ap, sym, ◌∙◌}
use mathlib.Core.Bool.{Bool}
use mathlib.Core.List.{List, [], ◌∷◌, ◌++◌, map, reverse}
use Rattle.std.proofs.Common.{Option, None, Some}
use Prim.Native.Nat.{ℕ, ◌-◌, ◌≤◌}
use lib.Dec.{eqb}
use lib.ListN.{length, take, drop}
use lib.Seq.{drop-append_seam}
use Rattle.std.proofs.lemmas.List.{reverse-append, length-drop, map-append, take-append-drop}
use Rattle.std.specs.List.{find}
use Rattle.std.specs.Option.{option_map}
use Rattle.definitions.specs.Ir.{IrType}
use Rattle.definitions.specs.Lower.{in_scope}
use Rattle.definitions.proofs.Results.{by_test}
use Rattle.ir.specs.Answers.{option_of}
use Rattle.ir.specs.Types.{as_type}
use Rattle.lower_walk.specs.Held.{Held, names}
use Rattle.lower_names.specs.Back.{held_length}
use Rattle.lower_names.specs.HeldNames.{HeldNames, with_name, outside}
use Rattle.lower_names.specs.Scopes.{held_of, held_in, local_of}
use Rattle.lower_names.specs.declared.held.HeldName.{HeldName}

one_more : (l : List HeldName) (e : HeldName) → held_in (l ++ (e ∷ [])) ≡ held_of e ∷ held_in l
one_more l e = rw reverse-append refl

held_drop : (l : List HeldName) (m : ℕ) → m ≤ length l → held_in (take m l) ≡ drop (length l - m) (held_in l)
held_drop l m h =
    let behind : Held = map held_of (reverse (drop m l)) in
    let all : behind ++ held_in (take m l) ≡ held_in l =
    sym (map-append held_of (reverse (drop m l)) (reverse (take m l))) ∙ ap (map held_of) (sym (reverse-append (take m l) (drop m l)) ∙ ap reverse (take-append-drop m l)) in
    let many : length l - m ≡ length behind = sym (length-drop m l) ∙ sym (held_length (drop m l)) in
    rw (many, ← all) (sym (drop-append_seam behind (held_in (take m l))))

-- WHAT A CONTRACT SEES
module _ (l : List HeldName) (scope : ℕ) {v : HeldNames} (view-is : record { held = held_in l; scope = scope } ≡ v) where
  pub count_is : length l ≡ length v.held
  count_is = sym (held_length l) ∙ ap (λ (w : HeldNames). length w.held) view-is

  pub more_is : (e : HeldName) {m : List HeldName} → m ≡ l ++ (e ∷ []) → e.scope ≡ scope → ◌≡◌ {A = HeldNames} (record { held = held_in m; scope = scope }) (with_name e.name.0 e.local.0 (as_type e.ty) v)
  more_is e h q = rw (← view-is, h, one_more l e, q)

  pub cut : (n : ℕ) {m : List HeldName} → m ≡ take n l → n ≤ length l → record { held = held_in m; scope = scope - 1 } ≡ outside n v
  cut n h q = rw (← view-is, h, held_length l) (ap (λ (es : Held). record { held = es; scope = scope - 1 }) (held_drop l n q))

-- THE SEARCH, newest first
abbrev stands_for : HeldName → ℕ × IrType
stands_for e = (e.local.0, as_type e.ty)

abbrev pub has : ℕ → HeldName → Bool
has name e = eqb e.name.0 name

newest : (name : ℕ) (l : List HeldName) → option_of stands_for (find (has name) l) ≡ in_scope name (names (map held_of l))
newest name [] = refl
newest name (e ∷ es) =
    by_test (has name e)
    (λ q. rw (q, in_scope))
    (λ q. rw (q, in_scope) (newest name es))

picked : {B : Type 0} (now : B → HeldName) (r : Option B) → option_of local_of (option_map (λ b. ((now b).local, (now b).ty)) r) ≡ option_of stands_for (option_map now r)
picked now None = refl
picked now (Some b) = refl

-- by what the search through references gave
module _ (l : List HeldName) (scope : ℕ) {v : HeldNames} (view-is : record { held = held_in l; scope = scope } ≡ v) where
  pub looked_up : {B : Type 0} (now : B → HeldName) (name : ℕ) (r : Option B) {m : List HeldName} → m ≡ l → option_map now r ≡ find (has name) (reverse m) → option_of local_of (option_map (λ b. ((now b).local, (now b).ty)) r) ≡ in_scope name (names v.held)
  looked_up now name r h found =
      let all = ap (λ (w : HeldNames). in_scope name (names w.held)) view-is in
      picked now r ∙ (ap (option_of stands_for) (found ∙ ap (λ (m : List HeldName). find (has name) (reverse m)) h) ∙ (newest name (reverse l) ∙ all))

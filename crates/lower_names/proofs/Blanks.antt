-- The array, blank behind the names that are held: one name more, and some dropped. Assumes nothing.
use Rattle.std.proofs.Common.{◌≡◌, ◌≤◌, ◌<◌, ◌+◌, ◌-◌, ℕ, List, [], ◌∷◌, ◌++◌, length, take, drop, slice_set, sym, ap, ◌∙◌, arith}
use Rattle.std.proofs.lemmas.List.{take_more_set, drop-set-lt, drop-drop, drop_at, drop-replicate, length-set, length-take-le, length-drop, length-replicate, replicate-append-replicate, take-take}
use Rattle.std.proofs.lemmas.Slice.{take-put_mid_below}
use borrow.Rule.Slice.PartMut.{put_mid, mid_of, same_len_mid}
use Rattle.lower_names.specs.Back.{taken_length}
use Rattle.lower_names.specs.HeldNames.{HeldNames}
use Rattle.lower_names.specs.Scopes.{held_names_in, NamesFit, blank_name, blank_names}
use Rattle.lower_names.specs.declared.held.HeldName.{HeldName}
use Rattle.lower_names.specs.declared.held.Scopes.TheInside.{Inside}
use Rattle.lower_names.proofs.HeldList.{count_is}

module _ (s : Inside) (fit : NamesFit s) where
  pub counted : {v : HeldNames} → held_names_in s ≡ v → s.count ≡ length v.held
  counted view-is = sym (taken_length s fit) ∙ count_is (take s.count s.names) s.scope view-is

  -- one name more
  module _ (e : HeldName) (h : s.count < 256) where
    pub more_taken : take (s.count + 1) (slice_set s.names s.count e) ≡ take s.count s.names ++ (e ∷ [])
    more_taken = take_more_set s.names s.count e (omega (arith, h, fit.room))

    more_behind : drop (s.count + 1) (slice_set s.names s.count e) ≡ blank_names (256 - (s.count + 1))
    more_behind =
        let less : 256 - s.count - 1 ≡ 256 - (s.count + 1) = omega arith in
        drop-set-lt (s.count + 1) s.names s.count e (omega arith)
        ∙ sym (drop-drop 1 s.count s.names)
        ∙ ap (drop 1) fit.behind
        ∙ drop-replicate 1 (256 - s.count) blank_name
        ∙ ap blank_names less

    pub more_fit : NamesFit (record { names = slice_set s.names s.count e; count = s.count + 1; scope = s.scope })
    more_fit = record { count = omega (arith, h); room = length-set s.names s.count e ∙ fit.room; behind = more_behind }

  -- some dropped, and blanks in their place
  module _ (mark : ℕ) (h : mark ≤ s.count) where
    abbrev in_place : List HeldName → List HeldName
    in_place part = put_mid mark (s.count - mark) s.names part

    part_long : length (mid_of mark (s.count - mark) s.names) ≡ s.count - mark
    part_long = length-take-le (s.count - mark) (drop mark s.names) (omega (arith, length-drop mark s.names, fit.count, fit.room))

    pub fewer_taken : (part : List HeldName) → take mark (in_place part) ≡ take mark (take s.count s.names)
    fewer_taken part =
        take-put_mid_below mark (s.count - mark) s.names part mark (omega arith) (omega (arith, h, fit.count, fit.room)) ∙ sym (take-take mark s.count s.names h)

    fewer_behind : drop mark (in_place (blank_names (s.count - mark))) ≡ blank_names (256 - mark)
    fewer_behind =
        let up : mark + (s.count - mark) ≡ s.count = omega (arith, h) in
        let all : s.count - mark + (256 - s.count) ≡ 256 - mark = omega (arith, h, fit.count) in
        drop_at _ _ mark (length-take-le mark s.names (omega (arith, h, fit.count, fit.room)))
        ∙ ap (λ (l : List HeldName). blank_names (s.count - mark) ++ l) (drop-drop (s.count - mark) mark s.names ∙ ap (λ (n : ℕ). drop n s.names) up ∙ fit.behind)
        ∙ replicate-append-replicate (s.count - mark) (256 - s.count) blank_name
        ∙ ap blank_names all

    pub fewer_fit : (part : List HeldName) → part ≡ blank_names (length (mid_of mark (s.count - mark) s.names)) → (scope : ℕ) → NamesFit (record { names = in_place part; count = mark; scope = scope })
    fewer_fit part q scope =
        let is : part ≡ blank_names (s.count - mark) = q ∙ ap blank_names part_long in
        record {
          count = omega (arith, h, fit.count);
          room = same_len_mid mark (s.count - mark) s.names part (ap length is ∙ length-replicate (s.count - mark) blank_name ∙ sym part_long) ∙ fit.room;
          behind = ap (λ (l : List HeldName). drop mark (in_place l)) is ∙ fewer_behind;
        }

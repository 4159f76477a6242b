-- A list's entries on a sheet, one behind the other. Assumes nothing.
use mathlib.Core.Path.{◌≡◌, refl}
use mathlib.Core.List.{List, [], ◌∷◌, ◌++◌, map, append_assoc, append-nil}
use Prim.Native.Nat.{ℕ, ◌+◌, ◌*◌, ◌<◌}
use native.Mathlib.Omega.{arith}
use lib.ListN.{length, take, get_or}
use Rattle.std.proofs.lemmas.List.{map-append, take_more}
use Rattle.definitions.specs.Fields.{bytes}
use Rattle.definitions.specs.Records.{Item, write_item, write_items}
use Rattle.lower_state.specs.Bytes.{id_bytes}

items_append : (is js : List Item) → write_items (is ++ js) ≡ write_items is ++ write_items js
unfolding write_items
items_append [] js = refl
items_append (i ∷ is) js = rw (items_append is js, append_assoc)

-- the first i entries and one more
pub one_more : {A B : Type 0} (f : B → Item) (g : A → B) (l : List A) (i : ℕ) (d : A) → i < length l → write_items (map f (map g (take i l))) ++ write_item (f (g (get_or l i d))) ≡ write_items (map f (map g (take (i + 1) l)))
unfolding write_items
one_more f g l i d h = rw (take_more l i d h, map-append, map-append, items_append, append-nil) refl

pub length_ids : (ids : List ℕ) → length (id_bytes ids) ≡ 2 * length ids
unfolding write_items write_item bytes
length_ids [] = refl
length_ids (i ∷ is) = omega (arith, length_ids is)

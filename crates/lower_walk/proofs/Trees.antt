-- Records written one behind the other. Assumes nothing.
use mathlib.Core.Path.{◌≡◌, refl}
use mathlib.Core.List.{List, [], ◌∷◌, ◌++◌, append_assoc, append-nil}
use Rattle.definitions.specs.Records.{Tree, Trees, tnil, tcons, trees_of, write_tree, write_trees}

module _ {A : Type 0} (f : A → Tree) where
  -- those of a list, in front of others, and of two lists
  pub trees_front : (xs : List A) (ts : Trees) → write_trees (trees_of f xs ts) ≡ write_trees (trees_of f xs tnil) ++ write_trees ts
  unfolding write_trees
  trees_front [] ts = refl
  trees_front (x ∷ xs) ts = rw (trees_front xs ts, append_assoc)

  pub trees_append : (xs ys : List A) → write_trees (trees_of f (xs ++ ys) tnil) ≡ write_trees (trees_of f xs tnil) ++ write_trees (trees_of f ys tnil)
  unfolding write_trees
  trees_append [] ys = refl
  trees_append (x ∷ xs) ys = rw (trees_append xs ys, append_assoc)

  -- one more
  pub trees_end : (xs : List A) (t : Tree) → write_trees (trees_of f xs (tcons t tnil)) ≡ write_trees (trees_of f xs tnil) ++ write_tree t
  unfolding write_trees
  trees_end xs t = rw (trees_front xs (tcons t tnil), append-nil)

  pub trees_more : (xs : List A) (x : A) → write_trees (trees_of f (xs ++ (x ∷ [])) tnil) ≡ write_trees (trees_of f xs tnil) ++ write_tree (f x)
  unfolding write_trees
  trees_more xs x = rw (trees_append xs (x ∷ []), append-nil)

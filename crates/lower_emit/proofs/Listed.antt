-- Records that end in a list of ids. Assumes nothing.
use mathlib.Core.Path.{◌≡◌}
use mathlib.Core.List.{List, [], ◌∷◌, ◌++◌, map, append-nil}
use Prim.Native.Nat.{ℕ, ◌+◌, ◌*◌}
use lib.ListN.{length, length-append}
use Rattle.definitions.specs.Fields.{bytes}
use Rattle.definitions.specs.Records.{small, FieldValue, rest, node, tnil, write_value, write_values, write_record, write_tree, write_trees}
use Rattle.lower_state.specs.Bytes.{id_bytes}
use Rattle.lower_state.proofs.Items.{length_ids}

-- the list is a record's last field
pub listed : (k n : ℕ) (vs : List FieldValue) (front l : List ℕ) → n ≡ 6 + (length front + 2 * length l) → write_values vs ≡ front ++ write_values (rest (map small l) ∷ [])
    → bytes 4 n ++ (bytes 2 k ++ (front ++ id_bytes l)) ≡ write_tree (node 0 k vs tnil)
unfolding write_tree write_trees write_record write_values write_value
listed k n vs front l e q = rw (e, q) (simp (append-nil, length-append, length_ids))

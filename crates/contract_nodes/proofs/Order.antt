-- The contract's children in their order: no record of a kind comes after one of a higher kind. Assumes nothing.
use mathlib.Core.Path.{◌≡◌, refl, ap, ◌∙◌}
use mathlib.Core.Bool.{Bool, true, false}
use mathlib.Core.List.{List, []}
use Prim.Native.Nat.{ℕ, zero, suc, ◌-◌, ◌<◌}
use native.Mathlib.Omega.{arith}
use lib.Dec.{leb}
use lib.ListN.{length}
use borrow.Author.Tests.{leb-true, leb-false}
use Rattle.definitions.specs.Records.{Tree, read_records, gather}
use Rattle.definitions.proofs.Contracts.Limits.{gather_past}
use Rattle.definitions.proofs.Sheets.Passed.{read_end}
use Rattle.definitions.proofs.Sheets.Steps.{low}
use Rattle.sheet.specs.Passed.{record_kind, stop_of}
use Rattle.contract_nodes.specs.Ready.{tree_at}
use Rattle.contract_nodes.proofs.Tops.{Over, Tops, Top, next_top}

module _ {A : Type 0} (s : List ℕ) (k : ℕ) (f : Tree → A) where
  abbrev None : ℕ → Type 0
  None at = gather k k f (read_records s at (length s)) ≡ []

  none_here : {at : ℕ} {T : Tops s at} → Top s at T → k < record_kind s at → None (stop_of s at) → None at
  none_here {at} P h e = ap (gather k k f) P.read ∙ (gather_past k f (tree_at s at) (read_records s (stop_of s at) (length s)) (λ q. omega arith) ∙ e)

  none_over : (n at : ℕ) (T : Tops s at) → Over k T.classes → length s - at < n → None at
  none_over zero at T o h = absurd (omega arith)
  none_over (suc n) at T o h = go (leb (length s) at) refl (λ P i. none_over n (stop_of s at) P.next (P.over_next k i) (omega (arith, P.long, P.inside)))
    where
      go : (x : Bool) → leb (length s) at ≡ x → ((P : Top s at T) → k < record_kind s at → None (stop_of s at)) → None at
      go true e more = let z : at ≡ length s = omega (arith, leb-true (length s) at e, low T.fine) in rw (z, read_end s (length s))
      go false e more = let P : Top s at T = next_top T (leb-false (length s) at e) in let i : k < record_kind s at = P.over_here k o in none_here P i (more P i)

  pub none_after : {at : ℕ} (T : Tops s at) → at < length s → k < record_kind s at → gather k k f (read_records s at (length s)) ≡ []
  none_after {at} T l h =
      let P : Top s at T = next_top T l in
      none_here P h (none_over (suc (length s)) (stop_of s at) P.next (P.over_next k h) (omega arith))

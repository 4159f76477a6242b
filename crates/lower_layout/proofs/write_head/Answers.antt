-- `lower_layout::write_head`: the length and the kind, one behind the other. Assumes nothing.
use mathlib.Core.Path.{sym, ap, ◌∙◌}
use mathlib.Core.List.{List}
use Prim.Native.Nat.{ℕ, ◌+◌}
use lib.Seq.{sets}
use Rattle.definitions.specs.Fields.{bytes}
use Rattle.format.specs.Kinds.{kind_number}
use Rattle.writer.proofs.Stores.{sets_append}
use Rattle.lower_layout.proofs.write_head.Goals as goal

pub returns : goal.returns
unfolding bytes
returns c =
    let k = bytes 2 (kind_number c.args.kind) in
    (rw c.from.ensures at c.write-2.ensures) ∙ (ap (λ (l : List ℕ). sets l (c.args.to + 4) k) c.write.ensures ∙ sym (sets_append (bytes 4 c.args.size) k c.args.out.now c.args.to))

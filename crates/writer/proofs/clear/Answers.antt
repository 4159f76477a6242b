-- `writer::clear`: the part from a place on is filled. Assumes nothing.
use mathlib.Core.Path.{refl}
use native.Mathlib.Omega.{arith}
use Rattle.writer.proofs.Writing.{part_zeroed}
use Rattle.writer.proofs.clear.Goals as goal

pub returns : goal.returns
returns c = part_zeroed c.args.from _ _ c.args.out.now _ c.requires (omega arith) refl (c.fill.ensures.after (λ y same. same))

-- `digits::put_digits`: what std prints of a number, or the end of it, stands in the part. Assumes nothing.
use mathlib.Core.Path.{◌∙◌}
use native.Mathlib.Omega.{arith}
use Rattle.digits.proofs.Putting.{digits_put}
use Rattle.digits.proofs.put_digits.Goals as goal

pub returns : goal.returns
returns c =
    let a = c.args in
    digits_put a.most a.v a.at a.out.now c.as_bytes-all.result.now c.copy_from_slice.new.self c.saturating_sub.result (omega arith) c.requires
    (c.as_bytes-all.ensures.value ∙ c.format.ensures.text) c.saturating_sub.ensures c.copy_from_slice.ensures.after

-- `lower_name_table::lay_name`: a record of ten bytes, if there is room. Assumes nothing.
use mathlib.Core.Path.{refl}
use Prim.Native.Nat.{◌+◌}
use native.Mathlib.Omega.{arith}
use Rattle.lower_state.proofs.Appending.{◌then◌}
use Rattle.lower_layout.proofs.Storing.{wrote, wrote_head, put_as, laid_none, laid_put}
use Rattle.lower_name_table.proofs.Names.{name_is, name_length}
use Rattle.lower_name_table.proofs.lay_name.Goals as goal

pub returns-in_err-end : goal.returns-in_err-end
returns-in_err-end c = rw c.from_residual.ensures (laid_none (name_length c.args.name.0 c.args.id.0) c.in_err-end.ensures)

pub returns : goal.returns
returns c =
    let a = c.args in
    laid_put {b = a.to + 10} (name_length a.name.0 a.id.0) c.in_ok-end.ensures
    (put_as (name_is a.name.0 a.id.0)
    (wrote_head 10 52 c.write_head.ensures refl
    then wrote 2 a.name.0 c.write.ensures (omega arith)
    then wrote 2 a.id.0 c.write-2.ensures (omega arith)))

-- `verify_refs::check_value`: the type that the search gives, or none. Assumes nothing.
use mathlib.Core.Path.{refl}
use Rattle.verify_refs.proofs.Values.{finds}
use Rattle.verify_refs.proofs.check_value.Goals as goal

pub returns : goal.returns
returns c = rw c.ok_or.ensures.value (finds c.args.f _ _ _ refl c.defined_type.ensures)

-- `records::put`: the bytes are written. Assumes nothing.
use mathlib.Core.Path.{refl}
use Rattle.definitions.proofs.Fields.{length_bytes}
use Rattle.lower_state.proofs.records.put.Goals as goal

pub returns-clause-put : goal.returns-clause-put
returns-clause-put c = record { is = c.write.ensures; past = rw length_bytes refl }

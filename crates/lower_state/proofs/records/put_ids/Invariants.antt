-- `records::put_ids`: the ids so far are stored. Assumes nothing.
use Rattle.std.proofs.Common.{◌≡◌, ◌+◌, ◌*◌, take}
use Rattle.lower_state.specs.Bytes.{id_bytes, ids_of, Put}
use Rattle.lower_state.proofs.records.put_ids.Given as goal

abbrev pub invariant-loop-id : goal.invariant-loop-id
invariant-loop-id l = Put (id_bytes (ids_of (take l.id-index l.ids))) l.initial.log l.at l.log l.to × (l.to ≡ l.at + 2 * l.id-index)

-- `records::put_record`: there is no room, and the log is cleared, or the parts are stored one after the other. Assumes nothing.
use mathlib.Core.Path.{◌≡◌}
use native.Mathlib.Omega.{arith}
use lib.ListN.{length, length-map}
use Rattle.std.proofs.Common.{rules}
use Rattle.lower_state.specs.Bytes.{part_in, record_bytes, ids_of}
use Rattle.lower_state.proofs.Appending.{put_lost, put_kept, ◌then◌, length_record}
use Rattle.lower_state.proofs.Blanks.{put_zeros, all_cleared}
use Rattle.lower_state.proofs.records.put_record.Goals as goal

pub returns-then-size-at : goal.returns-then-size-at
returns-then-size-at c =
    let a = c.args in
    let long : length a.log.now ≡ 32768 = search rules in
    record {
      added = put_lost a.log.now (record_bytes a.kind a.first (part_in a.a) (part_in a.b) (part_in a.c) (ids_of a.ids.now)) a.at (rw (length_record, length-map) (omega arith));
      zeros = λ z. all_cleared a.log.now long (c.fill.ensures.after (λ y same. same));
    }

pub returns : goal.returns
unfolding record_bytes
returns c =
    let a = c.args in
    let long = length_record a.kind a.first (part_in a.a) (part_in a.b) (part_in a.c) (ids_of a.ids.now) in
    let put = c.put-to.ensures.put then c.put-to-2.ensures.put then c.put-to-3.ensures.put then c.put-to-4.ensures.put then c.put-to-5.ensures.put then c.put-to-6.ensures.put then c.put-to-7.ensures.put then c.put_ids.ensures in
    record {
      added = put_kept long (omega arith) (rw length-map (omega arith)) (rw length-map put);
      zeros = put_zeros {at = a.at} {to = c.put_ids.result} long (rw length-map (omega arith)) (rw length-map put);
    }

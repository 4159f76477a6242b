-- What taking the next value, block or local does to the counters. Assumes nothing: these are definitions.
use Rattle.std.specs.Prelude.{suc, ◌+◌, ◌%◌}
use Rattle.lower_counters.specs.declared.Counters.{Counters}

-- values wrap; blocks and locals must not
abbrev pub value_taken : Counters → Counters
value_taken c = record { value = suc c.value % 65536; block = c.block; local = c.local }

abbrev pub block_taken : Counters → Counters
block_taken c = record { value = c.value; block = c.block + 1; local = c.local }

abbrev pub local_taken : Counters → Counters
local_taken c = record { value = c.value; block = c.block; local = c.local + 1 }

-- Where the fields of a program sheet's records stand, counted from a record's first byte: the numbers that crates/format has for the code.
-- Assumes nothing: these are definitions.
use Rattle.std.specs.Prelude.{ℕ, ◌+◌}
use Rattle.definitions.specs.Fine.{fields_start}

-- the head: the length, then the kind
abbrev pub head_width : ℕ
head_width = 6

-- a function: its id, name, return type and count of parameters, then the parameters
abbrev pub function_id_at : ℕ
function_id_at = head_width

abbrev pub function_name_at : ℕ
function_name_at = function_id_at + 2

abbrev pub return_type_at : ℕ
return_type_at = function_name_at + 2

abbrev pub param_count_at : ℕ
param_count_at = return_type_at + 4

abbrev pub first_param_at : ℕ
first_param_at = param_count_at + 2

-- a block: its id, then its records
abbrev pub block_id_at : ℕ
block_id_at = head_width

abbrev pub records_at : ℕ
records_at = block_id_at + 2

-- instructions and terminators: their fields, behind the head and the origin
abbrev pub fields_at : ℕ
fields_at = fields_start

-- an instruction: its result, then its own fields
abbrev pub own_at : ℕ
own_at = fields_at + 2

-- a binary instruction: its type, then its operands
abbrev pub left_at : ℕ
left_at = own_at + 4

abbrev pub right_at : ℕ
right_at = left_at + 2

-- the arguments of Call and Emit
abbrev pub call_args_at : ℕ
call_args_at = own_at + 6

abbrev pub event_args_at : ℕ
event_args_at = own_at + 2

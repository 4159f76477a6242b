-- `sheet::limits::too_wide`: an arm for each kind that has a width. Assumes nothing.
use Rattle.std.proofs.Common.{◌≡◌, arith, rules}
use Rattle.format.specs.Kinds.{kind_number}
use Rattle.sheet.proofs.Widths.{struct_starts, struct_wide, function_starts, function_wide}
use Rattle.sheet.proofs.limits.too_wide.Goals as goal

pub overflow_sub-result : goal.overflow_sub-result
overflow_sub-result c = let e : kind_number c.args.kind ≡ 3 = search rules in struct_starts c.requires e

pub read-requires : goal.read-requires
read-requires c = let e : kind_number c.args.kind ≡ 4 = search rules in (function_starts c.requires e, omega arith)

pub returns-in-Declaration-Struct : goal.returns-in-Declaration-Struct
returns-in-Declaration-Struct c = let e : kind_number c.args.kind ≡ 3 = search rules in struct_wide c.requires e

pub returns-in-Declaration-Function : goal.returns-in-Declaration-Function
returns-in-Declaration-Function c = let e : kind_number c.args.kind ≡ 4 = search rules in function_wide c.requires e c.read.ensures.0

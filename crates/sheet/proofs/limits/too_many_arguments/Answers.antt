-- `sheet::limits::too_many_arguments`: the arguments are the children. Assumes nothing.
use Rattle.sheet.proofs.Widths.{arguments_passed, arguments_wide}
use Rattle.sheet.proofs.limits.too_many_arguments.Goals as goal

pub count-requires : goal.count-requires
count-requires c = arguments_passed c.requires.0 c.requires.1

pub returns : goal.returns
returns c = arguments_wide c.requires.0 c.requires.1 c.count.ensures

-- `lower_name_table::lay_names`: the names of the functions before the next are laid down. Assumes nothing.
use Rattle.lower_name_table.proofs.Names.{Named}
use Rattle.lower_name_table.proofs.lay_names.Given as goal

abbrev pub invariant-loop-id : goal.invariant-loop-id
invariant-loop-id l = Named l.functions l.initial.out l.to l.id-iterator l.out l.at

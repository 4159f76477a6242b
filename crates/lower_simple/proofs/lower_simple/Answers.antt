-- `lower_simple::lower_simple`: a MappingWrite is refused. Assumes nothing.
use mathlib.Core.Path.{refl}
use Rattle.lower_walk.specs.Stmts.{walk_stmt}
use Rattle.lower_simple.proofs.lower_simple.Goals as goal

pub returns-in-MappingWrite-clause-is : goal.returns-in-MappingWrite-clause-is
unfolding walk_stmt
returns-in-MappingWrite-clause-is c = rw c.in-MappingWrite.is refl

-- `program_nodes::term::Term::kind`: the number is that of a kind. Assumes nothing.
use native.Mathlib.Omega.{arith}
use Rattle.format.specs.Kinds.{term_number}
use Rattle.sheet.proofs.Standing.{kept, kind_ok, kind_is}
use Rattle.program_nodes.proofs.Walk.{term_kind, kind_alone}
use Rattle.program_nodes.proofs.Facts.{term_fits}
use Rattle.program_nodes.proofs.term.Term.kind.Goals as goal

pub overflow_add-self : goal.overflow_add-self
overflow_add-self c = omega (arith, term_fits c.args.self, c.ranges.self)

pub read_u16-requires : goal.read_u16-requires
read_u16-requires c = omega (arith, term_fits c.args.self)

pub unwrap-requires : goal.unwrap-requires
unwrap-requires c = kind_ok term_number _ (rw c.read_u16.ensures at c.try_from.ensures) (kind_alone term_number term_kind (kept c.args.self.here.0))

pub returns-clause-fits : goal.returns-clause-fits
returns-clause-fits c = rw (kind_is term_number c.try_from.ensures c.unwrap.ensures, c.read_u16.ensures) (term_fits c.args.self)

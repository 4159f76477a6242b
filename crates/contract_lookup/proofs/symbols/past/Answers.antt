use mathlib.Core.Path.{sym, ◌∙◌}
use Rattle.contract_lookup.proofs.Storing.{field_stop}
use Rattle.contract_lookup.proofs.symbols.past.Goals as goal

pub returns-then-kind : goal.returns-then-kind
returns-then-kind c = let p = c.requires in field_stop p.1 (sym p.0 ∙ c.if-kind.true)

-- What a search for a definition gives. Helpers of contracts: no public promise cites them. Assumes nothing: these are definitions.
use Rattle.std.specs.Prelude.{ℕ}
use Rattle.program_nodes.specs.Definitions as defs
use Rattle.program_nodes.specs.Definitions.{instr_definition}
use Rattle.program_nodes.specs.Nodes.{instr_in, param_definition_in}
use Rattle.program_nodes.specs.declared.instr.Instr.{Instr}
use Rattle.program_lookup.specs.declared.Definition.{Definition}
use Rattle.program_lookup.specs.declared.Definition.TheVariants as definition

-- that of the value v by an instruction, by either
abbrev pub instr_definition_in : ℕ → Instr → defs.Definition
instr_definition_in v i = instr_definition i.at v (instr_in i)

abbrev pub definition_in : ℕ → Definition → defs.Definition
definition_in v (definition.Param p) = param_definition_in p
definition_in v (definition.Instr i) = instr_definition_in v i

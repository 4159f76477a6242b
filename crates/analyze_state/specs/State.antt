-- What the body check knows, in the words of the definitions, and what it says. Assumes nothing: these are definitions.
use Rattle.std.specs.Prelude.{ℕ, List, Result, ◌≡◌}
use Rattle.definitions.specs.Ast as ast
use Rattle.definitions.specs.Ir as defs
use Rattle.definitions.specs.Analyze.{Env}
use Rattle.ir.specs.Answers.{result_of}
use Rattle.ir.specs.Types.{as_type}
use Rattle.contract_nodes.specs.Nodes.{contract_in}
use Rattle.contract_nodes.specs.declared.contract.Contract.{Contract}
use Rattle.analyze_env.specs.Names.{Names}
use Rattle.analyze_walk.specs.Stops.{Checking}
use Rattle.analyze_state.specs.Errors.{error_of}
use Rattle.analyze_state.specs.declared.Analyzer.{Analyzer}
use Rattle.analyze_state.specs.declared.SemaError.{SemaError}

-- the contract, and the return type of the function under way
abbrev pub analyzed_contract : Analyzer → ast.Contract
analyzed_contract a = contract_in a.structs.now.contract

abbrev pub ret_of : Analyzer → defs.IrType
ret_of a = as_type a.ret

-- a node is of the contract's sheet
abbrev pub sheet_of : Analyzer → List ℕ
sheet_of a = a.structs.now.contract.sheet.now

abbrev pub OfSheet : Analyzer → Contract → Type 0
OfSheet a c = c.sheet.now ≡ sheet_of a

-- a statement, or statements: the names that are known afterwards, or an error
abbrev pub env_after : Names → Result (Unit {0}) SemaError → Checking Env
env_after env r = result_of error_of (λ x. env.names) r

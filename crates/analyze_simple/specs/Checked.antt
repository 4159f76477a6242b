-- What is in a statement besides statements, in the words of the walk. Assumes nothing: these are definitions.
use Rattle.definitions.specs.Result.{ok, ◌>>◌}
use Rattle.definitions.specs.Ast as ast
use Rattle.definitions.specs.Analyze.{Env}
use Rattle.analyze_walk.specs.Stops.{Checking, check_expr, check_arguments}

-- one expression, two of them, and a list of them: the names are as they were
abbrev pub value_checked : ast.Contract → Env → ast.Expr → Checking Env
value_checked K env e = check_expr K env e >> ok env

abbrev pub pair_checked : ast.Contract → Env → (first second : ast.Expr) → Checking Env
pair_checked K env first second = check_expr K env first >> check_expr K env second >> ok env

abbrev pub args_checked : ast.Contract → Env → ast.Exprs → Checking Env
args_checked K env es = check_arguments K env es >> ok env

-- The walk of a call. Assumes nothing: these are definitions.
use Rattle.std.specs.Prelude.{ℕ}
use Rattle.definitions.specs.Ast.{Exprs, Contract}
use Rattle.definitions.specs.Lower.{Lowering, count}
use Rattle.contract_nodes.specs.Nodes.{contract_in, exprs_in}
use Rattle.contract_nodes.specs.declared.expr.Exprs as nodes
use Rattle.lower_walk.specs.Log.{Log}
use Rattle.lower_walk.specs.Held.{Held}
use Rattle.lower_walk.specs.Exprs.{Walked, walk_call, walk_args}

-- a call of the name n with arguments, as `walk_expr` has it
abbrev pub call_of : Contract → Held → (n : ℕ) → Exprs → Log → Lowering Walked
call_of K es n args c = walk_call K n (count args) (λ d. walk_args K es args d) c

-- the same of arguments as nodes, in the contract that they are of
abbrev pub call_on : (args : nodes.Exprs) → Held → (n : ℕ) → Log → Lowering Walked
call_on args es n c = call_of (contract_in args.contract) es n (exprs_in args) c

-- The functions that a walk has before it, and what a step of it takes. Untrusted: helper definitions.
use Rattle.std.specs.Prelude.{suc, ◌<◌, ◌≡◌, List, [], ◌∷◌, drop, Option, None, Some}
use Rattle.definitions.specs.Ast as ast
use Rattle.ir.specs.declared.FunctionId.{FunctionId}
use Rattle.contract_nodes.specs.Nodes.{contract_in, function_in}
use Rattle.contract_nodes.specs.declared.contract.Function.{Function}
use Rattle.contract_lookup.specs.declared.declarations.FunctionIter.{FunctionIter}

-- the functions from the `next`-th on
abbrev pub left_in : FunctionIter → List ast.Function
left_in w = drop w.next (contract_in w.functions.now.contract).functions

-- the first of them is taken
pub record NextFunction (old new : FunctionIter) (i : FunctionId) (f : Function) : Type 0 where
  pub is : left_in old ≡ function_in f ∷ left_in new
  pub id : i.0 ≡ old.next
  pub next : new.next ≡ suc old.next
  pub few : old.next < 64
  pub sheet : f.contract.sheet.now ≡ old.functions.now.contract.sheet.now
  pub same : new.functions.now ≡ old.functions.now

abbrev pub TakesNext : FunctionIter → Option (FunctionId × Function) → FunctionIter → Type 0
TakesNext old None new = left_in old ≡ []
TakesNext old (Some p) new = NextFunction old new p.0 p.1

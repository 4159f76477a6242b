-- The functions of a contract one by one. Assumes nothing.
use mathlib.Core.Path.{◌≡◌, ap, sym, ◌∙◌}
use mathlib.Core.List.{List, []}
use Prim.Native.Nat.{ℕ}
use Rattle.definitions.specs.Result.{ok, ◌>>◌, Done}
use Rattle.definitions.specs.ContractSheet.{read_contract}
use Rattle.ir.specs.declared.FunctionId.{FunctionId}
use Rattle.contract_nodes.specs.Nodes.{function_in}
use Rattle.contract_nodes.specs.declared.contract.Function.{Function}
use Rattle.contract_lookup.specs.Walked.{left_in, NextFunction}
use Rattle.contract_lookup.specs.declared.declarations.FunctionIter.{FunctionIter}
use Rattle.contract_lookup.specs.declared.declarations.Functions.{Functions}
use Rattle.analyze_env.specs.Names.{Names}
use Rattle.analyze.specs.Whole.{Empty}
use Rattle.analyze_walk.specs.Stops.{Checking, check_function, check_functions}

-- THE LOOP: what is left of the functions of the sheet s gives what all of them give, R; no name is known
pub record Going (s : List ℕ) (R : Checking Done) (env : Names) (w : FunctionIter) : Type 0 where
  pub left : check_functions (read_contract s) (left_in w) ≡ R
  pub same : w.functions.now.contract.sheet.now ≡ s
  pub empty : Empty s env

module _ {s : List ℕ} {R : Checking Done} {env : Names} {w : FunctionIter} (g : Going s R env w) where
  pub ends : left_in w ≡ [] → ok tt ≡ R
  unfolding check_functions
  ends h = ap (check_functions (read_contract s)) (sym h) ∙ g.left

  module _ {rest : FunctionIter} {i : FunctionId} {f : Function} (first : NextFunction w rest i f) where
    pub walked : {r : Checking Done} → r ≡ check_function (read_contract s) (function_in f) → (r >> check_functions (read_contract s) (left_in rest)) ≡ R
    unfolding check_functions
    walked v = ap (λ (r : Checking Done). r >> check_functions (read_contract s) (left_in rest)) v ∙ (ap (check_functions (read_contract s)) (sym first.is) ∙ g.left)

    pub one_more : {later : Names} → ok tt ≡ check_function (read_contract s) (function_in f) → Empty s later → Going s R later rest
    one_more v e = record {
      left = walked v;
      same = ap (λ (fs : Functions). fs.contract.sheet.now) first.same ∙ g.same;
      empty = e;
    }

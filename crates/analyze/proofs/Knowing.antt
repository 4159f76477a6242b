-- The parameters of a function become known one by one. Assumes nothing.
use mathlib.Core.Path.{◌≡◌, ap, sym, ◌∙◌}
use mathlib.Core.List.{List, []}
use Prim.Native.Nat.{ℕ, ◌+◌, ◌≤◌}
use native.Mathlib.Omega.{arith}
use lib.ListN.{length}
use Rattle.definitions.specs.Ast.{Param}
use Rattle.definitions.specs.Sema.{from_str}
use Rattle.definitions.specs.Analyze.{Ty, known, param_env}
use Rattle.contract_nodes.specs.Nodes.{params_left, NextParam}
use Rattle.contract_nodes.specs.declared.contract.Param as code
use Rattle.contract_nodes.specs.declared.contract.ParamIter.{ParamIter}
use Rattle.analyze_env.specs.Names.{Names, named}

-- THE LOOP: what is left of the parameters gives what all of them give
pub record Knowing (ps : List Param) (room : ℕ) (env : Names) (w : ParamIter) : Type 0 where
  pub left : param_env (params_left w) env.names ≡ param_env ps []
  pub few : length env.names + w.left ≤ 16
  pub room_is : env.room ≡ room

pub one_more : {ps : List Param} {room : ℕ} {env new : Names} {w rest : ParamIter} {p : code.Param} {t : Ty}
    → Knowing ps room env w → NextParam w rest p → t ≡ known (from_str p.ty.0) → new ≡ named p.name.0 t env → Knowing ps room new rest
one_more {env = env} k first q e =
    rw (e, q)
    (record {
      left = ap (λ (qs : List Param). param_env qs env.names) (sym first.is) ∙ k.left;
      few = omega (arith, k.few, first.left);
      room_is = k.room_is;
    })

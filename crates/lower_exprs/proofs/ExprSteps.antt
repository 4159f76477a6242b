-- An expression of the same sheet. Assumes nothing.
use mathlib.Core.Path.{◌≡◌, ap, ◌∙◌}
use mathlib.Core.List.{List}
use Prim.Native.Nat.{ℕ}
use Rattle.definitions.specs.ContractSheet.{read_contract}
use Rattle.definitions.specs.Ast.{Expr}
use Rattle.definitions.specs.Lower.{Lowering, Value}
use Rattle.lower_walk.specs.Held.{Held}
use Rattle.lower_walk.specs.Log.{Log}
use Rattle.lower_walk.specs.Exprs.{walk_expr_value}

-- AN ARGUMENT is of the sheet of the call
pub value_on_sheet : {s t : List ℕ} (E : Held) (x : Expr) (c : Log) {X : Lowering (Log × Value)} → s ≡ t → X ≡ walk_expr_value (read_contract s) E x c → X ≡ walk_expr_value (read_contract t) E x c
value_on_sheet E x c h w = w ∙ ap (λ (s : List ℕ). walk_expr_value (read_contract s) E x c) h

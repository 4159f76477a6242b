use mathlib.Core.Path.{refl, sym, subst}
use mathlib.Core.List.{List}
use Prim.Native.Nat.{ℕ, ◌+◌, ◌*◌, ◌≤◌, ◌<◌}
use native.Mathlib.Omega.{arith}
use lib.ListN.{length}
use Rattle.definitions.specs.Ast.{Param}
use Rattle.definitions.specs.Fields.{le}
use Rattle.contract_nodes.specs.Nodes.{function_in, param_is}
use Rattle.contract_nodes.specs.declared.contract.Function.{Function}
use Rattle.contract_nodes.proofs.Steps.{param_at, params_count, function_here, FunctionHere}
use Rattle.contract_nodes.proofs.contract.Function.param.Goals as goal

-- where the i-th parameter stands
record Room (f : Function) (i : ℕ) : Type 0 where
  at : FunctionHere f
  below : i < le 2 f.contract.sheet.now (f.at + 12)
  few : i < 16
  room : f.at + 18 + 4 * i ≤ length f.contract.sheet.now
  short : length f.contract.sheet.now ≤ 32768

room_of : (f : Function) (i : ℕ) → i < length (function_in f).params → Room f i
room_of f i h =
    let a : FunctionHere f = function_here f in
    let b : i < le 2 f.contract.sheet.now (f.at + 12) = omega (arith, h, params_count a) in
    record { at = a; below = b; few = omega (arith, b, a.few); room = omega (arith, b, a.fits, a.inside); short = f.contract.passed.short }

pub overflow_mul-i : goal.overflow_mul-i
overflow_mul-i c = let r = room_of c.args.self c.args.i c.requires in record { fits = omega (arith, r.few) }

pub overflow_add-self-2 : goal.overflow_add-self-2
overflow_add-self-2 c = let r = room_of c.args.self c.args.i c.requires in record { fits = omega (arith, r.room, r.short) }

pub new-requires : goal.new-requires
new-requires c = let r = room_of c.args.self c.args.i c.requires in omega (arith, r.room)

pub returns : goal.returns
returns c =
    let r = room_of c.args.self c.args.i c.requires in
    subst (λ (ps : List Param). param_is c.new.result ps c.args.i) (sym r.at.params)
    (param_at c.args.self.contract.sheet.now (c.args.self.at + 14) _ c.args.i c.new.result r.below refl c.new.ensures.0 c.new.ensures.1)

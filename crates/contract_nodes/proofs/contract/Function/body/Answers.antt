use mathlib.Core.Path.{◌≡◌, ap₂, sym, ◌∙◌}
use Prim.Native.Nat.{ℕ, ◌+◌, ◌*◌}
use native.Mathlib.Omega.{arith}
use lib.ListN.{length}
use Rattle.contract_nodes.specs.Ready.{stmts_from, top_depth}
use Rattle.contract_nodes.specs.Nodes.{function_in}
use Rattle.contract_nodes.specs.declared.contract.Function.{Function}
use Rattle.contract_nodes.proofs.Standing.{ready}
use Rattle.contract_nodes.proofs.Children.{size_fits}
use Rattle.contract_nodes.proofs.Steps.{stop_is, all_at, params_count, function_here}
use Rattle.contract_nodes.proofs.Tops.{body_from}
use Rattle.contract_nodes.proofs.contract.Function.body.Goals as goal

from_is : (f : Function) {n : ℕ} → n ≡ length (function_in f).params → f.at + 14 + 4 * n ≡ body_from f.contract.sheet.now f.at
from_is f e = omega (arith, e, params_count (function_here f))

pub read-requires : goal.read-requires
read-requires c = size_fits (ready {d = top_depth} c.args.self.ready)

pub invariant_of-result : goal.invariant_of-result
invariant_of-result c =
    let f = c.args.self in
    record { ready = all_at (from_is f c.param_count.ensures.count) (stop_is f.contract.sheet.now f.at c.read.ensures.0) (function_here f).statements }

pub returns-clause-is : goal.returns-clause-is
returns-clause-is c =
    let f = c.args.self in
    ap₂ (stmts_from f.contract.sheet.now) (from_is f c.param_count.ensures.count) (stop_is f.contract.sheet.now f.at c.read.ensures.0) ∙ sym (function_here f).body

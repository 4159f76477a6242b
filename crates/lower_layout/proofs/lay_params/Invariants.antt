-- `lower_layout::lay_params`: the parameters before i are written. Assumes nothing.
use Rattle.std.proofs.Common.{◌≡◌, ◌+◌, length}
use Rattle.std.specs.Iterator.Adapters.{enumerate_source, enumerate_count}
use Rattle.contract_nodes.specs.Nodes.{function_in, params_left}
use Rattle.lower_layout.proofs.Records.{Begun}
use Rattle.lower_layout.proofs.lay_params.Given as goal

abbrev pub invariant-loop-i : goal.invariant-loop-i
invariant-loop-i l =
    let i = enumerate_count l.i-iterator in
    let left = params_left (enumerate_source l.i-iterator) in
    Begun (function_in l.f).params left l.initial.out l.first i l.out × (i + length left ≡ l.n)

-- What the code's arithmetic gives, as the bench has it. An untrusted helper of contracts: no public promise cites it. Assumes nothing: these are definitions.
use Rattle.std.specs.Prelude.{ℕ, Result}
use Rattle.definitions.specs.Result as defs
use Rattle.definitions.specs.Bench.{Stop, zero_divisor, outcome}
use Rattle.ir.specs.Answers.{result_of}
use Rattle.machine_arithmetic.specs.declared.ZeroDivisor.{ZeroDivisor}

abbrev pub word_or_stop : Result ℕ ZeroDivisor → defs.Result (Stop ℕ) ℕ
word_or_stop r = result_of (λ e. outcome zero_divisor) (λ w. w) r

-- A line at the start of a text with zeros behind it. Assumes nothing.
use Rattle.std.proofs.Common.{◌≡◌, ℕ, ◌-◌, ◌≤◌, List, length, take, sym, ap, ◌∙◌, arith, replicate}
use lib.Seq.{sets, length-take-le}
use Rattle.definitions.specs.Answers.{padded}
use Rattle.writer.proofs.Stores.{padded_length, then_zeros}
use Rattle.line_text.specs.Lined.{Lined}

-- m begins with the line, and zeros are stored behind it
pub filled : (line m out : List ℕ) (r n : ℕ) → take r m ≡ line → length m ≡ n → r ≤ n → out ≡ sets m r (replicate (length m - r) 0) → Lined n line out r
filled line m out r n front long h zeros =
    let size : length line ≡ r = sym (ap length front) ∙ length-take-le r m (omega arith) in
    let is : out ≡ padded n line = zeros ∙ rw (← long, ← size) (then_zeros line m (omega arith) (rw size front)) in
    let whole : length out ≡ n = ap length is ∙ padded_length n line in
    record { is = is; size = sym size; prefix = (omega arith, sym (length-take-le r out (omega arith))); same_length = whole }

-- `line_text::put_hex`: one more byte. Assumes nothing.
use Rattle.std.proofs.Common.{◌≡◌, ◌+◌, ◌-◌, ◌*◌, ◌≤◌, [], ◌∷◌, length, refl, sym, ap, ◌∙◌, arith}
use borrow.Rule.Slice.PartMut.{mid_of, mid_len, same_len_mid}
use lib.Seq.{take_all}
use Rattle.definitions.specs.Lines.{hexed}
use Rattle.line_text.proofs.Hexed.{hex_next}
use Rattle.line_text.proofs.put_hex.Goals as goal

pub loop-i-init : goal.loop-i-init
unfolding hexed
loop-i-init c = (c.requires, refl)

pub loop-i-preserved : goal.loop-i-preserved
loop-i-preserved c =
    let l = c.loop-i in
    let room : 3 * l.i + 3 ≤ length l.text = omega (arith, c.loop-i-test.true, l.invariant.0) in
    let three : 3 ≡ length (mid_of (3 * l.i) (3 * l.i + 3 - 3 * l.i) l.text) = omega (arith, mid_len (3 * l.i) (3 * l.i + 3) l.text room) in
    rw c.copy_from_slice.ensures.after (
      same_len_mid (3 * l.i) _ l.text (32 ∷ c.hex_digit.result ∷ c.hex_digit-in-loop-i.result ∷ []) three ∙ l.invariant.0,
      hex_next c.args.bytes.now l.text l.i _ _ _ c.loop-i-test.true (omega arith) c.hex_digit.ensures c.hex_digit-in-loop-i.ensures l.invariant.1,
    )

pub returns : goal.returns
returns c =
    let l = c.loop-i in
    sym (take_all (3 * l.i) l.text (omega (arith, c.loop-i-test.false, l.invariant.0))) ∙ l.invariant.1 ∙ ap hexed (take_all l.i c.args.bytes.now c.loop-i-test.false)

-- `reader::number`: the number's last bytes are summed up, its first are left. Assumes nothing.
use Rattle.std.proofs.Common.{arith}
use Rattle.reader.proofs.Reading.{unread, last, fits, read}
use Rattle.reader.proofs.number.Goals as goal

pub loop-byte-init : goal.loop-byte-init
loop-byte-init c = rw (c.into_iter-byte-iterator.ensures.into_iter_gives, c.rev-byte-items.ensures.source) (unread c.args.n c.args.s.now c.args.at _ c.requires.0 c.iter.ensures.rest)

pub loop-byte-preserved : goal.loop-byte-preserved
loop-byte-preserved c = last c.loop-byte.invariant _ c.in-Some.field-0.now c.in-Some.ensures.steps (λ i. (c.type_inv.s i).fits)

pub overflow_mul-sum : goal.overflow_mul-sum
overflow_mul-sum c = let room = fits c.loop-byte.invariant _ c.in-Some.field-0.now c.in-Some.ensures.steps (λ i. (c.type_inv.s i).fits) c.requires.1 in record { fits = omega (arith, room) }

pub overflow_add-sum : goal.overflow_add-sum
overflow_add-sum c = record { fits = fits c.loop-byte.invariant _ c.in-Some.field-0.now c.in-Some.ensures.steps (λ i. (c.type_inv.s i).fits) c.requires.1 }

pub returns : goal.returns
returns c = read c.loop-byte.invariant c.in-None.ensures.steps.0

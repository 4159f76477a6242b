-- `machine_outside::steps::step_context_read`: its result takes the word of its kind. Assumes nothing.
use mathlib.Core.Path.{◌≡◌, sym}
use borrow.Author.Rules.{rules}
use Rattle.definitions.specs.Bench.{Lent, context_word, step_instr}
use Rattle.format.specs.Contexts.{context_number}
use Rattle.format.specs.declared.program.ContextKind.{ContextKind}
use Rattle.format.specs.declared.program.ContextKind.TheVariants as kind
use Rattle.machine_state.proofs.Asking.{result}
use Rattle.machine_outside.specs.Outside.{context_of, LendsContext}
use Rattle.machine_outside.specs.declared.lent.Context.{Context}
use Rattle.machine_outside.proofs.steps.step_context_read.Goals as goal

context_is : (k : ContextKind) (c : Context) (lent : Lent) → LendsContext c lent → context_of k c ≡ context_word (context_number k) lent
context_is kind.MsgSender c lent L = sym L.sender_is
context_is kind.MsgNonce c lent L = sym L.nonce_is
context_is kind.BlockNumber c lent L = sym L.block_number_is

pub returns : goal.returns
unfolding step_instr
returns c = record {
  run = λ lent L frames state outside block depth m R.
      rw (← context_is c.args.kind c.args.context lent L, ← c.word-word.ensures) (result R c.requires (search rules) c.give.ensures);
}

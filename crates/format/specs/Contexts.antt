-- The numbers of what a ContextRead can read (document 01, "Program sheet"). Assumes nothing: these are definitions.
use Rattle.std.specs.Prelude.{ℕ, Result}
use Rattle.format.specs.Kinds.{ReadsNumber}
use Rattle.format.specs.declared.kinds.UnknownKind.{UnknownKind}
use Rattle.format.specs.declared.program.ContextKind.{ContextKind}
use Rattle.format.specs.declared.program.ContextKind.TheVariants.{MsgSender, MsgNonce, BlockNumber}

abbrev pub context_number : ContextKind → ℕ
context_number MsgSender = 0
context_number MsgNonce = 1
context_number BlockNumber = 2

abbrev pub IsContextKind : ℕ → Result ContextKind UnknownKind → Type 0
IsContextKind = ReadsNumber context_number

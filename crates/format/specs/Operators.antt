-- The numbers of the operators (document 01, "Contract sheet"). Assumes nothing: these are definitions.
use Rattle.std.specs.Prelude.{ℕ, Result}
use Rattle.format.specs.Kinds.{ReadsNumber}
use Rattle.format.specs.declared.kinds.UnknownKind.{UnknownKind}
use Rattle.format.specs.declared.operators.BinOp.{BinOp}
use Rattle.format.specs.declared.operators.BinOp.TheVariants.{Add, Sub, Mul, Div, Eq, Neq, Lt, Gt, Lte, Gte}

abbrev pub operator_number : BinOp → ℕ
operator_number Add = 0
operator_number Sub = 1
operator_number Mul = 2
operator_number Div = 3
operator_number Eq = 4
operator_number Neq = 5
operator_number Lt = 6
operator_number Gt = 7
operator_number Lte = 8
operator_number Gte = 9

abbrev pub IsBinOp : ℕ → Result BinOp UnknownKind → Type 0
IsBinOp = ReadsNumber operator_number

-- The numbers of the record kinds (document 01, "Contract sheet" and "Program sheet"). Assumes nothing: these are definitions.
use Rattle.std.specs.Prelude.{ℕ, ◌≡◌, Result}
use Rattle.std.specs.Result.{MatchResult}
use Rattle.format.specs.declared.kinds.UnknownKind.{UnknownKind}
use Rattle.format.specs.declared.kinds.Declaration.{Declaration}
use Rattle.format.specs.declared.kinds.Declaration.TheVariants as declaration
use Rattle.format.specs.declared.kinds.Stmt.{Stmt}
use Rattle.format.specs.declared.kinds.Stmt.TheVariants as stmt
use Rattle.format.specs.declared.kinds.Expr.{Expr}
use Rattle.format.specs.declared.kinds.Expr.TheVariants as expr
use Rattle.format.specs.declared.kinds.Instruction.{Instruction}
use Rattle.format.specs.declared.kinds.Instruction.TheVariants as instr
use Rattle.format.specs.declared.kinds.Terminator.{Terminator}
use Rattle.format.specs.declared.kinds.Terminator.TheVariants as term
use Rattle.format.specs.declared.kinds.InBlock.{InBlock}
use Rattle.format.specs.declared.kinds.InBlock.TheVariants as in_block
use Rattle.format.specs.declared.kinds.Kind.{Kind}
use Rattle.format.specs.declared.kinds.Kind.TheVariants as kind

abbrev pub declaration_number : Declaration → ℕ
declaration_number declaration.Storage = 2
declaration_number declaration.Struct = 3
declaration_number declaration.Function = 4

abbrev pub stmt_number : Stmt → ℕ
stmt_number stmt.Let = 10
stmt_number stmt.Constrain = 11
stmt_number stmt.Assign = 12
stmt_number stmt.StorageWrite = 13
stmt_number stmt.MappingWrite = 14
stmt_number stmt.If = 15
stmt_number stmt.While = 16
stmt_number stmt.For = 17
stmt_number stmt.Return = 18
stmt_number stmt.Emit = 19
stmt_number stmt.Expr = 20

abbrev pub expr_number : Expr → ℕ
expr_number expr.Int = 30
expr_number expr.Ident = 31
expr_number expr.StorageRead = 32
expr_number expr.MappingRead = 33
expr_number expr.FieldAccess = 34
expr_number expr.StructLiteral = 35
expr_number expr.Binary = 36
expr_number expr.Call = 37

abbrev pub instr_number : Instruction → ℕ
instr_number instr.Const = 60
instr_number instr.Add = 61
instr_number instr.Sub = 62
instr_number instr.Mul = 63
instr_number instr.Div = 64
instr_number instr.IrEq = 65
instr_number instr.IrNe = 66
instr_number instr.Lt = 67
instr_number instr.Le = 68
instr_number instr.Gt = 69
instr_number instr.Ge = 70
instr_number instr.Load = 71
instr_number instr.Store = 72
instr_number instr.StateRead = 73
instr_number instr.StateWrite = 74
instr_number instr.ReadLocal = 75
instr_number instr.WriteLocal = 76
instr_number instr.Call = 77
instr_number instr.Assert = 78
instr_number instr.Poseidon = 79
instr_number instr.Emit = 80
instr_number instr.ContextRead = 81

abbrev pub term_number : Terminator → ℕ
term_number term.Jump = 90
term_number term.Branch = 91
term_number term.Return = 92
term_number term.Unreachable = 93

abbrev pub in_block_number : InBlock → ℕ
in_block_number (in_block.Instruction i) = instr_number i
in_block_number (in_block.Terminator t) = term_number t

abbrev pub kind_number : Kind → ℕ
kind_number kind.Contract = 1
kind_number (kind.Declaration d) = declaration_number d
kind_number kind.Block = 5
kind_number kind.FieldInit = 6
kind_number (kind.Stmt s) = stmt_number s
kind_number (kind.Expr e) = expr_number e
kind_number kind.Program = 50
kind_number kind.IrFunction = 51
kind_number kind.FunctionName = 52
kind_number kind.BasicBlock = 53
kind_number (kind.InBlock b) = in_block_number b

-- what a number is read as: the kind whose number it is, or nothing if there is none
abbrev pub ReadsNumber : {K : Type 0} → (K → ℕ) → ℕ → Result K UnknownKind → Type 0
ReadsNumber {K = K} number n r = MatchResult r (λ k. number k ≡ n) (λ _. (k : K) → number k ≡ n → ⊥)

abbrev pub IsDeclaration : ℕ → Result Declaration UnknownKind → Type 0
IsDeclaration = ReadsNumber declaration_number

abbrev pub IsStmt : ℕ → Result Stmt UnknownKind → Type 0
IsStmt = ReadsNumber stmt_number

abbrev pub IsExpr : ℕ → Result Expr UnknownKind → Type 0
IsExpr = ReadsNumber expr_number

abbrev pub IsInstruction : ℕ → Result Instruction UnknownKind → Type 0
IsInstruction = ReadsNumber instr_number

abbrev pub IsTerminator : ℕ → Result Terminator UnknownKind → Type 0
IsTerminator = ReadsNumber term_number

abbrev pub IsInBlock : ℕ → Result InBlock UnknownKind → Type 0
IsInBlock = ReadsNumber in_block_number

abbrev pub IsKind : ℕ → Result Kind UnknownKind → Type 0
IsKind = ReadsNumber kind_number

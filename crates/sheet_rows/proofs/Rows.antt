-- Each row of the grammar is that of a kind: a number that is no kind has no row. Assumes nothing.
use Rattle.std.proofs.Common.{◌≡◌, ℕ, refl, sym, ◌∙◌, List, [], ◌∷◌, map}
use borrow.Author.Tests.{ne_eqb}
use Rattle.definitions.specs.Grammar.{Line, kind, rows}
use Rattle.definitions.specs.Records.{no_row, row_in}
use Rattle.format.specs.Kinds.{kind_number}
use Rattle.format.specs.declared.kinds.Declaration.TheVariants as declaration
use Rattle.format.specs.declared.kinds.Stmt.TheVariants as stmt
use Rattle.format.specs.declared.kinds.Expr.TheVariants as expr
use Rattle.format.specs.declared.kinds.Instruction.TheVariants as instr
use Rattle.format.specs.declared.kinds.Terminator.TheVariants as term
use Rattle.format.specs.declared.kinds.InBlock.TheVariants as in_block
use Rattle.format.specs.declared.kinds.Kind.{Kind}
use Rattle.format.specs.declared.kinds.Kind.TheVariants as kinds

-- the kinds in the order of the rows
all_kinds : List Kind
all_kinds =
    kinds.Contract ∷
    kinds.Declaration declaration.Storage ∷
    kinds.Declaration declaration.Struct ∷
    kinds.Declaration declaration.Function ∷
    kinds.Block ∷
    kinds.FieldInit ∷
    kinds.Stmt stmt.Let ∷
    kinds.Stmt stmt.Constrain ∷
    kinds.Stmt stmt.Assign ∷
    kinds.Stmt stmt.StorageWrite ∷
    kinds.Stmt stmt.MappingWrite ∷
    kinds.Stmt stmt.If ∷
    kinds.Stmt stmt.While ∷
    kinds.Stmt stmt.For ∷
    kinds.Stmt stmt.Return ∷
    kinds.Stmt stmt.Emit ∷
    kinds.Stmt stmt.Expr ∷
    kinds.Expr expr.Int ∷
    kinds.Expr expr.Ident ∷
    kinds.Expr expr.StorageRead ∷
    kinds.Expr expr.MappingRead ∷
    kinds.Expr expr.FieldAccess ∷
    kinds.Expr expr.StructLiteral ∷
    kinds.Expr expr.Binary ∷
    kinds.Expr expr.Call ∷
    kinds.Program ∷
    kinds.IrFunction ∷
    kinds.FunctionName ∷
    kinds.BasicBlock ∷
    kinds.InBlock (in_block.Instruction instr.Const) ∷
    kinds.InBlock (in_block.Instruction instr.Add) ∷
    kinds.InBlock (in_block.Instruction instr.Sub) ∷
    kinds.InBlock (in_block.Instruction instr.Mul) ∷
    kinds.InBlock (in_block.Instruction instr.Div) ∷
    kinds.InBlock (in_block.Instruction instr.IrEq) ∷
    kinds.InBlock (in_block.Instruction instr.IrNe) ∷
    kinds.InBlock (in_block.Instruction instr.Lt) ∷
    kinds.InBlock (in_block.Instruction instr.Le) ∷
    kinds.InBlock (in_block.Instruction instr.Gt) ∷
    kinds.InBlock (in_block.Instruction instr.Ge) ∷
    kinds.InBlock (in_block.Instruction instr.Load) ∷
    kinds.InBlock (in_block.Instruction instr.Store) ∷
    kinds.InBlock (in_block.Instruction instr.StateRead) ∷
    kinds.InBlock (in_block.Instruction instr.StateWrite) ∷
    kinds.InBlock (in_block.Instruction instr.ReadLocal) ∷
    kinds.InBlock (in_block.Instruction instr.WriteLocal) ∷
    kinds.InBlock (in_block.Instruction instr.Call) ∷
    kinds.InBlock (in_block.Instruction instr.Assert) ∷
    kinds.InBlock (in_block.Instruction instr.Poseidon) ∷
    kinds.InBlock (in_block.Instruction instr.Emit) ∷
    kinds.InBlock (in_block.Instruction instr.ContextRead) ∷
    kinds.InBlock (in_block.Terminator term.Jump) ∷
    kinds.InBlock (in_block.Terminator term.Branch) ∷
    kinds.InBlock (in_block.Terminator term.Return) ∷
    kinds.InBlock (in_block.Terminator term.Unreachable) ∷ []

abbrev line_kind : Line → ℕ
line_kind (kind j c fs p) = j

absent : (n : ℕ) (ls : List Line) (ks : List Kind) → map kind_number ks ≡ map line_kind ls → ((k : Kind) → kind_number k ≡ n → ⊥) → row_in n ls ≡ no_row
unfolding row_in
absent n [] ks e f = refl
absent n (l ∷ ls) [] e f = absurd cc
absent n (kind j c fs p ∷ ls) (k ∷ ks) e f =
    let here : kind_number k ≡ j = cc in
    let there : map kind_number ks ≡ map line_kind ls = cc in
    rw (ne_eqb n j (λ z. f k (here ∙ sym z))) (absent n ls ks there f)

-- `no kind has the number n` is what `Kind::try_from` says of an error
pub unknown : {n : ℕ} → ((k : Kind) → kind_number k ≡ n → ⊥) → row_in n rows ≡ no_row
unfolding all_kinds rows
unknown {n} f = absent n rows all_kinds refl f

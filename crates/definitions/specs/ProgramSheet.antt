-- Programs as sheets and back (document 01, "Program sheet"), and refusal 40. Assumes nothing: these are definitions.
use Rattle.std.specs.Prelude.{ℕ, List, [], ◌∷◌, map, leb, eqb, length}
use Rattle.std.proofs.Math.Option.{Option, none, some}
use Rattle.definitions.specs.Ast.{BinOp}
use Rattle.definitions.specs.Ir.{IrType, Instruction, Terminator, InstrNode, BasicBlock, IrFunction, IrProgram}
use Rattle.definitions.specs.InstrTable.{kind_of}
use Rattle.definitions.specs.Grammar.{Class, one, done, origin_width}
use Rattle.definitions.specs.Records.{pick, Item, small, opt, word, ty, param, FieldValue, item, group, rest, Tree, node, Trees, tnil, tcons, write_tree, read_records, Verdict, check_records, number_of, type_of, items_at, num_at, type_at, opt_at, gather, trees_of, ReadsAll, u16}

-- WRITING. A record that is written has no place yet: 0 stands for it.
abbrev unplaced : ℕ → List FieldValue → Trees → Tree
unplaced k vs ts = node 0 k vs ts

abbrev type : IrType → FieldValue
type t = item (ty t)

abbrev ids : List ℕ → FieldValue
ids a = rest (map small a)

-- a record of an instruction or terminator by its own fields: before them stands what `origin` of Grammar says
abbrev pub no_origin : FieldValue
no_origin = item (word origin_width 0)

abbrev owning : ℕ → List FieldValue → Tree
owning k own = unplaced k (no_origin ∷ own) tnil

-- an instruction's fields after its result, in the Rust's order, a list last
abbrev pub values_of : Instruction → List FieldValue
values_of (Instruction.Const t v) = type t ∷ item (word 8 v) ∷ []
values_of (Instruction.Binary op t l r) = type t ∷ u16 l ∷ u16 r ∷ []
values_of (Instruction.Load t b o) = type t ∷ u16 b ∷ item (word 8 o) ∷ []
values_of (Instruction.Store b o v) = u16 b ∷ item (word 8 o) ∷ u16 v ∷ []
values_of (Instruction.StateRead t s) = type t ∷ item (word 4 s) ∷ []
values_of (Instruction.StateWrite s v) = item (word 4 s) ∷ u16 v ∷ []
values_of (Instruction.ReadLocal l t) = u16 l ∷ type t ∷ []
values_of (Instruction.WriteLocal l v) = u16 l ∷ u16 v ∷ []
values_of (Instruction.Call f a t) = u16 f ∷ type t ∷ ids a ∷ []
values_of (Instruction.Assert c) = u16 c ∷ []
values_of (Instruction.Poseidon l r) = u16 l ∷ u16 r ∷ []
values_of (Instruction.Emit e a) = u16 e ∷ ids a ∷ []
values_of (Instruction.ContextRead k) = u16 k ∷ []

abbrev pub instr_tree : InstrNode → Tree
instr_tree n = owning (kind_of n.instr) (item (opt n.result) ∷ values_of n.instr)

abbrev pub term_tree : Terminator → Tree
term_tree (Terminator.Jump b) = owning 90 (u16 b ∷ [])
term_tree (Terminator.Branch c a b) = owning 91 (u16 c ∷ u16 a ∷ u16 b ∷ [])
term_tree (Terminator.Return v) = owning 92 (item (opt v) ∷ [])
term_tree Terminator.Unreachable = owning 93 []

abbrev pub opt_term_tree : Option Terminator → Trees
opt_term_tree none = tnil
opt_term_tree (some t) = tcons (term_tree t) tnil

abbrev pub block_tree : BasicBlock → Tree
block_tree b = unplaced 53 (u16 b.id ∷ []) (trees_of instr_tree b.instrs (opt_term_tree b.terminator))

abbrev pub param_item : ℕ × IrType → Item
param_item p = param p.0 p.1

abbrev pub ir_function_tree : IrFunction → Tree
ir_function_tree f =
    unplaced 51 (u16 f.id ∷ u16 f.name ∷ type f.ret_ty ∷ group (map param_item f.params) ∷ group (map ty f.locals) ∷ [])
    (trees_of block_tree f.blocks tnil)

abbrev pub function_name_tree : ℕ × ℕ → Tree
function_name_tree p = unplaced 52 (u16 p.0 ∷ u16 p.1 ∷ []) tnil

abbrev pub program_tree : IrProgram → Tree
program_tree p = unplaced 50 [] (trees_of ir_function_tree p.functions (trees_of function_name_tree p.function_names tnil))

unfoldable pub write_program : IrProgram → List ℕ
write_program p = write_tree (program_tree p)

-- READING, of a sheet that passed refusal 40. The last case of a chain of tests has none: a comment says for which kind it stands. No other kind is met
-- there: it would be written back as that kind, and `NothingOverlookedInPrograms` says that writing gives the very bytes that were read.

-- an operator by its instruction's kind; the last is 70, Gte (`NothingOverlookedInPrograms`)
abbrev pub binary_of : ℕ → BinOp
binary_of k =
    pick (eqb k 61) BinOp.Add (pick (eqb k 62) BinOp.Sub (pick (eqb k 63) BinOp.Mul (pick (eqb k 64) BinOp.Div (pick (eqb k 65) BinOp.Eq
    (pick (eqb k 66) BinOp.Neq (pick (eqb k 67) BinOp.Lt (pick (eqb k 68) BinOp.Lte (pick (eqb k 69) BinOp.Gt BinOp.Gte))))))))

abbrev nums_at : ℕ → List FieldValue → List ℕ
nums_at i vs = map number_of (items_at i vs)

-- the own fields of an instruction or terminator
abbrev pub own_of : List FieldValue → List FieldValue
own_of [] = []
own_of (first ∷ own) = own

-- an instruction by its kind and own fields, of which 0 is the result; 61 to 70 are the operators; the last is 81, ContextRead (`NothingOverlookedInPrograms`)
abbrev pub instr_of : ℕ → List FieldValue → Instruction
instr_of k v =
    pick (eqb k 60) (Instruction.Const (type_at 1 v) (num_at 2 v))
    (pick (leb k 70) (Instruction.Binary (binary_of k) (type_at 1 v) (num_at 2 v) (num_at 3 v))
    (pick (eqb k 71) (Instruction.Load (type_at 1 v) (num_at 2 v) (num_at 3 v))
    (pick (eqb k 72) (Instruction.Store (num_at 1 v) (num_at 2 v) (num_at 3 v))
    (pick (eqb k 73) (Instruction.StateRead (type_at 1 v) (num_at 2 v))
    (pick (eqb k 74) (Instruction.StateWrite (num_at 1 v) (num_at 2 v))
    (pick (eqb k 75) (Instruction.ReadLocal (num_at 1 v) (type_at 2 v))
    (pick (eqb k 76) (Instruction.WriteLocal (num_at 1 v) (num_at 2 v))
    (pick (eqb k 77) (Instruction.Call (num_at 1 v) (nums_at 3 v) (type_at 2 v))
    (pick (eqb k 78) (Instruction.Assert (num_at 1 v))
    (pick (eqb k 79) (Instruction.Poseidon (num_at 1 v) (num_at 2 v))
    (pick (eqb k 80) (Instruction.Emit (num_at 1 v) (nums_at 2 v))
    (Instruction.ContextRead (num_at 1 v)))))))))))))

abbrev pub instr_node_of : Tree → InstrNode
instr_node_of (node at k v ts) = record { result = opt_at 0 (own_of v); instr = instr_of k (own_of v) }

-- a terminator by its kind and own fields; the last is 93, Unreachable (`NothingOverlookedInPrograms`)
abbrev pub terminator_of : ℕ → List FieldValue → Terminator
terminator_of k v =
    pick (eqb k 90) (Terminator.Jump (num_at 0 v))
    (pick (eqb k 91) (Terminator.Branch (num_at 0 v) (num_at 1 v) (num_at 2 v))
    (pick (eqb k 92) (Terminator.Return (opt_at 0 v))
    Terminator.Unreachable))

abbrev pub term_of : Tree → Terminator
term_of (node at k v ts) = terminator_of k (own_of v)

abbrev pub first_of : {A : Type 0} → List A → Option A
first_of [] = none
first_of (a ∷ more) = some a

abbrev pub block_of : Tree → BasicBlock
block_of (node at k v ts) = record { id = num_at 0 v; instrs = gather 60 81 instr_node_of ts; terminator = first_of (gather 90 93 term_of ts) }

abbrev pub ir_params_at : ℕ → List FieldValue → List (ℕ × IrType)
ir_params_at i vs = map (λ (x : Item). (number_of x, type_of x)) (items_at i vs)

abbrev pub types_at : ℕ → List FieldValue → List IrType
types_at i vs = map type_of (items_at i vs)

abbrev pub ir_function_of : Tree → IrFunction
ir_function_of (node at k v ts) = record { id = num_at 0 v; name = num_at 1 v; params = ir_params_at 3 v; ret_ty = type_at 2 v; blocks = gather 53 53 block_of ts; locals = types_at 4 v }

abbrev pub function_name_of : Tree → ℕ × ℕ
function_name_of (node at k v ts) = (num_at 0 v, num_at 1 v)

-- no record at all does not pass refusal 40: what is written has 6 bytes or more (`NothingOverlookedInPrograms`)
abbrev pub program_of : Trees → IrProgram
program_of tnil = record { functions = []; function_names = [] }
program_of (tcons (node at k v ts) more) = record { functions = gather 51 51 ir_function_of ts; function_names = gather 52 52 function_name_of ts }

unfoldable pub read_program : List ℕ → IrProgram
read_program s = program_of (read_records s 0 (length s))

-- REFUSAL 40: one program and nothing after it
unfoldable pub refusal40 : List ℕ → Verdict
refusal40 s = check_records s 0 (length s) (one Class.program done)

-- NOTHING IS OVERLOOKED: a sheet that passes refusal 40 is, byte for byte, the writing of the program that is read from it
abbrev pub NothingOverlookedInPrograms : Type 0
NothingOverlookedInPrograms = ReadsAll refusal40 read_program write_program

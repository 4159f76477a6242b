-- What the nodes stand for: the program of the definitions. Assumes nothing: these are definitions.
use Rattle.std.specs.Prelude.{ℕ, suc, ◌+◌, ◌≤◌, ◌<◌, ◌≡◌, Bool, true, false, List, [], ◌∷◌, ◌++◌, map, eqb, length, Option, None, Some}
use Rattle.std.proofs.Math.Option as maths
use Rattle.definitions.specs.ContractSheet.{op_of}
use Rattle.definitions.specs.Fields.{le}
use Rattle.definitions.specs.Ir as ir
use Rattle.definitions.specs.Grammar.{value_and_type}
use Rattle.definitions.specs.Records.{Item, opt_from, number_of, type_of, read_items, read_records}
use Rattle.definitions.specs.Verify.{function_ids}
use Rattle.format.specs.declared.kinds.Instruction as kinds
use Rattle.format.specs.declared.kinds.Instruction.TheVariants as kind
use Rattle.format.specs.Contexts.{context_number}
use Rattle.format.specs.Operators.{operator_number}
use Rattle.ir.specs.Types.{as_type}
use Rattle.ir.specs.Answers.{option_of}
use Rattle.ir.specs.declared.ValueId.{ValueId}
use Rattle.program_nodes.specs.Offsets.{head_width, first_param_at, records_at, fields_at}
use Rattle.sheet.specs.Passed.{record_kind}
use Rattle.program_nodes.specs.Positions.{type_here, type_offset, ids_here, instr_here, term_here, instrs_here, terminator_here, block_here, blocks_here, functions_here, function_here}
use Rattle.program_nodes.specs.Definitions.{Definition, param_definition, param_definitions, result_definition, block_definitions, blocks_definitions}
use Rattle.program_nodes.specs.declared.program.Program.{Program}
use Rattle.program_nodes.specs.declared.program.Functions.{Functions}
use Rattle.program_nodes.specs.declared.program.Function.{Function}
use Rattle.program_nodes.specs.declared.program.Params.{Params}
use Rattle.program_nodes.specs.declared.program.Param.{Param}
use Rattle.program_nodes.specs.declared.block.Blocks.{Blocks}
use Rattle.program_nodes.specs.declared.block.Block.{Block}
use Rattle.program_nodes.specs.declared.block.Records.{Records}
use Rattle.program_nodes.specs.declared.block.Record.{Record}
use Rattle.program_nodes.specs.declared.block.Record.TheVariants as record'
use Rattle.program_nodes.specs.declared.instr.Instr.{Instr}
use Rattle.program_nodes.specs.declared.instr.Ids.{Ids}
use Rattle.program_nodes.specs.declared.instr.Instruction.{Instruction}
use Rattle.program_nodes.specs.declared.instr.Instruction.TheVariants as instr
use Rattle.program_nodes.specs.declared.term.Term.{Term}
use Rattle.program_nodes.specs.declared.term.Terminator.{Terminator}
use Rattle.program_nodes.specs.declared.term.Terminator.TheVariants as term

abbrev pub value_of : ValueId → ℕ
value_of v = v.0

-- THE READINGS: functions
abbrev pub functions_of : Program → List ir.IrFunction
functions_of p = functions_here p.sheet.now head_width (length p.sheet.now)

abbrev pub ids_of_all : Program → List ℕ
ids_of_all p = function_ids (functions_of p)

abbrev pub functions_in : Functions → List ir.IrFunction
functions_in w = functions_here w.program.sheet.now w.at (length w.program.sheet.now)

abbrev pub ir_of : Function → ir.IrFunction
ir_of f = function_here f.program.sheet.now f.at f.first f.stop

-- parameters
abbrev pub params_in : Params → List (ℕ × ir.IrType)
params_in w = map (λ (x : Item). (number_of x, type_of x)) (read_items value_and_type w.left w.sheet.now w.at)

abbrev pub param_in : Param → ℕ × ir.IrType
param_in p = (le 2 p.sheet.now p.at, type_here p.sheet.now (p.at + 2))

-- blocks, and the records of one
abbrev pub blocks_in : Blocks → List ir.BasicBlock
blocks_in w = blocks_here w.sheet.now w.at w.end

abbrev pub block_in : Block → ir.BasicBlock
block_in b = block_here b.sheet.now b.at b.stop

abbrev pub instrs_in : Records → List ir.InstrNode
instrs_in w = instrs_here w.sheet.now w.at w.end

abbrev pub terminator_in : Records → maths.Option ir.Terminator
terminator_in w = terminator_here w.sheet.now w.at w.end

-- an instruction, the type among its own fields where its kind is k, its result, and a terminator
abbrev pub instr_in : Instr → ir.Instruction
instr_in i = instr_here (record_kind i.sheet.now i.at) i.sheet.now i.at i.stop

abbrev pub own_type_in : Instr → ℕ → ir.IrType
own_type_in i k = type_here i.sheet.now (i.at + type_offset k)

abbrev pub result_in : Instr → maths.Option ℕ
result_in i = opt_from (le 2 i.sheet.now (i.at + fields_at))

-- whether a result is the value v
abbrev pub result_is : ℕ → maths.Option ℕ → Bool
result_is v maths.none = false
result_is v (maths.some x) = eqb x v

abbrev pub node_in : Instr → ir.InstrNode
node_in i = record { result = result_in i; instr = instr_in i }

abbrev pub term_in : Term → ir.Terminator
term_in t = term_here (record_kind t.sheet.now t.at) t.sheet.now t.at

abbrev pub ids_in : Ids → List ℕ
ids_in w = ids_here w.left w.sheet.now w.at

-- the kinds of instructions that reach beyond values
abbrev pub is_access : kinds.Instruction → Bool
is_access kind.Load = true
is_access kind.Store = true
is_access kind.StateRead = true
is_access kind.StateWrite = true
is_access kind.ReadLocal = true
is_access kind.WriteLocal = true
is_access kind.Call = true
is_access kind.ContextRead = true
is_access kind.Const = false
is_access kind.Add = false
is_access kind.Sub = false
is_access kind.Mul = false
is_access kind.Div = false
is_access kind.IrEq = false
is_access kind.IrNe = false
is_access kind.Lt = false
is_access kind.Le = false
is_access kind.Gt = false
is_access kind.Ge = false
is_access kind.Assert = false
is_access kind.Poseidon = false
is_access kind.Emit = false

-- WHAT THEY ARE
abbrev pub instr_is : Instruction → ir.Instruction
instr_is (instr.Const t n) = ir.Instruction.Const (as_type t) n
instr_is (instr.Binary op t l r) = ir.Instruction.Binary (op_of (operator_number op)) (as_type t) l.0 r.0
instr_is (instr.Load t b o) = ir.Instruction.Load (as_type t) b.0 o
instr_is (instr.Store b o v) = ir.Instruction.Store b.0 o v.0
instr_is (instr.StateRead t n) = ir.Instruction.StateRead (as_type t) n
instr_is (instr.StateWrite n v) = ir.Instruction.StateWrite n v.0
instr_is (instr.ReadLocal l t) = ir.Instruction.ReadLocal l.0 (as_type t)
instr_is (instr.WriteLocal l v) = ir.Instruction.WriteLocal l.0 v.0
instr_is (instr.Call f vs t) = ir.Instruction.Call f.0 (ids_in vs) (as_type t)
instr_is (instr.Assert v) = ir.Instruction.Assert v.0
instr_is (instr.Poseidon l r) = ir.Instruction.Poseidon l.0 r.0
instr_is (instr.Emit e vs) = ir.Instruction.Emit e.0 (ids_in vs)
instr_is (instr.ContextRead k) = ir.Instruction.ContextRead (context_number k)

abbrev pub term_is : Terminator → ir.Terminator
term_is (term.Jump b) = ir.Terminator.Jump b.0
term_is (term.Branch v b e) = ir.Terminator.Branch v.0 b.0 e.0
term_is (term.Return v) = ir.Terminator.Return (option_of value_of v)
term_is term.Unreachable = ir.Terminator.Unreachable

-- DEFINITIONS: those of a parameter, of parameters, of records of a block, of a block, of blocks; and of a function, its parameters' first
abbrev pub param_definition_in : Param → Definition
param_definition_in p = param_definition p.at (param_in p)

abbrev pub param_definitions_in : Params → List Definition
param_definitions_in w = param_definitions w.at (params_in w)

abbrev pub result_definition_in : Instr → List Definition
result_definition_in i = result_definition i.at (result_in i) (instr_in i)

abbrev pub block_definitions_in : Records → List Definition
block_definitions_in w = block_definitions (read_records w.sheet.now w.at w.end)

abbrev pub block_definitions_of : Block → List Definition
block_definitions_of b = block_definitions (read_records b.sheet.now (b.at + records_at) b.stop)

abbrev pub blocks_definitions_in : Blocks → List Definition
blocks_definitions_in w = blocks_definitions (read_records w.sheet.now w.at w.end)

abbrev pub params_of : Function → List Definition
params_of f = param_definitions (f.at + first_param_at) (ir_of f).params

unfoldable pub definitions_of : Function → List Definition
definitions_of f = params_of f ++ blocks_definitions (read_records f.program.sheet.now f.first f.stop)

-- THE PARTS of a function and of a block
pub record ParamsOf (f : Function) (w : Params) : Type 0 where
  pub is : params_in w ≡ (ir_of f).params
  pub definitions : param_definitions_in w ≡ params_of f
  pub sheet : w.sheet.now ≡ f.program.sheet.now

pub record BlocksOf (f : Function) (w : Blocks) : Type 0 where
  pub is : blocks_in w ≡ (ir_of f).blocks
  pub definitions : definitions_of f ≡ params_of f ++ blocks_definitions_in w
  pub same_definitions : blocks_definitions_in w ≡ blocks_definitions (read_records f.program.sheet.now f.first f.stop)
  pub sheet : w.sheet.now ≡ f.program.sheet.now

pub record RecordsOf (b : Block) (w : Records) : Type 0 where
  pub instrs : instrs_in w ≡ (block_in b).instrs
  pub terminator : terminator_in w ≡ (block_in b).terminator
  pub definitions : block_definitions_in w ≡ block_definitions_of b
  pub sheet : w.sheet.now ≡ b.sheet.now

-- THE FIRST OF A LIST is taken, or there is none and the list stays: a function
pub record FirstFunction (old new : Functions) (f : Function) : Type 0 where
  pub is : functions_in old ≡ ir_of f ∷ functions_in new
  pub at : f.at ≡ old.at
  pub sheet : f.program.sheet.now ≡ old.program.sheet.now
  pub rest_sheet : new.program.sheet.now ≡ old.program.sheet.now
  pub less : old.at < new.at
  pub within : new.at ≤ length new.program.sheet.now

abbrev pub TakesFunction : (old new : Functions) → Option Function → Type 0
TakesFunction old new None = (functions_in old ≡ []) × (new ≡ old)
TakesFunction old new (Some f) = FirstFunction old new f

-- a parameter
pub record FirstParam (old new : Params) (p : Param) : Type 0 where
  pub is : params_in old ≡ param_in p ∷ params_in new
  pub definitions : param_definitions_in old ≡ param_definition_in p ∷ param_definitions_in new
  pub sheet : p.sheet.now ≡ old.sheet.now
  pub rest_sheet : new.sheet.now ≡ old.sheet.now
  pub less : suc new.left ≡ old.left

abbrev pub TakesParam : (old new : Params) → Option Param → Type 0
TakesParam old new None = (params_in old ≡ []) × (new ≡ old)
TakesParam old new (Some p) = FirstParam old new p

-- a block
pub record FirstBlock (old new : Blocks) (b : Block) : Type 0 where
  pub is : blocks_in old ≡ block_in b ∷ blocks_in new
  pub definitions : blocks_definitions_in old ≡ block_definitions_of b ++ blocks_definitions_in new
  pub at : b.at ≡ old.at
  pub next : new.at ≡ b.stop
  pub sheet : b.sheet.now ≡ old.sheet.now
  pub rest_sheet : new.sheet.now ≡ old.sheet.now
  pub end : new.end ≡ old.end
  pub less : old.at < new.at
  pub within : new.at ≤ new.end

abbrev pub TakesBlock : (old new : Blocks) → Option Block → Type 0
TakesBlock old new None = (blocks_in old ≡ []) × (blocks_definitions_in old ≡ []) × (new ≡ old)
TakesBlock old new (Some b) = FirstBlock old new b

-- a record: an instruction, or the terminator, after which nothing is left
pub record FirstInstr (old new : Records) (i : Instr) : Type 0 where
  pub instrs : instrs_in old ≡ node_in i ∷ instrs_in new
  pub terminator : terminator_in old ≡ terminator_in new
  pub definitions : block_definitions_in old ≡ result_definition_in i ++ block_definitions_in new
  pub sheet : i.sheet.now ≡ old.sheet.now
  pub rest_sheet : new.sheet.now ≡ old.sheet.now
  pub end : new.end ≡ old.end
  pub less : old.at < new.at
  pub within : new.at ≤ new.end

pub record FirstTerm (old : Records) (t : Term) : Type 0 where
  pub instrs : instrs_in old ≡ []
  pub terminator : terminator_in old ≡ maths.some (term_in t)
  pub definitions : block_definitions_in old ≡ []
  pub sheet : t.sheet.now ≡ old.sheet.now

pub record NoRecord (old : Records) : Type 0 where
  pub instrs : instrs_in old ≡ []
  pub terminator : terminator_in old ≡ maths.none
  pub definitions : block_definitions_in old ≡ []

abbrev pub TakesRecord : (old new : Records) → Option Record → Type 0
TakesRecord old new None = NoRecord old × (new ≡ old)
TakesRecord old new (Some (record'.Instr i)) = FirstInstr old new i
TakesRecord old new (Some (record'.Term t)) = FirstTerm old t

-- a value
pub record FirstId (old new : Ids) (v : ValueId) : Type 0 where
  pub is : ids_in old ≡ v.0 ∷ ids_in new
  pub less : suc new.left ≡ old.left

abbrev pub TakesId : (old new : Ids) → Option ValueId → Type 0
TakesId old new None = (ids_in old ≡ []) × (new ≡ old)
TakesId old new (Some v) = FirstId old new v

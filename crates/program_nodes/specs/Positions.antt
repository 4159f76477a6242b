-- What stands at the places of a program sheet that passed 40: its records by position. Helpers of contracts: no public promise cites them.
-- Assumes nothing: these are definitions.
use Rattle.std.specs.Prelude.{ℕ, ◌+◌, ◌-◌, ◌*◌, ◌/◌, ◌≤◌, ◌≡◌, Bool, true, false, ◌&&◌, List, ◌∷◌, map, leb, eqb, length}
use Rattle.std.proofs.Math.Option.{Option, none, some}
use Rattle.definitions.specs.Fields.{le}
use Rattle.definitions.specs.Ir.{IrType, Instruction, result_type, Terminator, InstrNode, BasicBlock, IrFunction}
use Rattle.definitions.specs.Grammar.{Class, up_to, ir_type, value_and_type, done, perhaps, many}
use Rattle.definitions.specs.Records.{pick, Item, number_of, type_of, type_from, opt_from, read_items, read_records, gather}
use Rattle.definitions.specs.InstrTable.{ResultRule, kind_row, kind_of, type_by}
use Rattle.definitions.specs.ProgramSheet.{binary_of, instr_node_of, block_of, term_of, first_of, ir_function_of}
use Rattle.definitions.specs.Fine.{Fine}
use Rattle.ir.specs.Kinds.{rule_in}
use Rattle.program_nodes.specs.Offsets.{function_id_at, function_name_at, return_type_at, param_count_at, first_param_at, block_id_at, records_at, fields_at, own_at, left_at, right_at, call_args_at, event_args_at}

-- TYPES: the type in the four bytes at a place
unfoldable pub type_here : List ℕ → ℕ → IrType
type_here s p = type_from (le 2 s p) (le 2 s (p + 2))

-- n ids from a place on
unfoldable pub ids_here : ℕ → List ℕ → ℕ → List ℕ
ids_here n s p = map number_of (read_items (up_to 65534) n s p)

-- INSTRUCTIONS: the one of kind k in the record that starts at q and stops at `stop`
unfoldable pub instr_here : ℕ → List ℕ → ℕ → ℕ → Instruction
instr_here k s q stop =
    pick (eqb k 60) (Instruction.Const (type_here s (q + own_at)) (le 8 s (q + (own_at + 4))))
    (pick (leb k 70) (Instruction.Binary (binary_of k) (type_here s (q + own_at)) (le 2 s (q + left_at)) (le 2 s (q + right_at)))
    (pick (eqb k 71) (Instruction.Load (type_here s (q + own_at)) (le 2 s (q + (own_at + 4))) (le 8 s (q + (own_at + 6))))
    (pick (eqb k 72) (Instruction.Store (le 2 s (q + own_at)) (le 8 s (q + (own_at + 2))) (le 2 s (q + (own_at + 10))))
    (pick (eqb k 73) (Instruction.StateRead (type_here s (q + own_at)) (le 4 s (q + (own_at + 4))))
    (pick (eqb k 74) (Instruction.StateWrite (le 4 s (q + own_at)) (le 2 s (q + (own_at + 4))))
    (pick (eqb k 75) (Instruction.ReadLocal (le 2 s (q + own_at)) (type_here s (q + (own_at + 2))))
    (pick (eqb k 76) (Instruction.WriteLocal (le 2 s (q + own_at)) (le 2 s (q + (own_at + 2))))
    (pick (eqb k 77) (Instruction.Call (le 2 s (q + own_at)) (ids_here ((stop - (q + call_args_at)) / 2) s (q + call_args_at)) (type_here s (q + (own_at + 2))))
    (pick (eqb k 78) (Instruction.Assert (le 2 s (q + own_at)))
    (pick (eqb k 79) (Instruction.Poseidon (le 2 s (q + own_at)) (le 2 s (q + (own_at + 2))))
    (pick (eqb k 80) (Instruction.Emit (le 2 s (q + own_at)) (ids_here ((stop - (q + event_args_at)) / 2) s (q + event_args_at)))
    (Instruction.ContextRead (le 2 s (q + own_at))))))))))))))

-- how many bytes of it are head and fixed fields
abbrev pub size_here : ℕ → ℕ
size_here k =
    own_at + pick (eqb k 60) 12 (pick (leb k 70) 8 (pick (eqb k 71) 14 (pick (eqb k 72) 12 (pick (eqb k 73) 8 (pick (eqb k 74) 6 (pick (eqb k 75) 6
    (pick (eqb k 76) 4 (pick (eqb k 77) 6 (pick (eqb k 78) 2 (pick (eqb k 79) 4 2))))))))))

-- whether it has a type of its own, and how far into the record that stands
abbrev pub has_type : ℕ → Bool
has_type k = pick (leb k 71) true (pick (eqb k 73) true (pick (eqb k 75) true (eqb k 77)))

abbrev pub type_offset : ℕ → ℕ
type_offset k = pick (leb k 73) own_at (own_at + 2)

-- the result's type by its rule, for an instruction of type t
abbrev pub by_rule : Option ResultRule → IrType → Option IrType
by_rule none t = none
by_rule (some r) t = type_by r t

-- a kind whose rule has a type of its own has one, and it lies within the fixed fields
abbrev pub own_rule : Option ResultRule → Bool
own_rule none = false
own_rule (some ResultRule.own) = true
own_rule (some ResultRule.own_unless_void) = true
own_rule (some ResultRule.bool) = false
own_rule (some ResultRule.u64) = false
own_rule (some ResultRule.nothing) = false

unfoldable pub rule_test : ℕ → Bool
rule_test k = pick (own_rule (rule_in (kind_row k))) (has_type k) true && pick (has_type k) (leb (type_offset k + 4) (size_here k)) true

-- an instruction of kind k stands at q; its record stops at `stop`
pub record InstrPlace (s : List ℕ) (q k : ℕ) : Type 0 where
  pub rules : rule_test k ≡ true
  pub kind_is : (stop : ℕ) → kind_of (instr_here k s q stop) ≡ k
  pub gives : (stop : ℕ) → result_type (instr_here k s q stop) ≡ by_rule (rule_in (kind_row k)) (type_here s (q + type_offset k))
  pub context : eqb k 81 ≡ true → leb (le 2 s (q + own_at)) 2 ≡ true

pub record InstrTo (s : List ℕ) (q stop k : ℕ) : Type 0 where
  pub place : InstrPlace s q k
  pub room : q + size_here k ≤ stop
  pub inside : stop ≤ length s

-- TERMINATORS: the one of kind k at q, and how many bytes it has
unfoldable pub term_here : ℕ → List ℕ → ℕ → Terminator
term_here k s q =
    pick (eqb k 90) (Terminator.Jump (le 2 s (q + fields_at)))
    (pick (eqb k 91) (Terminator.Branch (le 2 s (q + fields_at)) (le 2 s (q + (fields_at + 2))) (le 2 s (q + (fields_at + 4))))
    (pick (eqb k 92) (Terminator.Return (opt_from (le 2 s (q + fields_at)))) Terminator.Unreachable))

abbrev pub term_size : ℕ → ℕ
term_size k = fields_at + pick (eqb k 91) 6 (pick (eqb k 93) 0 2)

-- BLOCKS: the instructions and the terminator of a block's records from q on, and the block at b
unfoldable pub instrs_here : List ℕ → ℕ → ℕ → List InstrNode
instrs_here s q end = gather 60 81 instr_node_of (read_records s q end)

unfoldable pub terminator_here : List ℕ → ℕ → ℕ → Option Terminator
terminator_here s q end = first_of (gather 90 93 term_of (read_records s q end))

abbrev pub block_here : List ℕ → ℕ → ℕ → BasicBlock
block_here s b end = record { id = le 2 s (b + block_id_at); instrs = instrs_here s (b + records_at) end; terminator = terminator_here s (b + records_at) end }

unfoldable pub blocks_here : List ℕ → ℕ → ℕ → List BasicBlock
blocks_here s p end = gather 53 53 block_of (read_records s p end)

-- a block's records from q to its end
abbrev pub BlockFrom : List ℕ → ℕ → ℕ → Type 0
BlockFrom s q end = Fine s q end (many Class.instruction (perhaps Class.terminator done))

-- the blocks of a function from b on
abbrev pub BlocksFrom : List ℕ → ℕ → ℕ → Type 0
BlocksFrom s b stop = Fine s b stop (many Class.basic_block done)

-- FUNCTIONS: the parameters of the one at `at`, the place of its count of locals, and where its blocks start
unfoldable pub params_here : List ℕ → ℕ → List (ℕ × IrType)
params_here s at = map (λ (x : Item). (number_of x, type_of x)) (read_items value_and_type (le 2 s (at + param_count_at)) s (at + first_param_at))

abbrev pub locals_at : List ℕ → ℕ → ℕ
locals_at s at = at + first_param_at + 6 * le 2 s (at + param_count_at)

abbrev pub first_block : List ℕ → ℕ → ℕ
first_block s at = locals_at s at + 2 + 4 * le 2 s (locals_at s at)

-- the types of n locals from a place on
unfoldable pub types_here : ℕ → List ℕ → ℕ → List IrType
types_here n s p = map type_of (read_items ir_type n s p)

-- the functions from p on
unfoldable pub functions_here : List ℕ → ℕ → ℕ → List IrFunction
functions_here s p end = gather 51 51 ir_function_of (read_records s p end)

-- the functions and names of a sheet that passed stand from p on; all of them
abbrev pub FunctionsFrom : List ℕ → ℕ → Type 0
FunctionsFrom s p = Fine s p (length s) (many Class.ir_function (many Class.function_name done))

abbrev pub ProgramHere : List ℕ → Type 0
ProgramHere s = FunctionsFrom s 6

-- THE FUNCTION f of a sheet, as the definitions have it
abbrev pub function_here : List ℕ → (at first stop : ℕ) → IrFunction
function_here s at first stop = record {
  id = le 2 s (at + function_id_at);
  name = le 2 s (at + function_name_at);
  params = params_here s at;
  ret_ty = type_here s (at + return_type_at);
  blocks = blocks_here s first stop;
  locals = types_here (le 2 s (locals_at s at)) s (locals_at s at + 2);
}

-- a function of the sheet: its fields, its blocks as they passed, and what stands after it
pub record FunctionHere (s : List ℕ) (at first stop name : ℕ) : Type 0 where
  pub name_is : name ≡ le 2 s (at + function_name_at)
  pub first_is : first ≡ first_block s at
  pub low : first ≤ stop
  pub inside : stop ≤ length s
  pub blocks : BlocksFrom s first stop
  pub next : FunctionsFrom s stop
  pub read : functions_here s at (length s) ≡ function_here s at first stop ∷ functions_here s stop (length s)

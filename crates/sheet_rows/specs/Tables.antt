-- The code's table (src/tables.rt) in the words of the grammar. Nothing here has to be believed: only the contracts of private functions cite it.
-- Assumes nothing: these are definitions.
use Rattle.std.specs.Prelude.{ℕ, ◌+◌, ◌-◌, ◌≤◌, List, [], ◌∷◌, length, map, leb, Option, None, Some, Result, Ok, Err}
use denote.Ref.{Bor}
use Rattle.definitions.specs.Fields.{le}
use Rattle.definitions.specs.Grammar as grammar
use Rattle.definitions.specs.Grammar.{Pattern, done, one, perhaps, many, single, counted, listed, up_to, optional, number, ir_type, value_and_type, name_and_type, origin, rows}
use Rattle.definitions.specs.Records as records
use Rattle.definitions.specs.Records.{pick, no_row, row, row_in, Next, refused, left, nothing, starts}
use Rattle.sheet_rows.specs.declared.tables.Class.{Class}
use Rattle.sheet_rows.specs.declared.tables.Class.TheVariants as class
use Rattle.sheet_rows.specs.declared.tables.Often.TheVariants as often
use Rattle.sheet_rows.specs.declared.tables.Child.{Child}
use Rattle.sheet_rows.specs.declared.tables.Entry.{Entry}
use Rattle.sheet_rows.specs.declared.tables.Entry.TheVariants as entry
use Rattle.sheet_rows.specs.declared.tables.Field.{Field}
use Rattle.sheet_rows.specs.declared.tables.Field.TheVariants as field
use Rattle.sheet_rows.specs.declared.tables.Row.{Row}

-- s has bytes from `at` to `stop`
abbrev pub Extent : List ℕ → ℕ → ℕ → Type 0
Extent s at stop = (at ≤ stop) × (stop ≤ length s)

abbrev pub class_of : Class → grammar.Class
class_of class.Contract = grammar.Class.contract
class_of class.Storage = grammar.Class.storage
class_of class.Struct = grammar.Class.struct
class_of class.Function = grammar.Class.function
class_of class.Block = grammar.Class.block
class_of class.FieldInit = grammar.Class.field_init
class_of class.Stmt = grammar.Class.statement
class_of class.Expr = grammar.Class.expression
class_of class.Program = grammar.Class.program
class_of class.IrFunction = grammar.Class.ir_function
class_of class.FunctionName = grammar.Class.function_name
class_of class.BasicBlock = grammar.Class.basic_block
class_of class.Instruction = grammar.Class.instruction
class_of class.Terminator = grammar.Class.terminator

abbrev pub entry_of : Entry → grammar.Entry
entry_of entry.Id = up_to 65534
entry_of entry.Type = ir_type
entry_of entry.ValueAndType = value_and_type
entry_of entry.NameAndType = name_and_type

abbrev pub field_of : Field → grammar.Field
field_of field.Origin = origin
field_of field.Id = single (up_to 65534)
field_of field.OptId = single optional
field_of field.Type = single ir_type
field_of field.U64 = single (number 8)
field_of field.U32 = single (number 4)
field_of field.Flag = single (up_to 1)
field_of field.Operator = single (up_to 9)
field_of field.Context = single (up_to 2)
field_of (field.Counted e) = counted (entry_of e)
field_of (field.Listed e) = listed (entry_of e)

abbrev pub fields_of : List Field → List grammar.Field
fields_of fs = map field_of fs

-- a child, and then the pattern p
abbrev pub then_child : Child → Pattern → Pattern
then_child c p = elim c.often [ often.Once ↦ one (class_of c.class) p | often.AtMostOnce ↦ perhaps (class_of c.class) p | often.Any ↦ many (class_of c.class) p ]

abbrev pub pattern_of : List Child → Pattern
pattern_of [] = done
pattern_of (c ∷ cs) = then_child c (pattern_of cs)

abbrev pub row_of : Row → records.Row
row_of r = row (class_of r.class) (fields_of r.fields.now) (pattern_of r.children.now)

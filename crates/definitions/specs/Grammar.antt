-- The two sheets' record kinds, a row each (document 01, "Contract sheet" and "Program sheet"). Assumes nothing: these are definitions.
use Rattle.std.specs.Prelude.{ℕ, List, [], ◌∷◌}

-- What one entry of a field is: a u16 of at most m; a u16 that is 65,535 if absent; a number of n bytes; a type (tag and name);
-- a value and its type; a name and a type's name.
pub data Entry : Type 0 where
  up_to : (m : ℕ) → Entry
  optional : Entry
  number : (n : ℕ) → Entry
  ir_type : Entry
  value_and_type : Entry
  name_and_type : Entry

-- A field: one entry; a u16 count and that many entries; entries without a count, to the record's end.
pub data Field : Type 0 where
  single : Entry → Field
  counted : Entry → Field
  listed : Entry → Field

-- What a record is, to the record around it.
pub data Class : Type 0 where
  contract storage struct function block field_init statement expression : Class
  program ir_function function_name basic_block instruction terminator : Class

abbrev pub class_no : Class → ℕ
class_no Class.contract = 1
class_no Class.storage = 2
class_no Class.struct = 3
class_no Class.function = 4
class_no Class.block = 5
class_no Class.field_init = 6
class_no Class.statement = 7
class_no Class.expression = 8
class_no Class.program = 9
class_no Class.ir_function = 10
class_no Class.function_name = 11
class_no Class.basic_block = 12
class_no Class.instruction = 13
class_no Class.terminator = 14

-- What children may come, in order: nothing more; one of a class, then p; perhaps one, then p; any number, then p.
pub data Pattern : Type 0 where
  done : Pattern
  one : Class → Pattern → Pattern
  perhaps : Class → Pattern → Pattern
  many : Class → Pattern → Pattern

-- A row: the record's kind, its class, its fixed fields, its children.
pub data Line : Type 0 where
  kind : ℕ → Class → List Field → Pattern → Line

-- names and ids are 0 to 65,534
abbrev n : Field
n = single (up_to 65534)

abbrev id : Field
id = single (up_to 65534)

abbrev ids : Field
ids = listed (up_to 65534)

abbrev result : Field
result = single optional

abbrev type : Field
type = single ir_type

abbrev flag : Field
flag = single (up_to 1)

abbrev operator : Field
operator = single (up_to 9)

abbrev context : Field
context = single (up_to 2)

abbrev eight_bytes : Field
eight_bytes = single (number 8)

abbrev four_bytes : Field
four_bytes = single (number 4)

-- what stands between the kind of an instruction or terminator and its own fields: nothing now, a number of no bytes
abbrev pub origin_width : ℕ
origin_width = 0

abbrev pub origin : Field
origin = single (number origin_width)

abbrev instr : ℕ → List Field → Line
instr k own = kind k Class.instruction (origin ∷ own) done

abbrev term : ℕ → List Field → Line
term k own = kind k Class.terminator (origin ∷ own) done

unfoldable pub rows : List Line
rows =
    -- contract sheet
    kind 1 Class.contract (n ∷ []) (many Class.storage (many Class.struct (many Class.function done))) ∷
    kind 2 Class.storage (n ∷ n ∷ []) done ∷
    kind 3 Class.struct (n ∷ listed name_and_type ∷ []) done ∷
    kind 4 Class.function (n ∷ single optional ∷ flag ∷ counted name_and_type ∷ []) (many Class.statement done) ∷
    kind 5 Class.block [] (many Class.statement done) ∷
    kind 6 Class.field_init (n ∷ []) (one Class.expression done) ∷
    -- statements
    kind 10 Class.statement (n ∷ []) (one Class.expression done) ∷  -- Let
    kind 11 Class.statement [] (one Class.expression done) ∷  -- Constrain
    kind 12 Class.statement (n ∷ []) (one Class.expression done) ∷  -- Assign
    kind 13 Class.statement (n ∷ []) (one Class.expression done) ∷  -- StorageWrite
    kind 14 Class.statement (n ∷ []) (one Class.expression (one Class.expression done)) ∷  -- MappingWrite
    kind 15 Class.statement [] (one Class.expression (one Class.block (perhaps Class.block done))) ∷  -- If
    kind 16 Class.statement [] (one Class.expression (one Class.block done)) ∷  -- While
    kind 17 Class.statement (n ∷ []) (one Class.expression (one Class.expression (one Class.block done))) ∷  -- For
    kind 18 Class.statement [] (perhaps Class.expression done) ∷  -- Return
    kind 19 Class.statement (n ∷ []) (many Class.expression done) ∷  -- Emit
    kind 20 Class.statement [] (one Class.expression done) ∷  -- Expr
    -- expressions
    kind 30 Class.expression (eight_bytes ∷ []) done ∷  -- Int
    kind 31 Class.expression (n ∷ []) done ∷  -- Ident
    kind 32 Class.expression (n ∷ []) done ∷  -- StorageRead
    kind 33 Class.expression (n ∷ []) (one Class.expression done) ∷  -- MappingRead
    kind 34 Class.expression (n ∷ []) (one Class.expression done) ∷  -- FieldAccess
    kind 35 Class.expression (n ∷ []) (many Class.field_init done) ∷  -- StructLiteral
    kind 36 Class.expression (operator ∷ []) (one Class.expression (one Class.expression done)) ∷  -- Binary
    kind 37 Class.expression (n ∷ []) (many Class.expression done) ∷  -- Call
    -- program sheet
    kind 50 Class.program [] (many Class.ir_function (many Class.function_name done)) ∷
    kind 51 Class.ir_function (id ∷ n ∷ type ∷ counted value_and_type ∷ counted ir_type ∷ []) (many Class.basic_block done) ∷
    kind 52 Class.function_name (n ∷ id ∷ []) done ∷
    kind 53 Class.basic_block (id ∷ []) (many Class.instruction (perhaps Class.terminator done)) ∷
    -- instructions
    instr 60 (result ∷ type ∷ eight_bytes ∷ []) ∷  -- Const
    instr 61 (result ∷ type ∷ id ∷ id ∷ []) ∷  -- Add
    instr 62 (result ∷ type ∷ id ∷ id ∷ []) ∷  -- Sub
    instr 63 (result ∷ type ∷ id ∷ id ∷ []) ∷  -- Mul
    instr 64 (result ∷ type ∷ id ∷ id ∷ []) ∷  -- Div
    instr 65 (result ∷ type ∷ id ∷ id ∷ []) ∷  -- IrEq
    instr 66 (result ∷ type ∷ id ∷ id ∷ []) ∷  -- IrNe
    instr 67 (result ∷ type ∷ id ∷ id ∷ []) ∷  -- Lt
    instr 68 (result ∷ type ∷ id ∷ id ∷ []) ∷  -- Le
    instr 69 (result ∷ type ∷ id ∷ id ∷ []) ∷  -- Gt
    instr 70 (result ∷ type ∷ id ∷ id ∷ []) ∷  -- Ge
    instr 71 (result ∷ type ∷ id ∷ eight_bytes ∷ []) ∷  -- Load
    instr 72 (result ∷ id ∷ eight_bytes ∷ id ∷ []) ∷  -- Store
    instr 73 (result ∷ type ∷ four_bytes ∷ []) ∷  -- StateRead
    instr 74 (result ∷ four_bytes ∷ id ∷ []) ∷  -- StateWrite
    instr 75 (result ∷ id ∷ type ∷ []) ∷  -- ReadLocal
    instr 76 (result ∷ id ∷ id ∷ []) ∷  -- WriteLocal
    instr 77 (result ∷ id ∷ type ∷ ids ∷ []) ∷  -- Call
    instr 78 (result ∷ id ∷ []) ∷  -- Assert
    instr 79 (result ∷ id ∷ id ∷ []) ∷  -- Poseidon
    instr 80 (result ∷ n ∷ ids ∷ []) ∷  -- Emit
    instr 81 (result ∷ context ∷ []) ∷  -- ContextRead
    -- terminators
    term 90 (id ∷ []) ∷  -- Jump
    term 91 (id ∷ id ∷ id ∷ []) ∷  -- Branch
    term 92 (result ∷ []) ∷  -- Return
    term 93 [] ∷ []  -- Unreachable

-- What the parts of an expression come to, in the words of the walk. Assumes nothing: these are definitions.
use Rattle.std.specs.Prelude.{ℕ, List}
use Rattle.definitions.specs.Result.{ok, ◌>>=◌, ◌>>◌, ok_or_else, Done}
use Rattle.definitions.specs.Ast.{Param, Contract, Exprs, FieldInits}
use Rattle.definitions.specs.Ir.{IrType}
use Rattle.definitions.specs.Analyze.{Ty, known, Env, differs, field_type, signature_named}
use Rattle.definitions.specs.Sema.{from_str}
use Rattle.definitions.specs.Lower.{struct_named}
use Rattle.analyze_walk.specs.Stops.{Checking, sema, refuse_if, call, check_fields, check_arguments}

-- a literal of the struct n at p, and a call of the function n at p
abbrev pub check_literal : Contract → Env → (p n : ℕ) → FieldInits → Checking Ty
check_literal K env p n fs = do
  (_, decl) ← ok_or_else (struct_named K n) (sema p 9)
  check_fields K env p decl.fields fs
  ok (known (IrType.Struct n))

abbrev pub check_call : Contract → Env → (p n : ℕ) → Exprs → Checking Ty
check_call K env p n args = do
  acts ← check_arguments K env args
  call p (signature_named K n) acts

-- the field n of the literal at p
abbrev pub field_check : (p : ℕ) → List Param → (n : ℕ) → Ty → Checking Done
field_check p fs n ty = do
  (_, expected) ← ok_or_else (field_type fs n) (sema p 8)
  refuse_if (differs ty (known (from_str expected.ty))) (sema p 7)

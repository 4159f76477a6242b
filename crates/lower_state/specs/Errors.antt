-- The code's errors as the definitions' errors. Assumes nothing: these are definitions.
use Rattle.definitions.specs.Lower as lowering
use Rattle.lower_state.specs.declared.refusals.LoweringError.{LoweringError}
use Rattle.lower_state.specs.declared.refusals.LoweringError.TheVariants as code

abbrev pub error_of : LoweringError → lowering.LoweringError
error_of (code.UnresolvedType n) = lowering.LoweringError.UnresolvedType n.0
error_of (code.UndefinedVariable n) = lowering.LoweringError.UndefinedVariable n.0
error_of (code.UndefinedFunction n) = lowering.LoweringError.UndefinedFunction n.0
error_of code.FieldOfNonStruct = lowering.LoweringError.FieldOfNonStruct
error_of (code.NoSuchField s f) = lowering.LoweringError.NoSuchField s.0 f.0
error_of code.StructLiteral = lowering.LoweringError.StructLiteral
error_of code.MappingRead = lowering.LoweringError.MappingRead
error_of code.MappingWrite = lowering.LoweringError.MappingWrite
error_of code.VoidAsValue = lowering.LoweringError.VoidAsValue
error_of code.PoseidonArguments = lowering.LoweringError.PoseidonArguments
error_of code.MerkleProof = lowering.LoweringError.MerkleProof
error_of (code.TooManyBlocksOrLocals f) = lowering.LoweringError.TooManyBlocksOrLocals f.0

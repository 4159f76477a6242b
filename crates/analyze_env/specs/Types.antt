-- The types of the body check in the words of the definitions. Assumes nothing: these are definitions.
use Rattle.definitions.specs.Analyze as analyze
use Rattle.ir.specs.Types.{as_type}
use Rattle.analyze_env.specs.declared.Ty.{Ty}
use Rattle.analyze_env.specs.declared.Ty.TheVariants as ty

abbrev pub as_ty : Ty → analyze.Ty
as_ty (ty.Known t) = analyze.known (as_type t)
as_ty ty.Unknown = analyze.Unknown

-- The fields of an environment as the names that they hold. Assumes nothing: these are definitions.
use Rattle.std.specs.Prelude.{length}
use Rattle.analyze_env.specs.Bindings.{env_of, Known}
use Rattle.analyze_env.specs.Names.{Names}
use Rattle.analyze_env.specs.declared.Env.TheInside.{Inside}

abbrev pub names_in : Inside → Names
names_in e = record { names = env_of e.bindings.now e.count; room = length e.bindings.now }

abbrev pub IsEnv : Inside → Type 0
IsEnv e = Known e.bindings.now e.heads.now e.count

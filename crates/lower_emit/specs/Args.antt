-- The arguments' values as the code keeps them. Assumes nothing: these are definitions.
use Rattle.std.specs.Prelude.{ℕ, List}
use Rattle.lower_state.specs.Bytes.{ids_of}
use Rattle.lower_emit.specs.declared.args.Args.TheInside.{Inside}

abbrev pub args_in : Inside → List ℕ
args_in a = ids_of a.ids.items

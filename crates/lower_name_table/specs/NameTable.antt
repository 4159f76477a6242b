-- The names of the first functions, and the records of all names. Untrusted: helper definitions.
use Rattle.std.specs.Prelude.{ℕ, Bool, List, [], eqb, take}
use Rattle.std.specs.List.{list_any}
use Rattle.definitions.specs.Ast.{Function, Contract}
use Rattle.definitions.specs.Lower.{function_names}
use Rattle.definitions.specs.ProgramSheet.{function_name_tree}
use Rattle.definitions.specs.Records.{tnil, trees_of, write_trees}

-- whether one of the first n functions has the name m
abbrev pub is_named : (m n : ℕ) → List Function → Bool
is_named m n fs = list_any (λ (f : Function). eqb f.name m) (take n fs)

-- the records of the functions' names
abbrev pub names_of : Contract → List ℕ
names_of K = write_trees (trees_of function_name_tree (function_names 0 K.functions []) tnil)

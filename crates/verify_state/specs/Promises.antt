-- What a part of the check promises of its answer. Helpers of contracts: no public promise cites them. Assumes nothing: these are definitions.
use Rattle.std.specs.Prelude.{ℕ, ◌≡◌, List}
use Rattle.std.proofs.Math.Option.{Option, none, some}
use Rattle.definitions.specs.Ir.{IrType}
use Rattle.definitions.specs.Verify.{Checked, Defined, defined_type}
use Rattle.program_nodes.specs.Definitions.{Definition, first_definition}
use Rattle.program_nodes.specs.Nodes.{definitions_of}
use Rattle.program_nodes.specs.declared.program.Function.{Function}
use Rattle.verify_state.specs.Errors.{Outcome, in_function}

-- the verifier's table has the definitions: the same values with the same types
abbrev pub Agree : Option Definition → Option IrType → Type 0
Agree none none = Unit {0}
Agree none (some t) = ⊥
Agree (some d) none = ⊥
Agree (some d) (some t) = d.type ≡ some t

abbrev pub SameTable : Defined → List Definition → Type 0
SameTable ds es = (v : ℕ) → Agree (first_definition v es) (defined_type v ds)

-- r is what x says, in the function f
abbrev pub Says : {A : Type 0} → Function → Outcome → Checked A → Type 0
Says f r x = r ≡ in_function f.name.0 x

-- r is what k says with f's table
pub record Checks {A : Type 0} (f : Function) (r : Outcome) (k : Defined → Checked A) : Type 0 where
  pub says : (ds : Defined) → SameTable ds (definitions_of f) → Says f r (k ds)

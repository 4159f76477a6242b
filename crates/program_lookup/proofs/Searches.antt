-- A search for a definition, a block or a function: the front one is it, or the rest decides. Assumes nothing.
use mathlib.Core.Path.{◌≡◌, refl, ap, sym, ◌∙◌}
use mathlib.Core.Bool.{Bool, true, false}
use mathlib.Core.List.{List, [], ◌∷◌, ◌++◌}
use mathlib.Core.Option as maths
use mathlib.Core.Option.{none, some}
use Prim.Native.Nat.{ℕ}
use lib.Dec.{eqb}
use borrow.Author.Tests.{eqb-true, eq-eqb, ne_eqb}
use Rattle.std.specs.Prelude.{Option, None, Some}
use Rattle.std.proofs.lemmas.Bool.{both_ways}
use Rattle.std.specs.Option.{is_some}
use Rattle.definitions.specs.Ir.{Instruction, BasicBlock, IrFunction, find, contains}
use Rattle.definitions.specs.Bench.{function_with}
use Rattle.definitions.specs.Verify.{block_ids, function_ids}
use Rattle.definitions.proofs.Results.{by_test}
use Rattle.ir.specs.Answers.{option_of}
use Rattle.program_nodes.specs.Definitions.{Definition, instr_definition, result_definition, first_definition}
use Rattle.program_nodes.specs.Nodes.{result_is}
use Rattle.program_nodes.proofs.Definitions.{first_append}

-- DEFINITIONS: the front one has the value, or has another
pub hit : {v : ℕ} {d : Definition} {ds es : List Definition} → ds ≡ d ∷ es → d.value ≡ v → some d ≡ first_definition v ds
unfolding first_definition
hit {v} {d} e z = rw (e, eq-eqb d.value v z)

pub miss : {v : ℕ} {d : Definition} {ds es : List Definition} → ds ≡ d ∷ es → (d.value ≡ v → ⊥) → first_definition v es ≡ first_definition v ds
unfolding first_definition
miss {v} {d} e z = rw (e, ne_eqb d.value v z)

pub nothing : (v : ℕ) {ds : List Definition} → ds ≡ [] → none ≡ first_definition v ds
unfolding first_definition
nothing v e = rw e

-- the same for an instruction, which may have no result
pub instr_hit : (q v : ℕ) (r : maths.Option ℕ) (i : Instruction) {ds : List Definition} (es : List Definition) → ds ≡ result_definition q r i ++ es → some v ≡ r → some (instr_definition q v i) ≡ first_definition v ds
unfolding first_definition
instr_hit q v r i es e z = rw (e, ← z, eq-eqb v v refl)

pub instr_miss : (q v : ℕ) (r : maths.Option ℕ) (i : Instruction) {ds : List Definition} (es : List Definition) → ds ≡ result_definition q r i ++ es → (some v ≡ r → ⊥) → first_definition v es ≡ first_definition v ds
unfolding first_definition
instr_miss q v none i es e z = rw e
instr_miss q v (some x) i es e z = rw (e, ne_eqb x v (λ w. z (ap some (sym w))))

-- whether a result is the value, as the code asks
pub is_value : (v : ℕ) (r : maths.Option ℕ) {b : Bool} → b ≡ result_is v r → b ≡ true → some v ≡ r
is_value v none e z = cc
is_value v (some x) e z = ap some (sym (eqb-true x v (sym e ∙ z)))

pub no_value : (v : ℕ) (r : maths.Option ℕ) {b : Bool} → b ≡ result_is v r → b ≡ false → some v ≡ r → ⊥
no_value v r e z w = both_ways _ z (e ∙ rw (← w) (eq-eqb v v refl))

-- two lists, one after the other
pub in_first : (v : ℕ) (a b : List Definition) {d : Definition} → some d ≡ first_definition v a → some d ≡ first_definition v (a ++ b)
in_first v a b e = sym (first_append v a b ∙ rw (← e))

pub in_second : (v : ℕ) (a b : List Definition) → none ≡ first_definition v a → first_definition v (a ++ b) ≡ first_definition v b
in_second v a b e = first_append v a b ∙ rw (← e)

-- WHETHER THERE IS ONE, as the ids say
abbrev is_there : {A : Type 0} → maths.Option A → Bool
is_there none = false
is_there (some a) = true

there : {A B : Type 0} (f : A → B) (r : Option A) → is_some r ≡ is_there (option_of f r)
there f None = refl
there f (Some a) = refl

block_there : (k : ℕ) (bs : List BasicBlock) → is_there (find k bs) ≡ contains k (block_ids bs)
block_there k [] = refl
block_there k (b ∷ bs) = by_test (eqb b.id k) (λ q. rw (q, find, contains)) (λ q. rw (q, find, contains) (block_there k bs))

function_there : (k : ℕ) (fs : List IrFunction) → is_there (function_with k fs) ≡ contains k (function_ids fs)
function_there k [] = refl
function_there k (f ∷ fs) = by_test (eqb f.id k) (λ q. rw (q, function_with, contains)) (λ q. rw (q, function_with, contains) (function_there k fs))

pub has_block_lem : {A : Type 0} (f : A → BasicBlock) (r : Option A) (k : ℕ) (bs : List BasicBlock) → option_of f r ≡ find k bs → is_some r ≡ contains k (block_ids bs)
has_block_lem f r k bs e = there f r ∙ (ap is_there e ∙ block_there k bs)

pub has_function_lem : {A : Type 0} (f : A → IrFunction) (r : Option A) (k : ℕ) (fs : List IrFunction) → option_of f r ≡ function_with k fs → is_some r ≡ contains k (function_ids fs)
has_function_lem f r k fs e = there f r ∙ (ap is_there e ∙ function_there k fs)

-- Each row of `specs/RulesOut.antt` is ruled out. Assumes nothing.
use mathlib.Core.Path.{◌≡◌, refl, ap}
use mathlib.Core.Logic.{inl, inr}
use mathlib.Core.Bool.{false}
use mathlib.Core.List.Memᴰ
use mathlib.Core.List.{List, [], ◌∷◌}
use Prim.Native.Nat.{ℕ}
use native.Mathlib.Omega.{arith}
use lib.Dec.{eqb}
use lib.ListN.{length}
use borrow.Author.Tests.{eqb-false}
use Rattle.definitions.specs.Fields.{le}
use Rattle.definitions.specs.Grammar.{rows}
use Rattle.definitions.specs.Ir.{IrProgram}
use Rattle.definitions.specs.Result.{err, ok}
use Rattle.definitions.specs.Records.{type_from, opt_from, size_of, ok_item, read_item, read_items, field_end, read_value, fields_end, read_values, row_in, row_fields, read_node, trees_from, read_records}
use Rattle.definitions.specs.Lower.{Lowering, lower_functions, lower_contract}
use Rattle.definitions.specs.Run.{then_way, enter, follow, step_entry, step, steps, start, run}
use Rattle.definitions.specs.ContractSheet.{contract_of, read_contract}
use Rattle.definitions.specs.ProgramSheet.{read_program}
use Rattle.definitions.specs.Answers.{refusal}
use Rattle.definitions.specs.Demand3.{NeverLacks, AcceptedOr45to47}
use Rattle.definitions.specs.RulesOut.{lacking_second, lacking_later, other_numbers, NotVerified, RulesOut}
use Rattle.definitions.proofs.All.{all_of}

abbrev function_count : Lowering IrProgram → ℕ
function_count (ok p) = length p.functions
function_count (err e) = 0

lacks_later : NeverLacks lacking_later → ⊥
unfolding enter follow step_entry step steps start run
lacks_later h = h lacking_second (Memᴰ.tail (Memᴰ.head refl)) (7 ∷ []) refl ((0, then_way) ∷ (0, then_way) ∷ []) refl

module _ (n : ℕ) (a : eqb n 45 ≡ false) (b : eqb n 46 ≡ false) (c : eqb n 47 ≡ false) where
  none_of_three : (details : List ℕ) → AcceptedOr45to47 (err (refusal n details)) → ⊥
  none_of_three details (inl e) = eqb-false n 45 a e
  none_of_three details (inr (inl e)) = eqb-false n 46 b e
  none_of_three details (inr (inr e)) = eqb-false n 47 c e

  other : NotVerified n
  other s b details e d = none_of_three details (rw e at d.verifies)

pub rules_out : RulesOut
unfolding le rows type_from opt_from size_of ok_item read_item read_items field_end read_value fields_end read_values row_in row_fields read_node trees_from read_records lower_functions lower_contract contract_of read_contract read_program
rules_out = record {
  lowered = λ d. let z : ◌≡◌ {A = ℕ} 0 1 = ap function_count d.lowered in omega arith;
  runs = λ s b e d. lacks_later (rw e at d.runs);
  verifies =
      all_of NotVerified other_numbers
      (other 1 refl refl refl)
      (other 40 refl refl refl)
      (other 41 refl refl refl)
      (other 42 refl refl refl)
      (other 43 refl refl refl)
      (other 44 refl refl refl)
      (other 48 refl refl refl)
      (other 49 refl refl refl)
      (other 50 refl refl refl);
}

-- The definitions of a function's values: how a search meets them, and what stands at their places. Assumes nothing.
use mathlib.Core.Path.{◌≡◌, refl, ap, ap₂, ◌∙◌, subst}
use mathlib.Core.Bool.{Bool, true, false}
use mathlib.Core.List.{List, [], ◌∷◌, ◌++◌, map}
use mathlib.Core.Option.{Option, none, some}
use Prim.Native.Nat.{ℕ, zero, suc, ◌+◌, ◌-◌, ◌<◌}
use native.Mathlib.Nat.{not-suc-le-zero}
use native.Mathlib.Numerals.{sub-one}
use native.Mathlib.Omega.{arith}
use lib.Dec.{eqb}
use borrow.Author.Tests.{eqb-true, le-leb, lt-leb}
use Rattle.definitions.specs.All.{All, anil, acons}
use Rattle.definitions.specs.Fields.{le}
use Rattle.definitions.specs.Ir.{IrType, Instruction}
use Rattle.definitions.specs.Grammar.{value_and_type}
use Rattle.definitions.specs.Records.{pick, Item, opt_from, number_of, type_of, read_item, read_items, size_of, read_records}
use Rattle.definitions.proofs.Sheets.Passed.{read_end}
use Rattle.program_nodes.specs.Offsets.{records_at, fields_at}
use Rattle.sheet.specs.Passed.{record_kind}
use Rattle.program_nodes.specs.Positions.{type_here, instr_here}
use Rattle.program_nodes.specs.Definitions.{Definition, result_definition, block_definitions, blocks_definitions, first_definition}
use Rattle.program_nodes.proofs.Walk.{InstrStep, TermStep, BlockStep}

-- LISTS OF DEFINITIONS
abbrev pub or_else : Option Definition → Option Definition → Option Definition
or_else none y = y
or_else (some e) y = some e

pub first_append : (v : ℕ) (a b : List Definition) → first_definition v (a ++ b) ≡ or_else (first_definition v a) (first_definition v b)
unfolding first_definition
first_append v [] b = refl
first_append v (e ∷ a) b = go (eqb e.value v) (first_append v a b)
  where
    go : (t : Bool) → first_definition v (a ++ b) ≡ or_else (first_definition v a) (first_definition v b) → pick t (some e) (first_definition v (a ++ b)) ≡ or_else (pick t (some e) (first_definition v a)) (first_definition v b)
    go true below = refl
    go false below = below

-- a found definition is one of them
pub first_has : {P : Definition → Type 0} (v : ℕ) {es : List Definition} → All P es → (e : Definition) → first_definition v es ≡ some e → P e × (e.value ≡ v)
unfolding first_definition
first_has v anil e q = cc
first_has {P} v (acons {a = x} {l = l} p h) e q = go (eqb x.value v) refl (first_has v h e)
  where
    go : (t : Bool) → eqb x.value v ≡ t → (first_definition v l ≡ some e → P e × (e.value ≡ v)) → P e × (e.value ≡ v)
    go true z below =
        let y : some x ≡ some e = rw z at q in
        let w : x ≡ e = cc in
        subst (λ (y : Definition). P y × (y.value ≡ v)) w (p, eqb-true _ _ z)
    go false z below = below (rw z at q)

-- PARAMETERS
abbrev pub params_from : ℕ → List ℕ → ℕ → List (ℕ × IrType)
params_from n s p = map (λ (x : Item). (number_of x, type_of x)) (read_items value_and_type n s p)

pub params_front : (n : ℕ) (s : List ℕ) (p : ℕ) → 0 < n → params_from n s p ≡ (le 2 s p, type_here s (p + 2)) ∷ params_from (n - 1) s (p + 6)
unfolding read_items read_item size_of type_here
params_front zero s p h = absurd (not-suc-le-zero h)
params_front (suc n) s p h = rw sub-one refl

-- INSTRUCTIONS
-- the definition by the instruction at q, and then those of the records after it
pub instr_definitions : {s : List ℕ} {q end stop : ℕ} → InstrStep s q end stop
    → block_definitions (read_records s q end) ≡ result_definition q (opt_from (le 2 s (q + fields_at))) (instr_here (record_kind s q) s q stop) ++ block_definitions (read_records s stop end)
unfolding block_definitions
instr_definitions {s} {q} {end} {stop} I =
    ap block_definitions I.read ∙ rw (le-leb (record_kind s q) 81 I.at.high) (ap₂ (λ (r : Option ℕ) (i : Instruction). result_definition q r i ++ block_definitions (read_records s stop end)) I.at.result I.at.is)

pub term_definitions : {s : List ℕ} {q end : ℕ} → TermStep s q end → block_definitions (read_records s q end) ≡ []
unfolding block_definitions
term_definitions {s} {q} T = ap block_definitions T.read ∙ rw (lt-leb (record_kind s q) 81 (omega (arith, T.at.low)))

pub end_definitions : (s : List ℕ) {q end : ℕ} → q ≡ end → block_definitions (read_records s q end) ≡ []
unfolding block_definitions
end_definitions s {q} e = rw (← e) (ap block_definitions (read_end s q))

-- BLOCKS
pub blocks_definitions_lem : {s : List ℕ} {b end stop : ℕ} → BlockStep s b end stop → blocks_definitions (read_records s b end) ≡ block_definitions (read_records s (b + records_at) stop) ++ blocks_definitions (read_records s stop end)
unfolding blocks_definitions
blocks_definitions_lem B = ap blocks_definitions B.read

pub no_blocks : (s : List ℕ) {b end : ℕ} → b ≡ end → blocks_definitions (read_records s b end) ≡ []
unfolding blocks_definitions
no_blocks s {b} e = rw (← e) (ap blocks_definitions (read_end s b))

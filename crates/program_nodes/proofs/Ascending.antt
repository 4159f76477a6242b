-- The places of a function's definitions ascend, so a value is new exactly if the search gives its own place. Assumes nothing.
use mathlib.Core.Path.{◌≡◌, refl, ap, sym, ◌∙◌}
use mathlib.Core.Bool.{true}
use mathlib.Core.List.{List, [], ◌∷◌, ◌++◌, append_assoc}
use mathlib.Core.Option.{Option, none, some}
use Prim.Native.Nat.{ℕ, zero, suc, ◌+◌, ◌-◌, ◌*◌, ◌≤◌, ◌<◌}
use native.Mathlib.Nat.{not-suc-le-zero}
use native.Mathlib.Omega.{arith}
use lib.Dec.{eqb}
use borrow.Author.Tests.{eq-eqb, eqb-true}
use Rattle.definitions.specs.All.{All, anil, acons}
use Rattle.definitions.specs.Fields.{le}
use Rattle.definitions.specs.Ir.{Instruction}
use Rattle.definitions.specs.Records.{opt_from, read_records, read_items, read_item, size_of}
use Rattle.definitions.proofs.Sheets.Steps.{low}
use Rattle.program_nodes.specs.Offsets.{param_count_at, first_param_at, records_at, fields_at}
use Rattle.sheet.specs.Passed.{record_kind, stop_of}
use Rattle.program_nodes.specs.Positions.{instr_here, params_here, BlockFrom, BlocksFrom}
use Rattle.program_nodes.specs.Definitions.{Definition, param_definitions, result_definition, block_definitions, blocks_definitions, first_definition, is_at}
use Rattle.program_nodes.specs.Nodes.{definitions_of}
use Rattle.program_nodes.specs.declared.program.Function.{Function}
use Rattle.program_nodes.proofs.Walk.{AtRecord, at_end, at_instr, at_term, at_record, AtBlock, no_block_lem, at_block, at_blocks}
use Rattle.program_nodes.proofs.Facts.{function_is}
use Rattle.program_nodes.proofs.Definitions.{first_append, first_has, params_from, instr_definitions, term_definitions, end_definitions, blocks_definitions_lem, no_blocks}

abbrev pub Ascends : ℕ → List Definition → Type 0
Ascends lo [] = Unit {0}
Ascends lo (e ∷ es) = (lo < e.place) × Ascends e.place es

weaken : {lo hi : ℕ} (es : List Definition) → lo ≤ hi → Ascends hi es → Ascends lo es
weaken [] h a = tt
weaken (e ∷ es) h a = (omega (arith, a.0), a.1)

-- what stands before a definition has a lower place
before_low : (lo : ℕ) (pre : List Definition) (e : Definition) (post : List Definition) → Ascends lo (pre ++ (e ∷ post)) → (lo < e.place) × All (λ (x : Definition). x.place < e.place) pre
before_low lo [] e post a = (a.0, anil)
before_low lo (x ∷ pre) e post a = let b = before_low x.place pre e post a.1 in (omega (arith, a.0, b.0), acons b.0 b.1)

params_ascend : (n : ℕ) (s : List ℕ) (p lo hi : ℕ) (rest : List Definition) → lo < p → p + 6 * n ≤ hi → Ascends hi rest → Ascends lo (param_definitions p (params_from n s p) ++ rest)
unfolding read_items read_item size_of
params_ascend zero s p lo hi rest l h a = weaken rest (omega arith) a
params_ascend (suc n) s p lo hi rest l h a = (l, params_ascend n s (p + 6) p hi rest (omega arith) (omega arith) a)

result_ascends : (q lo : ℕ) (r : Option ℕ) (i : Instruction) (rest : List Definition) → lo < q → Ascends lo rest → Ascends q rest → Ascends lo (result_definition q r i ++ rest)
result_ascends q lo none i rest l a b = a
result_ascends q lo (some v) i rest l a b = (l, b)

block_ascends : (n : ℕ) {s : List ℕ} {q end : ℕ} (lo : ℕ) (rest : List Definition) → end - q < n → lo < q → BlockFrom s q end → Ascends end rest → Ascends lo (block_definitions (read_records s q end) ++ rest)
block_ascends zero lo rest h l f a = absurd (not-suc-le-zero h)
block_ascends (suc n) {s} {q} {end} lo rest h l f a = go (at_record f) (λ m g k i. block_ascends n m rest g k i a)
  where
    z : q ≤ end
    z = low f

    go : AtRecord s q end → ((m : ℕ) → end - stop_of s q < n → m < stop_of s q → BlockFrom s (stop_of s q) end → Ascends m (block_definitions (read_records s (stop_of s q) end) ++ rest)) → Ascends lo (block_definitions (read_records s q end) ++ rest)
    go (at_end e) below = rw (end_definitions s e) (weaken rest (omega arith) a)
    go (at_term T) below = rw (term_definitions T) (weaken rest (omega arith) a)
    go (at_instr I) below =
        let up : (m : ℕ) → m < stop_of s q → Ascends m (block_definitions (read_records s (stop_of s q) end) ++ rest) = λ m g. below m (omega (arith, I.low, I.high)) g I.next in
        rw (instr_definitions I, append_assoc) (result_ascends q lo (opt_from (le 2 s (q + fields_at))) (instr_here (record_kind s q) s q (stop_of s q)) (block_definitions (read_records s (stop_of s q) end) ++ rest) l (up lo (omega (arith, I.low))) (up q (omega (arith, I.low))))

blocks_ascend : (n : ℕ) {s : List ℕ} {b end : ℕ} (lo : ℕ) → end - b < n → lo ≤ b → BlocksFrom s b end → Ascends lo (blocks_definitions (read_records s b end))
blocks_ascend zero lo h l f = absurd (not-suc-le-zero h)
blocks_ascend (suc n) {s} {b} {end} lo h l f = go (at_blocks f) (λ g. blocks_ascend n (stop_of s b) g (omega arith))
  where
    go : AtBlock s b end → (end - stop_of s b < n → BlocksFrom s (stop_of s b) end → Ascends (stop_of s b) (blocks_definitions (read_records s (stop_of s b) end))) → Ascends lo (blocks_definitions (read_records s b end))
    go (no_block_lem e) below = rw (no_blocks s e) tt
    go (at_block B) below =
        rw (blocks_definitions_lem B) (block_ascends (suc (stop_of s b - (b + records_at))) lo (blocks_definitions (read_records s (stop_of s b) end)) (omega arith) (omega arith) B.records (below (omega (arith, B.low, B.high)) B.next))

pub ascends : (f : Function) → Ascends f.at (definitions_of f)
unfolding definitions_of params_here
ascends f =
    let s = f.program.sheet.now in
    let F = function_is f in
    params_ascend (le 2 s (f.at + param_count_at)) s (f.at + first_param_at) f.at f.first (blocks_definitions (read_records s f.first f.stop)) (omega arith) (omega (arith, F.first_is))
    (blocks_ascend (suc (f.stop - f.first)) f.first (omega arith) (omega arith) F.blocks)

-- A VALUE IS NEW exactly if its first definition stands at its own place
pub new_place : (pre : List Definition) (e : Definition) (post : List Definition) → first_definition e.value pre ≡ none → is_at (first_definition e.value (pre ++ (e ∷ post))) e.place ≡ true
unfolding first_definition
new_place pre e post z = ap (λ (o : Option Definition). is_at o e.place) (first_append e.value pre (e ∷ post)) ∙ rw (z, eq-eqb e.value e.value refl) (eq-eqb e.place e.place refl)

pub old_place : (lo : ℕ) (pre : List Definition) (e : Definition) (post : List Definition) (x : Definition) → Ascends lo (pre ++ (e ∷ post)) → first_definition e.value pre ≡ some x → is_at (first_definition e.value (pre ++ (e ∷ post))) e.place ≡ true → ⊥
old_place lo pre e post x a z h =
    let k : x.place < e.place = (first_has e.value (before_low lo pre e post a).1 x z).0 in
    let g : is_at (first_definition e.value (pre ++ (e ∷ post))) e.place ≡ eqb x.place e.place = ap (λ (o : Option Definition). is_at o e.place) (first_append e.value pre (e ∷ post)) ∙ rw z refl in
    let w : x.place ≡ e.place = eqb-true _ _ (sym g ∙ h) in
    omega arith

-- The verifier's table and a function's definitions, one by one. Assumes nothing.
use mathlib.Core.Path.{◌≡◌, refl, ap, ◌∙◌, subst}
use mathlib.Core.Bool.{Bool, true, false}
use mathlib.Core.List.{List, [], ◌∷◌, ◌++◌, append_assoc, append-nil}
use mathlib.Core.Option.{Option, none, some}
use Prim.Native.Nat.{ℕ, zero, suc, ◌+◌, ◌-◌, ◌<◌}
use native.Mathlib.Nat.{not-suc-le-zero}
use native.Mathlib.Omega.{arith}
use lib.Dec.{eqb}
use borrow.Author.Tests.{eqb-true}
use Rattle.definitions.specs.Result.{err, ok, ◌>>=◌}
use Rattle.definitions.specs.Fields.{le}
use Rattle.definitions.specs.Ir.{IrType, Instruction, result_type}
use Rattle.definitions.specs.Records.{opt_from, read_records}
use Rattle.definitions.specs.Verify.{VerifyError, Checked, Defined, defined_type, insert, define_params, define_result, define_results, define_blocks}
use Rattle.definitions.proofs.Results.{ok_inj, err_ok, taking}
use Rattle.program_nodes.specs.Offsets.{records_at, fields_at}
use Rattle.sheet.specs.Passed.{record_kind, stop_of}
use Rattle.program_nodes.specs.Positions.{instr_here, instrs_here, blocks_here, BlockFrom, BlocksFrom}
use Rattle.program_nodes.specs.Definitions.{Definition, param_definitions, result_definition, block_definitions, blocks_definitions, first_definition, is_at}
use Rattle.program_nodes.proofs.Walk.{AtRecord, at_end, at_instr, at_term, at_record, instrs_step, instrs_term, instrs_end, AtBlock, no_block_lem, at_block, at_blocks, blocks_step, blocks_end}
use Rattle.program_nodes.proofs.Definitions.{or_else, first_append, instr_definitions, term_definitions, end_definitions, blocks_definitions_lem, no_blocks}
use Rattle.program_nodes.proofs.Ascending.{Ascends, new_place, old_place}
use Rattle.verify_state.specs.Promises.{Agree, SameTable}

agree_none : (o : Option Definition) (d : Option IrType) → Agree o d → d ≡ none → o ≡ none
agree_none none none h e = refl
agree_none (some x) none h e = absurd h
agree_none none (some t) h e = refl
agree_none (some x) (some t) h e = cc

agree_some : (o : Option Definition) (d : Option IrType) (t : IrType) → Agree o d → d ≡ some t → (x : Definition) × (o ≡ some x)
agree_some none none t h e = cc
agree_some (some x) d t h e = (x, refl)
agree_some none (some u) t h e = absurd h

pub nothing_same : SameTable [] []
unfolding first_definition
nothing_same v = tt

-- THE TABLE AFTER ONE MORE
same_more : (ds : Defined) (pre : List Definition) (e : Definition) (t : IrType) → SameTable ds pre → defined_type e.value ds ≡ none → e.type ≡ some t → SameTable ((e.value, t) ∷ ds) (pre ++ (e ∷ []))
unfolding first_definition
same_more ds pre e t S n ty v = go (eqb e.value v) refl
  where
    go : (b : Bool) → eqb e.value v ≡ b → Agree (first_definition v (pre ++ (e ∷ []))) (defined_type v ((e.value, t) ∷ ds))
    go true z =
        let w : e.value ≡ v = eqb-true _ _ z in
        let f : first_definition v pre ≡ none = agree_none (first_definition v pre) (defined_type v ds) (S v) (subst (λ (y : ℕ). defined_type y ds ≡ none) w n) in
        let g : defined_type v ((e.value, t) ∷ ds) ≡ some t = rw (z, defined_type) in
        let h : first_definition v (pre ++ (e ∷ [])) ≡ some e = first_append v pre (e ∷ []) ∙ rw (f, z) in
        rw (g, h) ty
    go false z =
        let g : defined_type v ((e.value, t) ∷ ds) ≡ defined_type v ds = rw (z, defined_type) in
        let h : first_definition v (pre ++ (e ∷ [])) ≡ or_else (first_definition v pre) none = first_append v pre (e ∷ []) ∙ ap (or_else (first_definition v pre)) (rw z) in
        rw (g, h) (other (first_definition v pre) (S v))
      where
        other : (o : Option Definition) → Agree o (defined_type v ds) → Agree (or_else o none) (defined_type v ds)
        other none h = h
        other (some x) h = h

-- ONE DEFINITION of a type t: it is new exactly if its first place is its own
module _ (ds : Defined) (pre : List Definition) (e : Definition) (post : List Definition) (lo : ℕ) (a : Ascends lo (pre ++ (e ∷ post))) (S : SameTable ds pre) (t : IrType) where
  pub insert_new : is_at (first_definition e.value (pre ++ (e ∷ post))) e.place ≡ true → insert e.value t ds ≡ ok ((e.value, t) ∷ ds)
  insert_new p = go (defined_type e.value ds) refl
    where
      go : (d : Option IrType) → defined_type e.value ds ≡ d → insert e.value t ds ≡ ok ((e.value, t) ∷ ds)
      go none q = rw (q, insert)
      go (some u) q =
          let x = agree_some (first_definition e.value pre) (defined_type e.value ds) u (S e.value) q in
          absurd (old_place lo pre e post x.0 a x.1 p)

  pub insert_old : (is_at (first_definition e.value (pre ++ (e ∷ post))) e.place ≡ true → ⊥) → insert e.value t ds ≡ err (VerifyError.DuplicateValueDef e.value)
  insert_old p = go (defined_type e.value ds) refl
    where
      go : (d : Option IrType) → defined_type e.value ds ≡ d → insert e.value t ds ≡ err (VerifyError.DuplicateValueDef e.value)
      go (some u) q = rw (q, insert)
      go none q = absurd (p (new_place pre e post (agree_none (first_definition e.value pre) (defined_type e.value ds) (S e.value) q)))

-- THE TABLE AFTER A PART THAT PASSED has the part's definitions too
abbrev pub Grows : (Defined → Checked Defined) → List Definition → Type 0
Grows k own = (ds es : Defined) (pre : List Definition) → SameTable ds pre → k ds ≡ ok es → SameTable es (pre ++ own)

grows_none : Grows (λ (ds : Defined). ok ds) []
grows_none ds es pre S e = rw append-nil (subst (λ (d : Defined). SameTable d pre) (ok_inj e) S)

grows_then : (k l : Defined → Checked Defined) (a b : List Definition) → Grows k a → Grows l b → Grows (λ (ds : Defined). k ds >>= l) (a ++ b)
grows_then k l a b f g ds es pre S e = taking (k ds) l e (λ d first rest. rw (← append_assoc pre a b) (g d es (pre ++ a) (f ds d pre S first) rest))

pub insert_grows : (d : Definition) (t : IrType) → d.type ≡ some t → Grows (insert d.value t) (d ∷ [])
insert_grows d t ty ds es pre S e = go (defined_type d.value ds) refl
  where
    go : (o : Option IrType) → defined_type d.value ds ≡ o → SameTable es (pre ++ (d ∷ []))
    go (some u) q = absurd (err_ok (rw (q, insert) at e))
    go none q =
        let w : ◌≡◌ {A = Checked Defined} (ok ((d.value, t) ∷ ds)) (ok es) = rw (q, insert) at e in
        subst (λ (x : Defined). SameTable x (pre ++ (d ∷ []))) (ok_inj w) (same_more ds pre d t S q ty)

pub result_grows : (i : Instruction) (q : ℕ) (r : Option ℕ) → Grows (define_result i r) (result_definition q r i)
unfolding define_result
result_grows i q none = grows_none
result_grows i q (some v) = go (result_type i) refl
  where
    go : (o : Option IrType) → result_type i ≡ o → Grows (define_result i (some v)) (result_definition q (some v) i)
    go none z = λ ds es pre S e. absurd (err_ok (rw z at e))
    go (some t) z = λ ds es pre S e. insert_grows (record { place = q; value = v; type = result_type i }) t z ds es pre S (rw z at e)

pub params_grow : (ps : List (ℕ × IrType)) (p : ℕ) → Grows (define_params ps) (param_definitions p ps)
unfolding define_params
params_grow [] p = grows_none
params_grow ((v, t) ∷ ps) p =
    let d : Definition = record { place = p; value = v; type = some t } in
    grows_then (insert v t) (define_params ps) (d ∷ []) (param_definitions (p + 6) ps) (insert_grows d t refl) (params_grow ps (p + 6))

pub block_grows : (n : ℕ) {s : List ℕ} {q end : ℕ} → end - q < n → BlockFrom s q end → Grows (define_results (instrs_here s q end)) (block_definitions (read_records s q end))
unfolding define_results
block_grows zero h f = absurd (not-suc-le-zero h)
block_grows (suc n) {s} {q} {end} h f = go (at_record f) (λ g. block_grows n g)
  where
    go : AtRecord s q end → (end - stop_of s q < n → BlockFrom s (stop_of s q) end → Grows (define_results (instrs_here s (stop_of s q) end)) (block_definitions (read_records s (stop_of s q) end))) → Grows (define_results (instrs_here s q end)) (block_definitions (read_records s q end))
    go (at_end z) below = rw (instrs_end s z, end_definitions s z) grows_none
    go (at_term T) below = rw (instrs_term T, term_definitions T) grows_none
    go (at_instr I) below =
        let i = instr_here (record_kind s q) s q (stop_of s q) in
        let r = opt_from (le 2 s (q + fields_at)) in
        rw (instrs_step I, instr_definitions I)
        (grows_then (define_result i r) (define_results (instrs_here s (stop_of s q) end)) (result_definition q r i) (block_definitions (read_records s (stop_of s q) end)) (result_grows i q r) (below (omega (arith, I.low, I.high)) I.next))

pub blocks_grow : (n : ℕ) {s : List ℕ} {b end : ℕ} → end - b < n → BlocksFrom s b end → Grows (define_blocks (blocks_here s b end)) (blocks_definitions (read_records s b end))
unfolding define_blocks
blocks_grow zero h f = absurd (not-suc-le-zero h)
blocks_grow (suc n) {s} {b} {end} h f = go (at_blocks f) (λ g. blocks_grow n g)
  where
    go : AtBlock s b end → (end - stop_of s b < n → BlocksFrom s (stop_of s b) end → Grows (define_blocks (blocks_here s (stop_of s b) end)) (blocks_definitions (read_records s (stop_of s b) end))) → Grows (define_blocks (blocks_here s b end)) (blocks_definitions (read_records s b end))
    go (no_block_lem z) below = rw (blocks_end s z, no_blocks s z) grows_none
    go (at_block B) below =
        rw (blocks_step B, blocks_definitions_lem B)
        (grows_then (define_results (instrs_here s (b + records_at) (stop_of s b))) (define_blocks (blocks_here s (stop_of s b) end)) (block_definitions (read_records s (b + records_at) (stop_of s b))) (blocks_definitions (read_records s (stop_of s b) end))
        (block_grows (suc (stop_of s b - (b + records_at))) (omega arith) B.records) (below (omega (arith, B.low, B.high)) B.next))

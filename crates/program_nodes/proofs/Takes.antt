-- The first of a list of nodes is taken. Assumes nothing.
use mathlib.Core.Path.{◌≡◌, refl, ap, sym, ◌∙◌}
use mathlib.Core.List.{List, [], ◌∷◌}
use Prim.Native.Nat.{ℕ, zero, suc, ◌+◌, ◌-◌}
use native.Mathlib.Numerals.{sub-one}
use native.Mathlib.Omega.{arith}
use Rattle.std.specs.Prelude.{Some}
use Rattle.definitions.specs.Fields.{le}
use Rattle.definitions.specs.Records.{read_item, read_items, size_of}
use Rattle.sheet.specs.Passed.{stop_of}
use Rattle.program_nodes.specs.Positions.{ids_here}
use Rattle.program_nodes.specs.Nodes.{FirstFunction, FirstParam, FirstBlock, FirstInstr, FirstTerm, NoRecord, TakesRecord, blocks_in, blocks_definitions_in}
use Rattle.program_nodes.specs.Definitions.{param_definitions}
use Rattle.program_nodes.specs.declared.program.Functions.{Functions}
use Rattle.program_nodes.specs.declared.program.Function.{Function}
use Rattle.program_nodes.specs.declared.program.Params.{Params}
use Rattle.program_nodes.specs.declared.program.Param.{Param}
use Rattle.program_nodes.specs.declared.block.Blocks.{Blocks}
use Rattle.program_nodes.specs.declared.block.Block.{Block}
use Rattle.program_nodes.specs.declared.block.Records.{Records}
use Rattle.program_nodes.specs.declared.block.Record.{Record}
use Rattle.program_nodes.specs.declared.block.Record.TheVariants as record'
use Rattle.program_nodes.specs.declared.instr.Instr.{Instr}
use Rattle.program_nodes.specs.declared.term.Term.{Term}
use Rattle.program_nodes.proofs.Facts.{function_is}
use Rattle.program_nodes.proofs.Walk.{InstrStep, TermStep, BlockStep, instrs_step, terminator_instr, instrs_term, terminator_term, instrs_end, terminator_end, blocks_step, blocks_end}
use Rattle.program_nodes.proofs.Definitions.{params_from, params_front, instr_definitions, term_definitions, end_definitions, blocks_definitions_lem, no_blocks}

-- a block
pub first_block : {old new : Blocks} {b : Block} → BlockStep old.sheet.now old.at old.end (stop_of old.sheet.now old.at)
    → b.sheet.now ≡ old.sheet.now → b.at ≡ old.at → b.stop ≡ stop_of old.sheet.now old.at
    → new.sheet.now ≡ old.sheet.now → new.at ≡ stop_of old.sheet.now old.at → new.end ≡ old.end → FirstBlock old new b
first_block B s a e ns na ne = record {
  is = rw (s, a, e, ns, na, ne) (blocks_step B);
  definitions = rw (s, a, e, ns, na, ne) (blocks_definitions_lem B);
  at = a;
  next = na ∙ sym e;
  sheet = s;
  rest_sheet = ns;
  end = ne;
  less = omega (arith, B.low, na);
  within = omega (arith, B.high, na, ne);
}

pub no_block : (old : Blocks) → old.at ≡ old.end → (blocks_in old ≡ []) × (blocks_definitions_in old ≡ [])
no_block old e = (blocks_end old.sheet.now e, no_blocks old.sheet.now e)

-- an instruction, a terminator, nothing
pub first_instr : {old new : Records} {i : Instr} → InstrStep old.sheet.now old.at old.end (stop_of old.sheet.now old.at)
    → i.sheet.now ≡ old.sheet.now → i.at ≡ old.at → i.stop ≡ stop_of old.sheet.now old.at
    → new.sheet.now ≡ old.sheet.now → new.at ≡ stop_of old.sheet.now old.at → new.end ≡ old.end → FirstInstr old new i
first_instr I s a e ns na ne = record {
  instrs = rw (s, a, e, ns, na, ne) (instrs_step I);
  terminator = rw (ns, na, ne) (terminator_instr I);
  definitions = rw (s, a, e, ns, na, ne) (instr_definitions I);
  sheet = s;
  rest_sheet = ns;
  end = ne;
  less = omega (arith, I.low, na);
  within = omega (arith, I.high, na, ne);
}

pub first_term : {old : Records} {t : Term} → TermStep old.sheet.now old.at old.end
    → t.sheet.now ≡ old.sheet.now → t.at ≡ old.at → FirstTerm old t
first_term T s a = record { instrs = instrs_term T; terminator = rw (s, a) (terminator_term T); definitions = term_definitions T; sheet = s }

-- what a match on the record told
pub an_instr : {old new : Records} {r : Record} {i : Instr} → TakesRecord old new (Some r) → r ≡ record'.Instr i → FirstInstr old new i
an_instr h e = rw e at h

pub a_term : {old : Records} (new : Records) {r : Record} {t : Term} → TakesRecord old new (Some r) → r ≡ record'.Term t → FirstTerm old t
a_term new h e = rw e at h

pub no_record : (old : Records) → old.at ≡ old.end → NoRecord old
no_record old e = record { instrs = instrs_end old.sheet.now e; terminator = terminator_end old.sheet.now e; definitions = end_definitions old.sheet.now e }

-- a function
pub first_function : {old new : Functions} (f : Function) → f.program.sheet.now ≡ old.program.sheet.now → f.at ≡ old.at
    → new.program.sheet.now ≡ old.program.sheet.now → new.at ≡ f.stop → FirstFunction old new f
first_function f s a ns na =
    let F = function_is f in
    record {
      is = rw (ns, na, ← s, ← a) F.read;
      at = a;
      sheet = s;
      rest_sheet = ns;
      less = omega (arith, F.first_is, F.low, a, na);
      within = rw (ns, na, ← s) F.inside;
    }

-- a parameter
pub no_param : {n : ℕ} (s : List ℕ) (p : ℕ) → n ≡ 0 → params_from n s p ≡ []
unfolding read_items
no_param s p e = rw e refl

pub first_param : {old new : Params} {p : Param} → (old.left ≡ 0 → ⊥) → p.sheet.now ≡ old.sheet.now → p.at ≡ old.at
    → new.sheet.now ≡ old.sheet.now → new.at ≡ old.at + 6 → new.left ≡ old.left - 1 → FirstParam old new p
first_param {old} n s a ns na nl =
    let front = params_front old.left old.sheet.now old.at (omega arith) in
    record {
      is = rw (s, a, ns, na, nl) front;
      definitions = rw (s, a, ns, na, nl) (ap (param_definitions old.at) front);
      sheet = s;
      rest_sheet = ns;
      less = omega arith;
    }

-- a value
pub no_id : {n : ℕ} (s : List ℕ) (p : ℕ) → n ≡ 0 → ids_here n s p ≡ []
unfolding ids_here read_items
no_id s p e = rw e refl

pub ids_front : (n : ℕ) (s : List ℕ) (p : ℕ) → (n ≡ 0 → ⊥) → ids_here n s p ≡ le 2 s p ∷ ids_here (n - 1) s (p + 2)
unfolding ids_here read_items read_item size_of
ids_front zero s p h = absurd (h refl)
ids_front (suc n) s p h = rw sub-one refl

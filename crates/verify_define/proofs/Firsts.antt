-- The first pass: what is left of a part's definitions, with the table so far. Assumes nothing.
use mathlib.Core.Path.{◌≡◌, refl, ap, sym, ◌∙◌}
use mathlib.Core.Bool.{true}
use mathlib.Core.List.{List, [], ◌∷◌, ◌++◌, append_assoc}
use mathlib.Core.Option.{Option, none, some}
use Prim.Native.Nat.{ℕ, suc, ◌+◌, ◌-◌}
use native.Mathlib.Omega.{arith}
use Rattle.sheet.specs.Passed.{record_kind}
use Rattle.definitions.specs.Result.{err, ok, ◌>>=◌}
use Rattle.definitions.specs.Ir.{IrType, Instruction, InstrNode, BasicBlock, result_type}
use Rattle.definitions.specs.InstrTable.{kind_of}
use Rattle.definitions.specs.Verify.{VerifyError, Checked, Defined, insert, define_params, define_result, define_results, define_blocks}
use Rattle.program_nodes.specs.Offsets.{records_at}
use Rattle.program_nodes.specs.Definitions.{Definition, param_definition, instr_definition, result_definition, first_definition, is_at}
use Rattle.program_nodes.specs.Nodes.{instr_in, block_in, block_definitions_of, definitions_of}
use Rattle.program_nodes.specs.declared.instr.Instr.{Instr}
use Rattle.program_nodes.proofs.Facts.{instr_to, block_records}
use Rattle.program_nodes.specs.declared.program.Function.{Function}
use Rattle.program_nodes.specs.declared.block.Block.{Block}
use Rattle.program_nodes.proofs.Ascending.{ascends}
use Rattle.verify_state.specs.Errors.{Outcome, in_function}
use Rattle.verify_state.specs.Promises.{SameTable}
use Rattle.verify_define.specs.Promises.{Defines}
use Rattle.verify_state.proofs.Steps.{failed, passed, goes_on}
use Rattle.verify_define.proofs.Tables.{insert_new, insert_old, Grows, insert_grows, result_grows, block_grows}

-- `rest` by `left` are what is left of the definitions `own` by `whole`: for each table to start with, the one so far
record So (f : Function) (rest after : List Definition) (left : Defined → Checked Defined) (goal : Outcome) : Type 0 where
  table : Defined
  before : List Definition
  same : SameTable table before
  split : definitions_of f ≡ before ++ (rest ++ after)
  goes : in_function f.name.0 (left table) ≡ goal

pub record Rest (f : Function) (own : List Definition) (whole : Defined → Checked Defined) (rest : List Definition) (left : Defined → Checked Defined) : Type 0 where
  so : (ds : Defined) (before after : List Definition) → SameTable ds before → definitions_of f ≡ before ++ (own ++ after) → So f rest after left (in_function f.name.0 (whole ds))

all_left : {f : Function} {own : List Definition} {whole : Defined → Checked Defined} → Rest f own whole own whole
all_left = record { so = λ ds before after S e. record { table = ds; before = before; same = S; split = e; goes = refl } }

pub start : {X : Type 0} {f : Function} (k : X → Defined → Checked Defined) {ds own : List Definition} {xs ys : X} → ds ≡ own → xs ≡ ys → Rest f own (k ys) ds (k xs)
start k d e = rw (d, e) all_left

-- nothing is left
over : {f : Function} {own rest : List Definition} {whole : Defined → Checked Defined} → Rest f own whole rest (λ (ds : Defined). ok ds) → Defines f (ok tt) own whole
over R = record { says = λ ds before after S e. (R.so ds before after S e).goes }

-- the first part of what is left, and what is left after it
module _ {f : Function} {own : List Definition} {whole : Defined → Checked Defined} (first : List Definition) (rest : List Definition) (k l : Defined → Checked Defined)
    (R : Rest f own whole (first ++ rest) (λ (ds : Defined). k ds >>= l)) where
  first_split : {after : List Definition} {goal : Outcome} (L : So f (first ++ rest) after (λ (ds : Defined). k ds >>= l) goal) → definitions_of f ≡ L.before ++ (first ++ (rest ++ after))
  first_split {after} L = L.split ∙ ap (λ (x : List Definition). L.before ++ x) (append_assoc first rest after)

  first_failed : {x : ℕ × VerifyError} → Defines f (err x) first k → Defines f (err x) own whole
  first_failed D = record {
    says = λ ds before after S e.
        let L = R.so ds before after S e in
        failed f.name.0 (k L.table) l (D.says L.table L.before (rest ++ after) L.same (first_split L)) ∙ L.goes;
  }

  first_passed : Grows k first → Defines f (ok tt) first k → Rest f own whole rest l
  first_passed g D = record {
    so = λ ds before after S e.
        let L = R.so ds before after S e in
        let p = passed f.name.0 (k L.table) (D.says L.table L.before (rest ++ after) L.same (first_split L)) in
        record {
          table = p.0;
          before = L.before ++ first;
          same = g L.table p.0 L.before L.same p.1;
          split = first_split L ∙ sym (append_assoc L.before first (rest ++ after));
          goes = sym (goes_on f.name.0 (k L.table) l p.0 p.1) ∙ L.goes;
        };
  }

-- ONE DEFINITION: there before, or new
module _ (f : Function) (d : Definition) (t : IrType) where
  defined_twice : (is_at (first_definition d.value (definitions_of f)) d.place ≡ true → ⊥) → Defines f (err (f.name.0, VerifyError.DuplicateValueDef d.value)) (d ∷ []) (insert d.value t)
  defined_twice n = record { says = λ ds before after S e. rw (insert_old ds before d after f.at (rw e at (ascends f)) S t (λ z. n (rw e z))) }

  defined_once : is_at (first_definition d.value (definitions_of f)) d.place ≡ true → Defines f (ok tt) (d ∷ []) (insert d.value t)
  defined_once p = record { says = λ ds before after S e. rw (insert_new ds before d after f.at (rw e at (ascends f)) S t (rw e at p)) }

-- AN INSTRUCTION'S RESULT, if it has one
pub no_result : (f : Function) (q : ℕ) (i : Instruction) {o : Option ℕ} → none ≡ o → Defines f (ok tt) (result_definition q o i) (define_result i o)
unfolding define_result
no_result f q i e = record { says = λ ds before after S z. rw (← e) }

module _ (f : Function) (q : ℕ) (i : Instruction) {o : Option ℕ} {x : ℕ} (e : some x ≡ o) where
  pub result_on_none : {k : ℕ} → k ≡ kind_of i → none ≡ result_type i → Defines f (err (f.name.0, VerifyError.ResultOnNone k)) (result_definition q o i) (define_result i o)
  unfolding define_result
  result_on_none h z = record { says = λ ds before after S y. rw (← e, ← z, h) }

  module _ {t : IrType} (g : some t ≡ result_type i) where
    pub result_twice : (is_at (first_definition x (definitions_of f)) q ≡ true → ⊥) → Defines f (err (f.name.0, VerifyError.DuplicateValueDef x)) (result_definition q o i) (define_result i o)
    unfolding define_result
    result_twice n = record { says = λ ds before after S y. rw (← e, ← g) ((defined_twice f (instr_definition q x i) t n).says ds before after S (rw (← e) at y)) }

    pub result_once : is_at (first_definition x (definitions_of f)) q ≡ true → Defines f (ok tt) (result_definition q o i) (define_result i o)
    unfolding define_result
    result_once p = record { says = λ ds before after S y. rw (← e, ← g) ((defined_once f (instr_definition q x i) t p).says ds before after S (rw (← e) at y)) }

-- PARAMETERS: the first of them
module _ {f : Function} {own ds es : List Definition} {whole : Defined → Checked Defined} {ps qs : List (ℕ × IrType)} (q : ℕ) (p : ℕ × IrType)
    (d : ds ≡ param_definition q p ∷ es) (e : ps ≡ p ∷ qs) (R : Rest f own whole ds (define_params ps)) where
  from_param : Rest f own whole ((param_definition q p ∷ []) ++ es) (λ (x : Defined). insert p.0 p.1 x >>= define_params qs)
  unfolding define_params
  from_param = rw (d, e) at R

  pub param_twice : (is_at (first_definition p.0 (definitions_of f)) q ≡ true → ⊥) → Defines f (err (f.name.0, VerifyError.DuplicateValueDef p.0)) own whole
  param_twice z = first_failed (param_definition q p ∷ []) es (insert p.0 p.1) (define_params qs) from_param (defined_twice f (param_definition q p) p.1 z)

  pub param_once : is_at (first_definition p.0 (definitions_of f)) q ≡ true → Rest f own whole es (define_params qs)
  param_once z = first_passed (param_definition q p ∷ []) es (insert p.0 p.1) (define_params qs) from_param (insert_grows (param_definition q p) p.1 refl) (defined_once f (param_definition q p) p.1 z)

pub params_over : {f : Function} {own rest : List Definition} {whole : Defined → Checked Defined} {ps : List (ℕ × IrType)} → ps ≡ [] → Rest f own whole rest (define_params ps) → Defines f (ok tt) own whole
unfolding define_params
params_over e R = over (rw e at R)

-- INSTRUCTIONS: the first of them
pub instrs_over : {f : Function} {own rest : List Definition} {whole : Defined → Checked Defined} {ns : List InstrNode} → ns ≡ [] → Rest f own whole rest (define_results ns) → Defines f (ok tt) own whole
unfolding define_results
instrs_over e R = over (rw e at R)

module _ {f : Function} {own ds : List Definition} {whole : Defined → Checked Defined} {ns ms : List InstrNode} (es : List Definition) (q : ℕ) (n : InstrNode)
    (d : ds ≡ result_definition q n.result n.instr ++ es) (e : ns ≡ n ∷ ms) (R : Rest f own whole ds (define_results ns)) where
  from_instr : Rest f own whole (result_definition q n.result n.instr ++ es) (λ (x : Defined). define_result n.instr n.result x >>= define_results ms)
  unfolding define_results
  from_instr = rw (d, e) at R

  pub result_failed : {x : ℕ × VerifyError} → Defines f (err x) (result_definition q n.result n.instr) (define_result n.instr n.result) → Defines f (err x) own whole
  result_failed D = first_failed (result_definition q n.result n.instr) es (define_result n.instr n.result) (define_results ms) from_instr D

  pub result_passed : Defines f (ok tt) (result_definition q n.result n.instr) (define_result n.instr n.result) → Rest f own whole es (define_results ms)
  result_passed D = first_passed (result_definition q n.result n.instr) es (define_result n.instr n.result) (define_results ms) from_instr (result_grows n.instr q n.result) D

-- BLOCKS: the first of them
pub blocks_over : {f : Function} {own rest : List Definition} {whole : Defined → Checked Defined} {bs : List BasicBlock} → bs ≡ [] → Rest f own whole rest (define_blocks bs) → Defines f (ok tt) own whole
unfolding define_blocks
blocks_over e R = over (rw e at R)

module _ {f : Function} {own ds : List Definition} {whole : Defined → Checked Defined} {bs cs : List BasicBlock} (es : List Definition) (b : Block)
    (d : ds ≡ block_definitions_of b ++ es) (e : bs ≡ block_in b ∷ cs) (R : Rest f own whole ds (define_blocks bs)) where
  from_block : Rest f own whole (block_definitions_of b ++ es) (λ (x : Defined). define_results (block_in b).instrs x >>= define_blocks cs)
  unfolding define_blocks
  from_block = rw (d, e) at R

  pub block_failed : {x : ℕ × VerifyError} → Defines f (err x) (block_definitions_of b) (define_results (block_in b).instrs) → Defines f (err x) own whole
  block_failed D = first_failed (block_definitions_of b) es (define_results (block_in b).instrs) (define_blocks cs) from_block D

  pub block_passed : Defines f (ok tt) (block_definitions_of b) (define_results (block_in b).instrs) → Rest f own whole es (define_blocks cs)
  block_passed D =
      first_passed (block_definitions_of b) es (define_results (block_in b).instrs) (define_blocks cs) from_block
      (block_grows (suc (b.stop - (b.at + records_at))) (omega arith) (block_records b)) D

-- the kind of an instruction, by its number
pub kind_is : (i : Instr) → record_kind i.sheet.now i.at ≡ kind_of (instr_in i)
kind_is i = sym ((instr_to i).place.kind_is i.stop)

-- The second pass: what is left of a block and of a function's blocks; a function from its two passes, a program from its functions. Assumes nothing.
use mathlib.Core.Path.{◌≡◌, refl, ap, sym, ◌∙◌}
use mathlib.Core.List.{List, [], ◌∷◌, append-nil}
use mathlib.Core.Option.{Option, none, some}
use Prim.Native.Nat.{ℕ, suc, ◌+◌, ◌-◌}
use native.Mathlib.Omega.{arith}
use lib.ListN.{length}
use Rattle.definitions.specs.Result.{err, ok, ◌>>=◌, ◌>>◌, ok_or_else, map_err, Done}
use Rattle.definitions.specs.Ir.{Instruction, Terminator, InstrNode, BasicBlock, IrFunction}
use Rattle.definitions.specs.Records.{read_records}
use Rattle.definitions.specs.Verify.{VerifyError, Checked, Defined, define_params, define_blocks, verify_instrs, verify_block, verify_blocks, verify_function, verify_functions}
use Rattle.program_nodes.specs.Offsets.{first_param_at}
use Rattle.program_nodes.specs.Definitions.{Definition, blocks_definitions}
use Rattle.program_nodes.specs.Nodes.{ir_of, ids_of_all, block_in, params_of, definitions_of}
use Rattle.program_nodes.specs.declared.program.Program.{Program}
use Rattle.program_nodes.specs.declared.program.Function.{Function}
use Rattle.program_nodes.specs.declared.block.Block.{Block}
use Rattle.program_nodes.proofs.Facts.{function_is}
use Rattle.verify_state.specs.Errors.{Outcome, in_function}
use Rattle.verify_state.specs.Promises.{SameTable, Says, Checks}
use Rattle.verify_define.specs.Promises.{DefinesBlocks, DefinesParams}
use Rattle.verify_refs.specs.Promises.{instr_check, term_check}
use Rattle.verify.specs.Promises.{block_check, blocks_check}
use Rattle.verify_state.proofs.Steps.{failed, passed, mapped, Leads, lead_failed, lead_passed}
use Rattle.verify_define.proofs.Tables.{nothing_same, params_grow, blocks_grow}

-- A BLOCK with the instructions ns and the terminator t left
abbrev pub block_left : Function → (id : ℕ) → List InstrNode → Option Terminator → Defined → Checked Done
block_left f id ns t ds =
    verify_instrs ns ds (ids_of_all f.program) (length (ir_of f).locals) >> (ok_or_else t (VerifyError.MissingTerminator id) >>= λ (u : Terminator). term_check f u ds)

pub whole_block : {f : Function} (b : Block) {ns : List InstrNode} {t : Option Terminator} → ns ≡ (block_in b).instrs → t ≡ (block_in b).terminator → Leads f (block_check f b) (block_left f (block_in b).id ns t)
unfolding verify_block
whole_block b e g = rw (e, g) (record { same = λ ds S. refl })

regroup : {A B C : Type 0} (n : ℕ) (a : Checked A) (b : Checked B) (c : Checked C) → in_function n (a >> (b >> c)) ≡ in_function n ((a >> b) >> c)
regroup n (err x) b c = refl
regroup n (ok a) b c = refl

module _ {A : Type 0} {f : Function} {whole : Defined → Checked A} (id : ℕ) {ns : List InstrNode} {t : Option Terminator} (L : Leads f whole (block_left f id ns t)) where
  module _ (n : InstrNode) (ms : List InstrNode) {u : Option Terminator} (e : ns ≡ n ∷ ms) (g : t ≡ u) where
    from_instr : Leads f whole (λ (ds : Defined). instr_check f n.instr ds >> block_left f id ms u ds)
    unfolding verify_instrs
    from_instr = record { same = λ ds S. regroup f.name.0 (instr_check f n.instr ds) _ _ ∙ (rw (e, g) at (L.same ds S)) }

    pub instr_failed : {x : ℕ × VerifyError} {i : Instruction} → i ≡ n.instr → Checks f (err x) (instr_check f i) → Checks f (err x) whole
    instr_failed z h = lead_failed (instr_check f n.instr) (block_left f id ms u) from_instr (rw z at h)

    pub instr_passed : {i : Instruction} → i ≡ n.instr → Checks f (ok tt) (instr_check f i) → Leads f whole (block_left f id ms u)
    instr_passed z h = lead_passed (instr_check f n.instr) (block_left f id ms u) from_instr (rw z at h)

  pub terminator_says : {r : Outcome} {u v : Terminator} → ns ≡ [] → t ≡ some u → v ≡ u → Checks f r (term_check f v) → Checks f r whole
  unfolding verify_instrs
  terminator_says e g z h = record { says = λ ds S. (rw z at (h.says ds S)) ∙ (rw (e, g) at (L.same ds S)) }

  pub missing : {i : ℕ} → i ≡ id → ns ≡ [] → t ≡ none → Checks f (err (f.name.0, VerifyError.MissingTerminator i)) whole
  unfolding verify_instrs
  missing z e g = record { says = λ ds S. rw (← z, e, g) at (L.same ds S) }

-- THE BLOCKS bs
abbrev pub blocks_left : Function → List BasicBlock → Defined → Checked Done
blocks_left f bs ds = verify_blocks bs (ir_of f) ds (ids_of_all f.program)

pub whole_blocks : (f : Function) {bs : List BasicBlock} → bs ≡ (ir_of f).blocks → Leads f (blocks_check f) (blocks_left f bs)
whole_blocks f e = rw e (record { same = λ ds S. refl })

module _ {A : Type 0} {f : Function} {whole : Defined → Checked A} {bs : List BasicBlock} (L : Leads f whole (blocks_left f bs)) where
  module _ (b : Block) (cs : List BasicBlock) (e : bs ≡ block_in b ∷ cs) where
    from_block : Leads f whole (λ (ds : Defined). block_check f b ds >> blocks_left f cs ds)
    unfolding verify_blocks
    from_block = record { same = λ ds S. rw e at (L.same ds S) }

    pub block_failed : {x : ℕ × VerifyError} → Checks f (err x) (block_check f b) → Checks f (err x) whole
    block_failed h = lead_failed (block_check f b) (blocks_left f cs) from_block h

    pub block_passed : Checks f (ok tt) (block_check f b) → Leads f whole (blocks_left f cs)
    block_passed h = lead_passed (block_check f b) (blocks_left f cs) from_block h

  pub blocks_over : bs ≡ [] → Checks f (ok tt) whole
  unfolding verify_blocks
  blocks_over e = record { says = λ ds S. rw e at (L.same ds S) }

-- A FUNCTION: its parameters, its results, its references
module _ (f : Function) where
  abbrev own : List Definition
  own = blocks_definitions (read_records f.program.sheet.now f.first f.stop)

  params_say : {r : Outcome} → DefinesParams f r → Says f r (define_params (ir_of f).params [])
  unfolding definitions_of
  params_say D = D.says [] [] own nothing_same refl

  pub params_failed : {x : ℕ × VerifyError} → DefinesParams f (err x) → Says f (err x) (verify_function (ir_of f) (ids_of_all f.program))
  unfolding verify_function
  params_failed D = failed f.name.0 (define_params (ir_of f).params []) _ (params_say D)

  module _ (P : DefinesParams f (ok tt)) where
    params : (ds : Defined) × (define_params (ir_of f).params [] ≡ ok ds)
    params = passed f.name.0 (define_params (ir_of f).params []) (params_say P)

    params_same : SameTable params.0 (params_of f)
    params_same = params_grow (ir_of f).params (f.at + first_param_at) [] params.0 [] nothing_same params.1

    blocks_say : {r : Outcome} → DefinesBlocks f r → Says f r (define_blocks (ir_of f).blocks params.0)
    unfolding definitions_of
    blocks_say D = D.says params.0 (params_of f) [] params_same (rw append-nil refl)

    pub blocks_failed : {x : ℕ × VerifyError} → DefinesBlocks f (err x) → Says f (err x) (verify_function (ir_of f) (ids_of_all f.program))
    unfolding verify_function
    blocks_failed {x} D =
        let e : err x ≡ in_function f.name.0 (define_blocks (ir_of f).blocks params.0 >>= blocks_check f) = failed f.name.0 (define_blocks (ir_of f).blocks params.0) (blocks_check f) (blocks_say D) in
        e ∙ sym (ap (λ (r : Checked Defined). in_function f.name.0 (r >>= λ (ds : Defined). define_blocks (ir_of f).blocks ds >>= blocks_check f)) params.1)

    pub function_says : {r : Outcome} → DefinesBlocks f (ok tt) → Checks f r (blocks_check f) → Says f r (verify_function (ir_of f) (ids_of_all f.program))
    unfolding verify_function definitions_of
    function_says {r} D h =
        let b = passed f.name.0 (define_blocks (ir_of f).blocks params.0) (blocks_say D) in
        let S : SameTable b.0 (definitions_of f) = blocks_grow (suc (f.stop - f.first)) (omega arith) (function_is f).blocks params.0 b.0 (params_of f) params_same b.1 in
        h.says b.0 S
        ∙ sym (ap (λ (r : Checked Defined). in_function f.name.0 (r >>= λ (ds : Defined). define_blocks (ir_of f).blocks ds >>= blocks_check f)) params.1
        ∙ ap (λ (r : Checked Defined). in_function f.name.0 (r >>= blocks_check f)) b.1)

-- THE FUNCTIONS fs, of which f is the first
stops : {x : ℕ × VerifyError} (r k : Outcome) → err x ≡ r → err x ≡ (r >> k)
stops (err y) k e = e
stops (ok a) k e = cc

goes_past : (r k : Outcome) → ok tt ≡ r → (r >> k) ≡ k
goes_past (err y) k e = cc
goes_past (ok a) k e = refl

module _ (f : Function) (p : Program) {fs gs : List IrFunction} (e : fs ≡ ir_of f ∷ gs) (s : f.program.sheet.now ≡ p.sheet.now) {goal : Outcome} (L : verify_functions fs (ids_of_all p) ≡ goal) where
  same_ids : ids_of_all f.program ≡ ids_of_all p
  same_ids = rw s

  this_function : Outcome
  this_function = map_err (λ (x : VerifyError). ((ir_of f).name, x)) (verify_function (ir_of f) (ids_of_all p))

  unrolled : (this_function >> verify_functions gs (ids_of_all p)) ≡ goal
  unfolding verify_functions this_function
  unrolled = rw e at L

  this_says : {r : Outcome} → Says f r (verify_function (ir_of f) (ids_of_all f.program)) → r ≡ this_function
  unfolding this_function
  this_says h = (rw same_ids at h) ∙ (ap (λ (n : ℕ). in_function n (verify_function (ir_of f) (ids_of_all p))) (function_is f).name_is ∙ sym (mapped (ir_of f).name (verify_function (ir_of f) (ids_of_all p))))

  pub function_failed : {x : ℕ × VerifyError} → Says f (err x) (verify_function (ir_of f) (ids_of_all f.program)) → err x ≡ goal
  function_failed h = stops this_function (verify_functions gs (ids_of_all p)) (this_says h) ∙ unrolled

  pub function_passed : Says f (ok tt) (verify_function (ir_of f) (ids_of_all f.program)) → verify_functions gs (ids_of_all p) ≡ goal
  function_passed h = sym (goes_past this_function (verify_functions gs (ids_of_all p)) (this_says h)) ∙ unrolled

pub functions_over : {fs : List IrFunction} (ids : List ℕ) {goal : Outcome} → fs ≡ [] → verify_functions fs ids ≡ goal → ok tt ≡ goal
unfolding verify_functions
functions_over ids e L = rw e at L

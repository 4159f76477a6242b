-- Programs whose numbers fit: their sheet has the form, and reads back. Assumes nothing.
use mathlib.Core.Path.{◌≡◌, refl, ap, ◌∙◌}
use mathlib.Core.List.{List, [], ◌∷◌, map, append-nil}
use mathlib.Core.Option.{Option, none, some}
use Prim.Native.Nat.{ℕ, suc, ◌<◌, ◌≤◌, ◌^◌}
use native.Mathlib.Nat.{sub-zero}
use native.Mathlib.Omega.{arith}
use lib.Dec.{lit<}
use lib.ListN.{length, length-map}
use Rattle.definitions.specs.Grammar.{number, Class, Entry, Pattern, done, ir_type, listed, many, one, optional, origin, perhaps, rows, single, up_to, value_and_type}
use Rattle.definitions.specs.Ir.{BasicBlock, InstrNode, Instruction, IrFunction, IrProgram, IrType, Terminator}
use Rattle.definitions.specs.ProgramSheet.{block_tree, function_name_tree, ir_function_tree, instr_tree, no_origin, opt_term_tree, param_item, program_of, program_tree, read_program, refusal40, values_of, write_program}
use Rattle.definitions.specs.Records.{Good, Item, Tree, Trees, after, check_records, item, left, may_end, opt, read_records, rest, row_in, size_of, small, tcons, tnil, trees_of, ty, word, write_tree}
use Rattle.definitions.proofs.Sheets.Fits.{FitItem, fit_small, fit_none, fit_some, fit_raw, fit_type, fit_param, FitItems, no_item, and_item, FitValue, fit_one, fit_group, FitValues, no_value, and_value, last_rest, FitTree, fit_node, FitTrees, no_tree, and_tree}
use Rattle.definitions.specs.All.{All, anil, acons}
use Rattle.definitions.proofs.Programs.Fits.{Id, FitsType, FitsOpt, FitsInstr, FitsTerm, FitsNode, FitsBlock, FitsFunction, Fits}
use Rattle.definitions.proofs.Fields.{whole}
use Rattle.definitions.proofs.Sheets.Trees.{placed_tree, TreesOk, trees_law}
use Rattle.definitions.proofs.Programs.Back.{fields_of, kind_fits, row_is, placed_back}

id_item : {n : ℕ} → n < 65535 → FitItem (up_to 65534) (small n)
id_item {n} h =
    let a : n ≤ 65534 = omega arith in
    let b : n < 65536 = omega arith in
    fit_small a b

id_v : {n : ℕ} → n < 65535 → FitValue (single (up_to 65534)) (item (small n))
id_v h = fit_one (id_item h)

ty_v : {t : IrType} → FitsType t → FitValue (single ir_type) (item (ty t))
ty_v h = fit_one (fit_type h)

raw_v : {w n : ℕ} → n < 256 ^ w → FitValue (single (number w)) (item (word w n))
raw_v h = fit_one (fit_raw h)

origin_v : FitValue origin no_origin
origin_v = raw_v (lit< tt)

opt_v : (o : Option ℕ) → FitsOpt o → FitValue (single optional) (item (opt o))
opt_v none h = fit_one fit_none
opt_v (some n) h = fit_one (fit_some h)

all_items : {A : Type 0} {P : A → Type 0} (e : Entry) (f : A → Item) → ((a : A) → P a → FitItem e (f a)) → {l : List A} → All P l → FitItems e (map f l)
all_items e f g anil = no_item
all_items e f g (acons {a} p ps) = and_item (g a p) (all_items e f g ps)

rest_v : {l : List ℕ} → All Id l → FitValues (listed (up_to 65534) ∷ []) (rest (map small l) ∷ []) tnil
unfolding size_of
rest_v h = last_rest (lit< tt) (all_items (up_to 65534) small (λ n p. id_item p) h)

values_fit : (i : Instruction) (r : Option ℕ) → FitsOpt r → FitsInstr i → FitValues (fields_of i) (item (opt r) ∷ values_of i) tnil
values_fit (Instruction.Const t v) r o h = and_value (opt_v r o) (and_value (ty_v h.0) (and_value (raw_v h.1) no_value))
values_fit (Instruction.Binary op t a b) r o h = and_value (opt_v r o) (and_value (ty_v h.0) (and_value (id_v h.1) (and_value (id_v h.2) no_value)))
values_fit (Instruction.Load t b f) r o h = and_value (opt_v r o) (and_value (ty_v h.0) (and_value (id_v h.1) (and_value (raw_v h.2) no_value)))
values_fit (Instruction.Store b f v) r o h = and_value (opt_v r o) (and_value (id_v h.0) (and_value (raw_v h.1) (and_value (id_v h.2) no_value)))
values_fit (Instruction.StateRead t s) r o h = and_value (opt_v r o) (and_value (ty_v h.0) (and_value (raw_v h.1) no_value))
values_fit (Instruction.StateWrite s v) r o h = and_value (opt_v r o) (and_value (raw_v h.0) (and_value (id_v h.1) no_value))
values_fit (Instruction.ReadLocal l t) r o h = and_value (opt_v r o) (and_value (id_v h.0) (and_value (ty_v h.1) no_value))
values_fit (Instruction.WriteLocal l v) r o h = and_value (opt_v r o) (and_value (id_v h.0) (and_value (id_v h.1) no_value))
values_fit (Instruction.Call f a t) r o h = and_value (opt_v r o) (and_value (id_v h.0) (and_value (ty_v h.2) (rest_v h.1)))
values_fit (Instruction.Assert c) r o h = and_value (opt_v r o) (and_value (id_v h) no_value)
values_fit (Instruction.Poseidon a b) r o h = and_value (opt_v r o) (and_value (id_v h.0) (and_value (id_v h.1) no_value))
values_fit (Instruction.Emit e a) r o h = and_value (opt_v r o) (and_value (id_v h.0) (rest_v h.1))
values_fit (Instruction.ContextRead k) r o h = let b : k < 65536 = omega arith in and_value (opt_v r o) (and_value (fit_one (fit_small h b)) no_value)

node_fits : (n : InstrNode) → FitsNode n → FitTree Class.instruction (instr_tree n)
unfolding may_end
node_fits n h = fit_node (row_is n.instr) (kind_fits n.instr) (and_value origin_v (values_fit n.instr n.result h.result h.instr)) (no_tree refl)

-- a list of records under a pattern: q before the first, q' after it
trees_fit : {A : Type 0} {P : A → Type 0} (c : Class) (t : A → Tree) (q q' : Pattern) → after q c ≡ left q' → after q' c ≡ left q' → ((a : A) → P a → FitTree c (t a))
    → {l : List A} {ts : Trees} → All P l → FitTrees q ts → FitTrees q' ts → FitTrees q (trees_of t l ts)
trees_fit c t q q' e e' f anil u u' = u
trees_fit c t q q' e e' f (acons {a} p ps) u u' = and_tree e (f a p) (trees_fit c t q' q' e' e' f ps u' u')

abbrev in_block : Pattern
in_block = many Class.instruction (perhaps Class.terminator done)

term_fits : (o : Option Terminator) → FitsTerm o → FitTrees in_block (opt_term_tree o)
unfolding after may_end rows row_in
term_fits none h = no_tree refl
term_fits (some (Terminator.Jump b)) h = and_tree refl (fit_node refl (lit< tt) (and_value origin_v (and_value (id_v h) no_value)) (no_tree refl)) (no_tree refl)
term_fits (some (Terminator.Branch c a b)) h = and_tree refl (fit_node refl (lit< tt) (and_value origin_v (and_value (id_v h.0) (and_value (id_v h.1) (and_value (id_v h.2) no_value)))) (no_tree refl)) (no_tree refl)
term_fits (some (Terminator.Return v)) h = and_tree refl (fit_node refl (lit< tt) (and_value origin_v (and_value (opt_v v h) no_value)) (no_tree refl)) (no_tree refl)
term_fits (some Terminator.Unreachable) h = and_tree refl (fit_node refl (lit< tt) (and_value origin_v no_value) (no_tree refl)) (no_tree refl)

block_fits : (b : BasicBlock) → FitsBlock b → FitTree Class.basic_block (block_tree b)
unfolding after rows row_in
block_fits b h =
    let t : FitTrees in_block (opt_term_tree b.terminator) = term_fits b.terminator h.terminator in
    fit_node refl (lit< tt) (and_value (id_v h.id) no_value) (trees_fit Class.instruction instr_tree in_block in_block refl refl node_fits h.instrs t t)

function_fits : (f : IrFunction) → FitsFunction f → FitTree Class.ir_function (ir_function_tree f)
unfolding after may_end rows row_in
function_fits f h =
    let ps : FitItems value_and_type (map param_item f.params) = all_items value_and_type param_item (λ p k. fit_param k.0 k.1) h.params in
    let ls : FitItems ir_type (map ty f.locals) = all_items ir_type ty (λ t k. fit_type k) h.locals in
    let np : length (map param_item f.params) < 65536 = rw length-map h.param_count in
    let nl : length (map ty f.locals) < 65536 = rw length-map h.local_count in
    fit_node refl (lit< tt)
    (and_value (id_v h.id) (and_value (id_v h.name) (and_value (ty_v h.ret_ty) (and_value (fit_group np ps) (and_value (fit_group nl ls) no_value)))))
    (trees_fit Class.basic_block block_tree (many Class.basic_block done) (many Class.basic_block done) refl refl block_fits h.blocks (no_tree refl) (no_tree refl))

naming_fits : (n : ℕ × ℕ) → Id n.0 × Id n.1 → FitTree Class.function_name (function_name_tree n)
unfolding after may_end rows row_in
naming_fits n h = fit_node refl (lit< tt) (and_value (id_v h.0) (and_value (id_v h.1) no_value)) (no_tree refl)

program_fits : (p : IrProgram) → Fits p → FitTrees (one Class.program done) (tcons (program_tree p) tnil)
unfolding after may_end rows row_in
program_fits p h =
    let fs : Pattern = many Class.ir_function (many Class.function_name done) in
    let ns : FitTrees (many Class.ir_function (many Class.function_name done)) (trees_of function_name_tree p.function_names tnil) =
    trees_fit Class.function_name function_name_tree (many Class.ir_function (many Class.function_name done)) (many Class.function_name done) refl refl naming_fits h.function_names (no_tree refl) (no_tree refl) in
    and_tree refl (fit_node refl (lit< tt) no_value
    (trees_fit Class.ir_function ir_function_tree (many Class.ir_function (many Class.function_name done)) (many Class.ir_function (many Class.function_name done)) refl refl function_fits h.functions ns ns)) (no_tree refl)

-- FORM AND ROUND TRIP
sheet_ok : (p : IrProgram) → Fits p → TreesOk (suc (length (write_program p))) (one Class.program done) (tcons (placed_tree 0 (program_tree p)) tnil) (write_program p) 0 (length (write_program p))
unfolding write_program write_tree placed_tree
sheet_ok p h = trees_law (program_fits p h) (suc (length (write_program p))) h.long (rw append-nil (whole (write_program p))) (rw append-nil (omega arith)) (omega arith)

pub form : (p : IrProgram) → Fits p → refusal40 (write_program p) ≡ Good
unfolding refusal40 check_records
form p h = rw sub-zero (sheet_ok p h).form

pub round_trip : (p : IrProgram) → Fits p → read_program (write_program p) ≡ p
unfolding read_program read_records
round_trip p h =
    let q : read_records (write_program p) 0 (length (write_program p)) ≡ tcons (placed_tree 0 (program_tree p)) tnil = rw sub-zero (sheet_ok p h).is in
    ap program_of q ∙ placed_back 0 p

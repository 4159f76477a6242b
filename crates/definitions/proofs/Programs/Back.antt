-- A program's tree gives the program back, at whatever place it is read. Assumes nothing.
use mathlib.Core.Path.{◌≡◌, refl, ap, ap₂, ◌∙◌}
use mathlib.Core.Bool.{true, false}
use mathlib.Core.List.{List, [], ◌∷◌, ◌++◌, map, append-nil}
use mathlib.Core.Option.{Option, none, some}
use Prim.Native.Nat.{ℕ, ◌+◌, ◌<◌}
use lib.Dec.{leb, ltb, T, lit<}
use lib.ListN.{length}
use Rattle.definitions.specs.Ast.{BinOp}
use Rattle.definitions.specs.Grammar.{Class, number, Field, done, ir_type, listed, optional, origin, rows, single, up_to}
use Rattle.definitions.specs.InstrTable.{kind_of}
use Rattle.definitions.specs.Ir.{BasicBlock, InstrNode, Instruction, IrFunction, IrProgram, Terminator}
use Rattle.definitions.specs.ProgramSheet.{ir_params_at, types_at, block_of, block_tree, first_of, function_name_of, function_name_tree, ir_function_of, ir_function_tree, instr_node_of, instr_of, instr_tree, opt_term_tree, param_item, program_of, program_tree, term_of, values_of}
use Rattle.definitions.specs.Records.{pick, write_tree, write_values, num_at, type_at, Tree, Trees, gather, item, kind_in, node, opt, row, row_in, small, tcons, tnil, trees_of, ty}
use Rattle.definitions.proofs.Sheets.Trees.{placed_tree, placed_trees}

map_back : {A B : Type 0} (f : A → B) (g : B → A) → ((a : A) → g (f a) ≡ a) → (l : List A) → map g (map f l) ≡ l
map_back f g h [] = refl
map_back f g h (a ∷ l) = ap₂ ◌∷◌ (h a) (map_back f g h l)

-- children of the kinds asked for, and others
gather_all : {A : Type 0} (lo hi : ℕ) (f : Tree → A) (t : A → Tree) → ((a : A) → leb lo (kind_in (t a)) ≡ true) → ((a : A) → leb (kind_in (t a)) hi ≡ true)
    → ((a : A) → f (t a) ≡ a) → (l : List A) (ts : Trees) → gather lo hi f (trees_of t l ts) ≡ l ++ gather lo hi f ts
gather_all lo hi f t u v w [] ts = refl
gather_all lo hi f t u v w (a ∷ l) ts = rw (u a, v a) (ap₂ ◌∷◌ (w a) (gather_all lo hi f t u v w l ts))

gather_below : {A B : Type 0} (lo hi : ℕ) (f : Tree → A) (t : B → Tree) → ((b : B) → leb lo (kind_in (t b)) ≡ false) → (l : List B) (ts : Trees) → gather lo hi f (trees_of t l ts) ≡ gather lo hi f ts
gather_below lo hi f t u [] ts = refl
gather_below lo hi f t u (b ∷ l) ts = rw (u b) (gather_below lo hi f t u l ts)

gather_above : {A B : Type 0} (lo hi : ℕ) (f : Tree → A) (t : B → Tree) → ((b : B) → leb lo (kind_in (t b)) ≡ true) → ((b : B) → leb (kind_in (t b)) hi ≡ false) → (l : List B) (ts : Trees) → gather lo hi f (trees_of t l ts) ≡ gather lo hi f ts
gather_above lo hi f t u v [] ts = refl
gather_above lo hi f t u v (b ∷ l) ts = rw (u b, v b) (gather_above lo hi f t u v l ts)

-- what a row of the table has after the origin
abbrev pub fields_of : Instruction → List Field
fields_of (Instruction.Const t v) = single optional ∷ single ir_type ∷ single (number 8) ∷ []
fields_of (Instruction.Binary op t a b) = single optional ∷ single ir_type ∷ single (up_to 65534) ∷ single (up_to 65534) ∷ []
fields_of (Instruction.Load t b o) = single optional ∷ single ir_type ∷ single (up_to 65534) ∷ single (number 8) ∷ []
fields_of (Instruction.Store b o v) = single optional ∷ single (up_to 65534) ∷ single (number 8) ∷ single (up_to 65534) ∷ []
fields_of (Instruction.StateRead t s) = single optional ∷ single ir_type ∷ single (number 4) ∷ []
fields_of (Instruction.StateWrite s v) = single optional ∷ single (number 4) ∷ single (up_to 65534) ∷ []
fields_of (Instruction.ReadLocal l t) = single optional ∷ single (up_to 65534) ∷ single ir_type ∷ []
fields_of (Instruction.WriteLocal l v) = single optional ∷ single (up_to 65534) ∷ single (up_to 65534) ∷ []
fields_of (Instruction.Call f a t) = single optional ∷ single (up_to 65534) ∷ single ir_type ∷ listed (up_to 65534) ∷ []
fields_of (Instruction.Assert c) = single optional ∷ single (up_to 65534) ∷ []
fields_of (Instruction.Poseidon a b) = single optional ∷ single (up_to 65534) ∷ single (up_to 65534) ∷ []
fields_of (Instruction.Emit e a) = single optional ∷ single (up_to 65534) ∷ listed (up_to 65534) ∷ []
fields_of (Instruction.ContextRead k) = single optional ∷ single (up_to 2) ∷ []

-- the one walk over the 22 kinds: where the kind lies, its row, and the instruction read back from its values
pub data KindOk (i : Instruction) : Type 0 where
  is_kind_ok : leb 60 (kind_of i) ≡ true → leb (kind_of i) 81 ≡ true → leb 90 (kind_of i) ≡ false → T (ltb (kind_of i) 65536)
      → row_in (kind_of i) rows ≡ row Class.instruction (origin ∷ fields_of i) done → ((r : Option ℕ) → instr_of (kind_of i) (item (opt r) ∷ values_of i) ≡ i) → KindOk i

pub kind_ok : (i : Instruction) → KindOk i
unfolding row_in rows
kind_ok (Instruction.Const t v) = is_kind_ok refl refl refl tt refl (λ r. refl)
kind_ok (Instruction.Binary BinOp.Add t a b) = is_kind_ok refl refl refl tt refl (λ r. refl)
kind_ok (Instruction.Binary BinOp.Sub t a b) = is_kind_ok refl refl refl tt refl (λ r. refl)
kind_ok (Instruction.Binary BinOp.Mul t a b) = is_kind_ok refl refl refl tt refl (λ r. refl)
kind_ok (Instruction.Binary BinOp.Div t a b) = is_kind_ok refl refl refl tt refl (λ r. refl)
kind_ok (Instruction.Binary BinOp.Eq t a b) = is_kind_ok refl refl refl tt refl (λ r. refl)
kind_ok (Instruction.Binary BinOp.Neq t a b) = is_kind_ok refl refl refl tt refl (λ r. refl)
kind_ok (Instruction.Binary BinOp.Lt t a b) = is_kind_ok refl refl refl tt refl (λ r. refl)
kind_ok (Instruction.Binary BinOp.Gt t a b) = is_kind_ok refl refl refl tt refl (λ r. refl)
kind_ok (Instruction.Binary BinOp.Lte t a b) = is_kind_ok refl refl refl tt refl (λ r. refl)
kind_ok (Instruction.Binary BinOp.Gte t a b) = is_kind_ok refl refl refl tt refl (λ r. refl)
kind_ok (Instruction.Load t b o) = is_kind_ok refl refl refl tt refl (λ r. refl)
kind_ok (Instruction.Store b o v) = is_kind_ok refl refl refl tt refl (λ r. refl)
kind_ok (Instruction.StateRead t s) = is_kind_ok refl refl refl tt refl (λ r. refl)
kind_ok (Instruction.StateWrite s v) = is_kind_ok refl refl refl tt refl (λ r. refl)
kind_ok (Instruction.ReadLocal l t) = is_kind_ok refl refl refl tt refl (λ r. refl)
kind_ok (Instruction.WriteLocal l v) = is_kind_ok refl refl refl tt refl (λ r. refl)
kind_ok (Instruction.Call f a t) = is_kind_ok refl refl refl tt refl (λ r. ap (λ (x : List ℕ). Instruction.Call f x t) (map_back small _ (λ n. refl) a))
kind_ok (Instruction.Assert c) = is_kind_ok refl refl refl tt refl (λ r. refl)
kind_ok (Instruction.Poseidon a b) = is_kind_ok refl refl refl tt refl (λ r. refl)
kind_ok (Instruction.Emit e a) = is_kind_ok refl refl refl tt refl (λ r. ap (Instruction.Emit e) (map_back small _ (λ n. refl) a))
kind_ok (Instruction.ContextRead k) = is_kind_ok refl refl refl tt refl (λ r. refl)

pub low : (i : Instruction) → leb 60 (kind_of i) ≡ true
low i = elim (kind_ok i) [ is_kind_ok a b c d e f ↦ a ]

pub high : (i : Instruction) → leb (kind_of i) 81 ≡ true
high i = elim (kind_ok i) [ is_kind_ok a b c d e f ↦ b ]

pub no_term : (i : Instruction) → leb 90 (kind_of i) ≡ false
no_term i = elim (kind_ok i) [ is_kind_ok a b c d e f ↦ c ]

pub kind_fits : (i : Instruction) → kind_of i < 65536
kind_fits i = elim (kind_ok i) [ is_kind_ok a b c d e f ↦ lit< d ]

pub row_is : (i : Instruction) → row_in (kind_of i) rows ≡ row Class.instruction (origin ∷ fields_of i) done
row_is i = elim (kind_ok i) [ is_kind_ok a b c d e f ↦ e ]

pub instr_back : (r : Option ℕ) (i : Instruction) → instr_of (kind_of i) (item (opt r) ∷ values_of i) ≡ i
instr_back r i = elim (kind_ok i) [ is_kind_ok a b c d e f ↦ f r ]

node_back : (n : InstrNode) → instr_node_of (instr_tree n) ≡ n
node_back n = λ i. record { result = n.result; instr = instr_back n.result n.instr i }

term_back : (o : Option Terminator) → first_of (gather 90 93 term_of (opt_term_tree o)) ≡ o
term_back none = refl
term_back (some (Terminator.Jump b)) = refl
term_back (some (Terminator.Branch c a b)) = refl
term_back (some (Terminator.Return v)) = refl
term_back (some Terminator.Unreachable) = refl

no_instr : (o : Option Terminator) → gather 60 81 instr_node_of (opt_term_tree o) ≡ []
no_instr none = refl
no_instr (some (Terminator.Jump b)) = refl
no_instr (some (Terminator.Branch c a b)) = refl
no_instr (some (Terminator.Return v)) = refl
no_instr (some Terminator.Unreachable) = refl

block_back : (b : BasicBlock) → block_of (block_tree b) ≡ b
block_back b =
    let p : gather 60 81 instr_node_of (trees_of instr_tree b.instrs (opt_term_tree b.terminator)) ≡ b.instrs =
    gather_all 60 81 instr_node_of instr_tree (λ n. low n.instr) (λ n. high n.instr) node_back b.instrs _ ∙ rw (no_instr b.terminator) (append-nil _) in
    let q : first_of (gather 90 93 term_of (trees_of instr_tree b.instrs (opt_term_tree b.terminator))) ≡ b.terminator =
    ap first_of (gather_below 90 93 term_of instr_tree (λ n. no_term n.instr) b.instrs _) ∙ term_back b.terminator in
    λ i. record { id = b.id; instrs = p i; terminator = q i }

function_back : (f : IrFunction) → ir_function_of (ir_function_tree f) ≡ f
function_back f =
    let p : gather 53 53 block_of (trees_of block_tree f.blocks tnil) ≡ f.blocks =
    gather_all 53 53 block_of block_tree (λ b. refl) (λ b. refl) block_back f.blocks tnil ∙ append-nil _ in
    let a : map _ (map param_item f.params) ≡ f.params = map_back param_item _ (λ x. refl) f.params in
    let l : map _ (map ty f.locals) ≡ f.locals = map_back ty _ (λ x. refl) f.locals in
    λ i. record { id = f.id; name = f.name; params = a i; ret_ty = f.ret_ty; blocks = p i; locals = l i }

pub program_back : (p : IrProgram) → program_of (tcons (program_tree p) tnil) ≡ p
program_back p =
    let fs : gather 51 51 ir_function_of (trees_of ir_function_tree p.functions (trees_of function_name_tree p.function_names tnil)) ≡ p.functions =
    gather_all 51 51 ir_function_of ir_function_tree (λ f. refl) (λ f. refl) function_back p.functions _
    ∙ ap (λ (x : List IrFunction). p.functions ++ x) (gather_above 51 51 ir_function_of function_name_tree (λ n. refl) (λ n. refl) p.function_names tnil) ∙ append-nil _ in
    let ns : gather 52 52 function_name_of (trees_of ir_function_tree p.functions (trees_of function_name_tree p.function_names tnil)) ≡ p.function_names =
    gather_below 52 52 function_name_of ir_function_tree (λ f. refl) p.functions _
    ∙ gather_all 52 52 function_name_of function_name_tree (λ n. refl) (λ n. refl) (λ n. refl) p.function_names tnil ∙ append-nil _ in
    λ i. record { functions = fs i; function_names = ns i }

-- PLACES do not matter to a program
forget : {A : Type 0} (lo hi : ℕ) (f : Tree → A) → ((at : ℕ) (t : Tree) → f (placed_tree at t) ≡ f t) → (at : ℕ) (ts : Trees) → gather lo hi f (placed_trees at ts) ≡ gather lo hi f ts
unfolding placed_tree
forget lo hi f h at tnil = refl
forget {A} lo hi f h at (tcons (node p k vs ts) us) =
    ap₂ (λ (x : A) (y : List A). pick (leb lo k) (pick (leb k hi) (x ∷ y) y) y) (h at (node p k vs ts)) (forget lo hi f h (at + length (write_tree (node p k vs ts))) us)

instr_forget : (at : ℕ) (t : Tree) → instr_node_of (placed_tree at t) ≡ instr_node_of t
unfolding placed_tree
instr_forget at (node p k vs ts) = refl

term_forget : (at : ℕ) (t : Tree) → term_of (placed_tree at t) ≡ term_of t
unfolding placed_tree
term_forget at (node p k vs ts) = refl

name_forget : (at : ℕ) (t : Tree) → function_name_of (placed_tree at t) ≡ function_name_of t
unfolding placed_tree
name_forget at (node p k vs ts) = refl

block_forget : (at : ℕ) (t : Tree) → block_of (placed_tree at t) ≡ block_of t
unfolding placed_tree
block_forget at (node p k vs ts) = λ i. record { id = num_at 0 vs; instrs = forget 60 81 instr_node_of instr_forget (at + 6 + length (write_values vs)) ts i; terminator = first_of (forget 90 93 term_of term_forget (at + 6 + length (write_values vs)) ts i) }

function_forget : (at : ℕ) (t : Tree) → ir_function_of (placed_tree at t) ≡ ir_function_of t
unfolding placed_tree
function_forget at (node p k vs ts) = λ i. record { id = num_at 0 vs; name = num_at 1 vs; params = ir_params_at 3 vs; ret_ty = type_at 2 vs; blocks = forget 53 53 block_of block_forget (at + 6 + length (write_values vs)) ts i; locals = types_at 4 vs }

program_forget : (at : ℕ) (t : Tree) → program_of (tcons (placed_tree at t) tnil) ≡ program_of (tcons t tnil)
unfolding placed_tree
program_forget at (node p k vs ts) = λ i. record { functions = forget 51 51 ir_function_of function_forget (at + 6 + length (write_values vs)) ts i; function_names = forget 52 52 function_name_of name_forget (at + 6 + length (write_values vs)) ts i }

pub placed_back : (at : ℕ) (p : IrProgram) → program_of (tcons (placed_tree at (program_tree p)) tnil) ≡ p
placed_back at p = program_forget at (program_tree p) ∙ program_back p

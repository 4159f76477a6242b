-- NOTHING IS OVERLOOKED: a program sheet that passes refusal 40 is the writing of the program that is read from it. Assumes nothing.
use mathlib.Core.Path.{◌≡◌, refl, ap, ap₂, sym, ◌∙◌}
use mathlib.Core.Bool.{true, false}
use mathlib.Core.List.{List, [], ◌∷◌, ◌++◌, map, append-nil}
use Prim.Native.Nat.{ℕ}
use native.Mathlib.Omega.{arith}
use lib.Dec.{leb}
use lib.ListN.{length}
use Rattle.definitions.specs.Grammar.{Class, up_to, ir_type, value_and_type, single, counted, Field, Pattern, done, one, perhaps, many, origin, rows}
use Rattle.definitions.specs.Ir.{Instruction, Terminator}
use Rattle.definitions.specs.Records.{Item, small, ty, number_of, type_of, Tree, node, Trees, tnil, tcons, write_record, write_tree, write_trees, write_values, read_records, kind_in, gather, trees_of}
use Rattle.definitions.specs.ProgramSheet.{no_origin, instr_tree, term_tree, opt_term_tree, block_tree, param_item, ir_function_tree, function_name_tree, program_tree, write_program, instr_node_of, term_of, first_of, block_of, ir_function_of, function_name_of, program_of, read_program, refusal40, NothingOverlookedInPrograms}
use Rattle.definitions.proofs.Sheets.Fits.{FitItems, fit_raw, fit_one}
use Rattle.definitions.proofs.Sheets.Reads.{hcons}
use Rattle.definitions.proofs.Sheets.Lines.{OfRows, Given, by_lines, Follows, over, next, skip, take, end, more}
use Rattle.definitions.proofs.Sheets.Again.{Shaped, shaped, items_back, Step, follow, written}
use Rattle.definitions.proofs.Programs.Back.{low, high, no_term}

-- a record that is written has place 0: a tree without its places, which are not written
unfoldable mutual
  bare_tree : Tree → Tree
  bare_tree (node at k v ts) = node 0 k v (bare_trees ts)

  bare_trees : Trees → Trees
  bare_trees tnil = tnil
  bare_trees (tcons t ts) = tcons (bare_tree t) (bare_trees ts)

mutual
  unfolding bare_tree write_tree

  bare_written : (t : Tree) → write_tree (bare_tree t) ≡ write_tree t
  bare_written (node at k v ts) = ap (λ (b : List ℕ). write_record k (write_values v ++ b)) (bares_written ts)

  bares_written : (ts : Trees) → write_trees (bare_trees ts) ≡ write_trees ts
  bares_written tnil = refl
  bares_written (tcons t ts) = ap₂ ◌++◌ (bare_written t) (bares_written ts)

-- THE AIM: the tree of what is read from a record of a class is that record without its places
unfoldable again : Class → Tree → Tree
again Class.program t = program_tree (program_of (tcons t tnil))
again Class.ir_function t = ir_function_tree (ir_function_of t)
again Class.function_name t = function_name_tree (function_name_of t)
again Class.basic_block t = block_tree (block_of t)
again Class.instruction t = instr_tree (instr_node_of t)
again Class.terminator t = term_tree (term_of t)
-- not on this sheet
again Class.contract t = bare_tree t
again Class.storage t = bare_tree t
again Class.struct t = bare_tree t
again Class.function t = bare_tree t
again Class.block t = bare_tree t
again Class.field_init t = bare_tree t
again Class.statement t = bare_tree t
again Class.expression t = bare_tree t

abbrev Back : Class → Tree → Type 0
Back c t = again c t ≡ bare_tree t

abbrev Remade : Class → ℕ → List Field → Pattern → Type 0
Remade = Step Back

kind_is : (c : Class) (t : Tree) → Back c t → kind_in t ≡ kind_in (again c t)
unfolding bare_tree
kind_is c (node at k v ts) e = sym (ap kind_in e)

-- lists of entries
ids_back : {m : ℕ} {is : List Item} → FitItems (up_to m) is → map small (map number_of is) ≡ is
ids_back {m} h = items_back (up_to m) small number_of (λ n. refl) h

params_back : {is : List Item} → FitItems value_and_type is → map param_item (map (λ (x : Item). (number_of x, type_of x)) is) ≡ is
params_back h = items_back value_and_type param_item (λ (x : Item). (number_of x, type_of x)) (λ v t. refl) h

types_back : {is : List Item} → FitItems ir_type is → map ty (map type_of is) ≡ is
types_back h = items_back ir_type ty type_of (λ t. refl) h

-- a record of kind k without children, whatever its fields hold
leaf : (c : Class) (k : ℕ) {fs : List Field} → ((at : ℕ) → Shaped fs (λ v. Back c (node at k v tnil))) → Remade c k fs done
leaf c k g at v _ h over = shaped (λ w. Back c (node at k w tnil)) h (g at)

-- INSTRUCTIONS AND TERMINATORS, whatever their own fields hold
own : (c : Class) (k : ℕ) {fs : List Field} → ((at : ℕ) → Shaped fs (λ v. Back c (node at k (no_origin ∷ v) tnil))) → Remade c k (origin ∷ fs) done
own c k g at v _ (hcons (fit_one (fit_raw {n = n} l)) h) over = let z : n ≡ 0 = omega arith in rw z (shaped (λ w. Back c (node at k (no_origin ∷ w) tnil)) h (g at))

instr_rows : OfRows Remade Class.instruction rows
unfolding again bare_tree Given rows
instr_rows =
    let I : Class = Class.instruction in
    by_lines Remade I rows
    (own I 60 (λ at r t n. refl))  -- Const
    (own I 61 (λ at r t a b. refl))  -- Add
    (own I 62 (λ at r t a b. refl))  -- Sub
    (own I 63 (λ at r t a b. refl))  -- Mul
    (own I 64 (λ at r t a b. refl))  -- Div
    (own I 65 (λ at r t a b. refl))  -- IrEq
    (own I 66 (λ at r t a b. refl))  -- IrNe
    (own I 67 (λ at r t a b. refl))  -- Lt
    (own I 68 (λ at r t a b. refl))  -- Le
    (own I 69 (λ at r t a b. refl))  -- Gt
    (own I 70 (λ at r t a b. refl))  -- Ge
    (own I 71 (λ at r t b o. refl))  -- Load
    (own I 72 (λ at r b o v. refl))  -- Store
    (own I 73 (λ at r t s. refl))  -- StateRead
    (own I 74 (λ at r s v. refl))  -- StateWrite
    (own I 75 (λ at r l t. refl))  -- ReadLocal
    (own I 76 (λ at r l v. refl))  -- WriteLocal
    (own I 77 (λ at r f t as' h. rw (ids_back h)))  -- Call
    (own I 78 (λ at r c. refl))  -- Assert
    (own I 79 (λ at r a b. refl))  -- Poseidon
    (own I 80 (λ at r e as' h. rw (ids_back h)))  -- Emit
    (own I 81 (λ at r k. refl))  -- ContextRead

term_rows : OfRows Remade Class.terminator rows
unfolding again bare_tree Given rows
term_rows =
    let T : Class = Class.terminator in
    by_lines Remade T rows
    (own T 90 (λ at b. refl))  -- Jump
    (own T 91 (λ at c a b. refl))  -- Branch
    (own T 92 (λ at v. refl))  -- Return
    (own T 93 (λ at. refl))  -- Unreachable

term_kind : (t : Terminator) → (leb 60 (kind_in (term_tree t)) ≡ true) × (leb (kind_in (term_tree t)) 81 ≡ false) × (leb 90 (kind_in (term_tree t)) ≡ true) × (leb (kind_in (term_tree t)) 93 ≡ true)
term_kind (Terminator.Jump b) = (refl, refl, refl, refl)
term_kind (Terminator.Branch c a b) = (refl, refl, refl, refl)
term_kind (Terminator.Return v) = (refl, refl, refl, refl)
term_kind Terminator.Unreachable = (refl, refl, refl, refl)

-- BLOCKS: instructions, then at most one terminator
block_back : {ts : Trees} → Follows Back (many Class.instruction (perhaps Class.terminator done)) ts
    → trees_of instr_tree (gather 60 81 instr_node_of ts) (opt_term_tree (first_of (gather 90 93 term_of ts))) ≡ bare_trees ts
unfolding again bare_tree
block_back (end (skip over)) = refl
block_back (end (take {t = t} e over)) =
    let k = term_kind (term_of t) in
    rw (kind_is Class.terminator t e, k.0, k.1, k.2, k.3) (ap (λ (u : Tree). tcons u tnil) e)
block_back (more {t = t} e r) =
    let i : Instruction = (instr_node_of t).instr in
    rw (kind_is Class.instruction t e, low i, high i, no_term i) (ap₂ tcons e (block_back r))

block_row : Remade Class.basic_block 53 (single (up_to 65534) ∷ []) (many Class.instruction (perhaps Class.terminator done))
unfolding again bare_tree
block_row at v ts h f = shaped (λ w. Back Class.basic_block (node at 53 w ts)) h (λ n. rw (block_back f))

-- FUNCTIONS, THEIR NAMES, THE PROGRAM
blocks_back : {ts : Trees} → Follows Back (many Class.basic_block done) ts → trees_of block_tree (gather 53 53 block_of ts) tnil ≡ bare_trees ts
unfolding again bare_tree
blocks_back (end over) = refl
blocks_back (more {t = t} e r) = rw (kind_is Class.basic_block t e) (ap₂ tcons e (blocks_back r))

function_row : Remade Class.ir_function 51 (single (up_to 65534) ∷ single (up_to 65534) ∷ single ir_type ∷ counted value_and_type ∷ counted ir_type ∷ []) (many Class.basic_block done)
unfolding again bare_tree
function_row at v ts h f = shaped (λ w. Back Class.ir_function (node at 51 w ts)) h (λ i n t ps p ls l. rw (params_back p, types_back l, blocks_back f))

names_back : {ts : Trees} → Follows Back (many Class.function_name done) ts → (gather 51 51 ir_function_of ts ≡ []) × (trees_of function_name_tree (gather 52 52 function_name_of ts) tnil ≡ bare_trees ts)
unfolding again bare_tree
names_back (end over) = (refl, refl)
names_back (more {t = t} e r) =
    let k : kind_in t ≡ 52 = kind_is Class.function_name t e in
    let b = names_back r in
    (rw k b.0, rw k (ap₂ tcons e b.1))

functions_back : {ts : Trees} → Follows Back (many Class.ir_function (many Class.function_name done)) ts
    → trees_of ir_function_tree (gather 51 51 ir_function_of ts) (trees_of function_name_tree (gather 52 52 function_name_of ts) tnil) ≡ bare_trees ts
unfolding again bare_tree
functions_back (end r) = let b = names_back r in rw b.0 b.1
functions_back (more {t = t} e r) = rw (kind_is Class.ir_function t e) (ap₂ tcons e (functions_back r))

program_row : Remade Class.program 50 [] (many Class.ir_function (many Class.function_name done))
unfolding again bare_tree
program_row at v ts h f = shaped (λ w. Back Class.program (node at 50 w ts)) h (rw (functions_back f))

-- EVERY RECORD
remade : (c : Class) → OfRows Remade c rows
unfolding again bare_tree Given rows
remade Class.program = by_lines Remade Class.program rows program_row
remade Class.ir_function = by_lines Remade Class.ir_function rows function_row
remade Class.function_name = by_lines Remade Class.function_name rows (leaf Class.function_name 52 (λ at n i. refl))
remade Class.basic_block = by_lines Remade Class.basic_block rows block_row
remade Class.instruction = instr_rows
remade Class.terminator = term_rows
remade Class.contract = λ k fs p r at v ts h f. refl
remade Class.storage = λ k fs p r at v ts h f. refl
remade Class.struct = λ k fs p r at v ts h f. refl
remade Class.function = λ k fs p r at v ts h f. refl
remade Class.block = λ k fs p r at v ts h f. refl
remade Class.field_init = λ k fs p r at v ts h f. refl
remade Class.statement = λ k fs p r at v ts h f. refl
remade Class.expression = λ k fs p r at v ts h f. refl

-- THE SHEET
sheet_back : {ts : Trees} → Follows Back (one Class.program done) ts → tcons (program_tree (program_of ts)) tnil ≡ bare_trees ts
unfolding again bare_tree
sheet_back (next {t = node at k v ts} e over) = ap (λ (t : Tree). tcons t tnil) e

pub nothing_overlooked : NothingOverlookedInPrograms
unfolding refusal40 read_program write_program write_tree
nothing_overlooked s h e =
    let q : Pattern = one Class.program done in
    let ts : Trees = read_records s 0 (length s) in
    let c : tcons (program_tree (program_of ts)) tnil ≡ bare_trees ts = sheet_back (follow Back remade s q h e) in
    sym (append-nil _) ∙ ap write_trees c ∙ bares_written ts ∙ written s q h e

-- NOTHING IS OVERLOOKED: a contract sheet that passes refusal 3 is the writing of the contract that is read from it. Assumes nothing.
use mathlib.Core.Path.{◌≡◌, refl, ap, ap₂, sym, ◌∙◌}
use mathlib.Core.List.{List, [], ◌∷◌, map, append-nil}
use Prim.Native.Nat.{ℕ, ◌≤◌}
use native.Mathlib.Omega.{arith}
use lib.Dec.{eqb}
use lib.ListN.{length}
use borrow.Author.Tests.{eqb-true, eqb-false}
use Rattle.definitions.specs.Grammar.{Class, up_to, optional, name_and_type, single, counted, listed, Pattern, done, one, many, rows}
use Rattle.definitions.specs.Records.{pick, Item, opt, Tree, Trees, tnil, tcons, write_tree, write_trees, read_records, opt_of, kind_in, gather, trees_of}
use Rattle.definitions.specs.ContractSheet.{expr_of, param_of, param_pair, storage_of, storage_tree, struct_of, struct_tree, function_of, function_tree, contract_of, contract_tree, read_contract, write_contract, refusal3, NothingOverlooked}
use Rattle.definitions.proofs.Sheets.Fits.{FitItem, fit_small, fit_none, fit_some, FitItems, fit_one, fit_group}
use Rattle.definitions.proofs.Sheets.Passed.{picked}
use Rattle.definitions.proofs.Sheets.Reads.{hnil, hcons, hrest}
use Rattle.definitions.proofs.Sheets.Lines.{OfRows, Given, by_lines, Follows, over, next, end, more}
use Rattle.definitions.proofs.Sheets.Again.{items_back, follow, written}
use Rattle.definitions.proofs.Contracts.Back.{again, Back, Remade, named, expr_rows, stmts_back, stmt_rows}

-- BLOCKS AND FIELDS OF A LITERAL
block_row : Remade Class.block 5 [] (many Class.statement done)
unfolding again
block_row at _ ts hnil f = rw (stmts_back f)

init_row : Remade Class.field_init 6 (single (up_to 65534) ∷ []) (one Class.expression done)
unfolding again expr_of
init_row at _ _ (hcons (fit_one (fit_small l m)) hnil) (next e over) = rw e

-- STORAGE FIELDS, STRUCTS AND FUNCTIONS
storage_row : Remade Class.storage 2 (single (up_to 65534) ∷ single (up_to 65534) ∷ []) done
unfolding again
storage_row at _ _ (hcons (fit_one (fit_small l m)) (hcons (fit_one (fit_small i j)) hnil)) over = refl

pairs_back : {is : List Item} → FitItems name_and_type is → map param_pair (map param_of is) ≡ is
pairs_back h = items_back name_and_type param_pair param_of (λ a b. refl) h

struct_row : Remade Class.struct 3 (single (up_to 65534) ∷ listed name_and_type ∷ []) done
unfolding again
struct_row at _ _ (hcons (fit_one (fit_small l m)) (hrest g hnil)) over = rw (pairs_back g)
struct_row at _ _ (hcons (fit_one (fit_small l m)) (hcons x _)) _ = elim x [ ]

opt_back : {i : Item} → FitItem optional i → opt (opt_of i) ≡ i
opt_back fit_none = refl
opt_back (fit_some l) = refl

flag_back : (n : ℕ) → n ≤ 1 → pick (eqb n 1) 1 0 ≡ n
flag_back n l = picked (λ (x : ℕ). x ≡ n) (eqb n 1) 1 0 (λ q. sym (eqb-true n 1 q)) (λ q. omega (arith, eqb-false n 1 q))

function_row : Remade Class.function 4 (single (up_to 65534) ∷ single optional ∷ single (up_to 1) ∷ counted name_and_type ∷ []) (many Class.statement done)
unfolding again function_tree function_of
function_row at _ ts (hcons (fit_one (fit_small l m)) (hcons (fit_one o) (hcons (fit_one (fit_small {n = n} i j)) (hcons (fit_group _ g) hnil)))) f =
    rw (opt_back o, flag_back n i, pairs_back g, stmts_back f)

-- THE CONTRACT: its children of each kind, one kind after the other
functions_back : {ts : Trees} → Follows Back (many Class.function done) ts
    → (gather 2 2 storage_of ts ≡ []) × (gather 3 3 struct_of ts ≡ []) × (trees_of function_tree (gather 4 4 function_of ts) tnil ≡ ts)
unfolding again function_tree
functions_back (end over) = (refl, refl, refl)
functions_back (more {t = t} e r) =
    let k : kind_in t ≡ 4 = ap kind_in (sym e) in
    let b = functions_back r in
    (rw k b.0, rw k b.1, rw k (ap₂ tcons e b.2))

structs_back : {ts : Trees} → Follows Back (many Class.struct (many Class.function done)) ts
    → (gather 2 2 storage_of ts ≡ []) × (trees_of struct_tree (gather 3 3 struct_of ts) (trees_of function_tree (gather 4 4 function_of ts) tnil) ≡ ts)
unfolding again
structs_back (end r) = let b = functions_back r in (b.0, rw b.1 b.2)
structs_back (more {t = t} e r) =
    let k : kind_in t ≡ 3 = ap kind_in (sym e) in
    let b = structs_back r in
    (rw k b.0, rw k (ap₂ tcons e b.1))

fields_back : {ts : Trees} → Follows Back (many Class.storage (many Class.struct (many Class.function done))) ts
    → trees_of storage_tree (gather 2 2 storage_of ts) (trees_of struct_tree (gather 3 3 struct_of ts) (trees_of function_tree (gather 4 4 function_of ts) tnil)) ≡ ts
unfolding again
fields_back (end r) = let b = structs_back r in rw b.0 b.1
fields_back (more {t = t} e r) =
    let k : kind_in t ≡ 2 = ap kind_in (sym e) in
    rw k (ap₂ tcons e (fields_back r))

contract_row : Remade Class.contract 1 (single (up_to 65534) ∷ []) (many Class.storage (many Class.struct (many Class.function done)))
unfolding again contract_tree contract_of
contract_row = named Class.contract (λ at n ts l f. rw (fields_back f))

-- EVERY RECORD
remade : (c : Class) → OfRows Remade c rows
unfolding again Given rows
remade Class.contract = by_lines Remade Class.contract rows contract_row
remade Class.storage = by_lines Remade Class.storage rows storage_row
remade Class.struct = by_lines Remade Class.struct rows struct_row
remade Class.function = by_lines Remade Class.function rows function_row
remade Class.block = by_lines Remade Class.block rows block_row
remade Class.field_init = by_lines Remade Class.field_init rows init_row
remade Class.statement = stmt_rows
remade Class.expression = expr_rows
remade Class.program = λ k fs p r at v ts h f. refl
remade Class.ir_function = λ k fs p r at v ts h f. refl
remade Class.function_name = λ k fs p r at v ts h f. refl
remade Class.basic_block = λ k fs p r at v ts h f. refl
remade Class.instruction = λ k fs p r at v ts h f. refl
remade Class.terminator = λ k fs p r at v ts h f. refl

-- THE SHEET
sheet_back : {ts : Trees} → Follows Back (one Class.contract done) ts → tcons (contract_tree (contract_of ts)) tnil ≡ ts
unfolding again
sheet_back (next e over) = ap (λ (t : Tree). tcons t tnil) e

pub nothing_overlooked : NothingOverlooked
unfolding refusal3 read_contract write_contract write_tree
nothing_overlooked s h e =
    let q : Pattern = one Class.contract done in
    let ts : Trees = read_records s 0 (length s) in
    let c : tcons (contract_tree (contract_of ts)) tnil ≡ ts = sheet_back (follow Back remade s q h e) in
    sym (append-nil _) ∙ ap write_trees c ∙ written s q h e

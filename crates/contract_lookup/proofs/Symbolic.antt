-- From the record that was found to the answer: a slot, a struct, a signature. Assumes nothing.
use mathlib.Core.Path.{◌≡◌, refl, ap}
use mathlib.Core.Option.{Option, none, some}
use mathlib.Core.List.{List}
use Prim.Native.Nat.{ℕ}
use Rattle.definitions.specs.Ast.{StorageField, Struct, Function, Contract}
use Rattle.definitions.specs.Ir as defs
use Rattle.definitions.specs.Records.{Tree, node}
use Rattle.definitions.specs.ContractSheet.{storage_of, struct_of, function_of, read_contract}
use Rattle.definitions.specs.Lower.{storage_named, struct_named}
use Rattle.definitions.specs.Sema as sema
use Rattle.sheet.specs.Passed.{ContractPassed}
use Rattle.contract_nodes.proofs.Tops.{contract_at}
use Rattle.ir.specs.Answers.{option_of}
use Rattle.std.specs.Prelude.{Option as Maybe, None, Some}
use Rattle.contract_lookup.specs.Answers.{found_in, stored_at, slot_at, tree_name, slot_named, id_named, last_of}
use Rattle.contract_lookup.proofs.Lasts.{over_second, in_table}

-- the names of the three tables
storage_name : (t : Tree) → (storage_of t).name ≡ tree_name t
storage_name (node at k v ts) = refl

struct_name : (t : Tree) → (struct_of t).name ≡ tree_name t
struct_name (node at k v ts) = refl

function_name_lem : (t : Tree) → (function_of t).name ≡ tree_name t
unfolding function_of
function_name_lem (node at k v ts) = refl

-- what was found among the records of a kind, in its table
module _ {s : List ℕ} (n : ℕ) (C : ContractPassed s) {r : Option (ℕ × Tree)} where
  storage_is : r ≡ last_of s 2 n → over_second storage_of r ≡ storage_named (read_contract s) n
  storage_is = in_table 2 n storage_of (λ (f : StorageField). f.name) C storage_name (contract_at C).storage

  pub struct_is : r ≡ last_of s 3 n → over_second struct_of r ≡ struct_named (read_contract s) n
  struct_is = in_table 3 n struct_of (λ (f : Struct). f.name) C struct_name (contract_at C).structs

  pub function_is : r ≡ last_of s 4 n → over_second function_of r ≡ sema.function_named (read_contract s) n
  function_is = in_table 4 n function_of (λ (f : Function). f.name) C function_name_lem (contract_at C).functions

-- a slot
pub slot_is : {s : List ℕ} (n : ℕ) → ContractPassed s → (p : Maybe ℕ) → found_in s (stored_at p) ≡ last_of s 2 n → option_of slot_at p ≡ slot_named (read_contract s) n
unfolding slot_named
slot_is n C (Some p) q = rw (← storage_is n C q)
slot_is n C None q = rw (← storage_is n C q)

-- a signature
pub named_here : {i : ℕ} {g : Function} {t : defs.IrType} (K : Contract) (n : ℕ) → some (i, g) ≡ sema.function_named K n → t ≡ sema.return_type g.return_type → some (i, t) ≡ id_named K n
unfolding id_named
named_here {i} K n e q = rw (← e) (ap (λ (x : defs.IrType). some (i, x)) q)

pub none_named : (K : Contract) (n : ℕ) → none ≡ sema.function_named K n → none ≡ id_named K n
unfolding id_named
none_named K n e = rw (← e)

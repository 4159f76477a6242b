-- Sheets of records by the rows of `Grammar`: writing a tree of records, checking that bytes are one, reading it back.
-- Refusals 3 and 40 with their place are `check_records` (document 01, "Contract sheet" and the table's row 3).
-- Assumes nothing: these are definitions.
use Rattle.std.specs.Prelude.{ℕ, zero, suc, ◌+◌, ◌-◌, ◌*◌, ◌/◌, ◌%◌, ◌≡◌, Bool, true, false, ◌&&◌, List, [], ◌∷◌, ◌++◌, leb, eqb, length, get_or}
use Rattle.std.proofs.Math.Option.{Option, none, some}
use Rattle.definitions.specs.Fields.{le, bytes, Bytes}
use Rattle.definitions.specs.Ir.{IrType, tag_of, name_of}
use Rattle.definitions.specs.Grammar.{Entry, up_to, optional, number, ir_type, value_and_type, name_and_type, Field, single, counted, listed, Class, class_no, Pattern, done, one, perhaps, many, Line, kind, rows}

-- `if`
abbrev pub pick {ℓ} : {A : Type ℓ} → Bool → A → A → A
pick true a b = a
pick false a b = b

-- ENTRIES: what an entry holds, one form for each form of `Entry`
pub data Item : Type 0 where
  small : (value : ℕ) → Item
  opt : (value : Option ℕ) → Item
  word : (width value : ℕ) → Item
  ty : IrType → Item
  param : (value : ℕ) → IrType → Item
  pair : (name type : ℕ) → Item

-- A type by its tag and name. The last is tag 4, Void: `ok_type` lets no tag above 4 by, and the type that is read is written back as the tag and
-- name that stood there (`NothingOverlookedInPrograms` of ProgramSheet).
unfoldable pub type_from : (tag name : ℕ) → IrType
type_from t n = pick (eqb t 0) IrType.U64 (pick (eqb t 1) IrType.BoolT (pick (eqb t 2) IrType.FieldT (pick (eqb t 3) (IrType.Struct n) IrType.Void)))

-- a type's name is 0 unless its tag is 3
unfoldable pub ok_type : (tag name : ℕ) → Bool
ok_type t n = pick (eqb t 3) (leb n 65534) (leb t 4 && eqb n 0)

-- 65,535 marks an absent one; the last is any other number (`NothingOverlooked` of ContractSheet, `NothingOverlookedInPrograms` of ProgramSheet)
unfoldable pub opt_from : ℕ → Option ℕ
opt_from n = pick (eqb n 65535) none (some n)

unfoldable pub write_type : IrType → List ℕ
write_type t = bytes 2 (tag_of t) ++ bytes 2 (name_of t)

unfoldable pub write_item : Item → List ℕ
write_item (small n) = bytes 2 n
write_item (opt none) = bytes 2 65535
write_item (opt (some n)) = bytes 2 n
write_item (word w n) = bytes w n
write_item (ty t) = write_type t
write_item (param v t) = bytes 2 v ++ write_type t
write_item (pair a b) = bytes 2 a ++ bytes 2 b

unfoldable pub size_of : Entry → ℕ
size_of (up_to m) = 2
size_of optional = 2
size_of (number n) = n
size_of ir_type = 4
size_of value_and_type = 6
size_of name_and_type = 4

-- the entry at a place is valid
unfoldable pub ok_item : Entry → List ℕ → ℕ → Bool
ok_item (up_to m) s at = leb (le 2 s at) m
ok_item optional s at = true
ok_item (number n) s at = true
ok_item ir_type s at = ok_type (le 2 s at) (le 2 s (at + 2))
ok_item value_and_type s at = leb (le 2 s at) 65534 && ok_type (le 2 s (at + 2)) (le 2 s (at + 2 + 2))
ok_item name_and_type s at = leb (le 2 s at) 65534 && leb (le 2 s (at + 2)) 65534

unfoldable pub read_item : Entry → List ℕ → ℕ → Item
read_item (up_to m) s at = small (le 2 s at)
read_item optional s at = opt (opt_from (le 2 s at))
read_item (number n) s at = word n (le n s at)
read_item ir_type s at = ty (type_from (le 2 s at) (le 2 s (at + 2)))
read_item value_and_type s at = param (le 2 s at) (type_from (le 2 s (at + 2)) (le 2 s (at + 2 + 2)))
read_item name_and_type s at = pair (le 2 s at) (le 2 s (at + 2))

unfoldable pub write_items : List Item → List ℕ
write_items [] = []
write_items (i ∷ is) = write_item i ++ write_items is

unfoldable pub ok_items : Entry → ℕ → List ℕ → ℕ → Bool
ok_items e zero s at = true
ok_items e (suc n) s at = ok_item e s at && ok_items e n s (at + size_of e)

unfoldable pub read_items : Entry → ℕ → List ℕ → ℕ → List Item
read_items e zero s at = []
read_items e (suc n) s at = read_item e s at ∷ read_items e n s (at + size_of e)

-- FIELDS
pub data FieldValue : Type 0 where
  item : Item → FieldValue
  group : List Item → FieldValue
  rest : List Item → FieldValue

abbrev pub u16 : ℕ → FieldValue
u16 n = item (small n)

unfoldable pub write_value : FieldValue → List ℕ
write_value (item i) = write_item i
write_value (group is) = bytes 2 (length is) ++ write_items is
write_value (rest is) = write_items is

-- where a field ends that starts at `at`, in a record that stops at `stop`
unfoldable pub field_end : Field → List ℕ → (stop at : ℕ) → ℕ
field_end (single e) s stop at = at + size_of e
field_end (counted e) s stop at = at + 2 + size_of e * le 2 s at
field_end (listed e) s stop at = stop

-- the record covers the field and ends no list within an entry, and every entry is valid
unfoldable pub ok_field : Field → List ℕ → (stop at : ℕ) → Bool
ok_field (single e) s stop at = leb (size_of e) (stop - at) && ok_item e s at
ok_field (counted e) s stop at = leb 2 (stop - at) && leb (size_of e * le 2 s at) (stop - (at + 2)) && ok_items e (le 2 s at) s (at + 2)
ok_field (listed e) s stop at = eqb ((stop - at) % size_of e) 0 && ok_items e ((stop - at) / size_of e) s at

-- the place after a field; none if the field does not fit or is not valid
unfoldable pub past : Field → List ℕ → (stop at : ℕ) → Option ℕ
past f s stop at = pick (ok_field f s stop at) (some (field_end f s stop at)) none

unfoldable pub read_value : Field → List ℕ → (stop at : ℕ) → FieldValue
read_value (single e) s stop at = item (read_item e s at)
read_value (counted e) s stop at = group (read_items e (le 2 s at) s (at + 2))
read_value (listed e) s stop at = rest (read_items e ((stop - at) / size_of e) s at)

unfoldable pub write_values : List FieldValue → List ℕ
write_values [] = []
write_values (v ∷ vs) = write_value v ++ write_values vs

-- the place after all fields; none if one of them does not fit or is not valid
unfoldable pub past_all : List Field → List ℕ → (stop at : ℕ) → Option ℕ
past_all [] s stop at = some at
past_all (f ∷ fs) s stop at = elim (past f s stop at) [ none ↦ none | some next ↦ past_all fs s stop next ]

-- where all fields end, and what they hold, if they are valid
unfoldable pub fields_end : List Field → List ℕ → (stop at : ℕ) → ℕ
fields_end [] s stop at = at
fields_end (f ∷ fs) s stop at = fields_end fs s stop (field_end f s stop at)

unfoldable pub read_values : List Field → List ℕ → (stop at : ℕ) → List FieldValue
read_values [] s stop at = []
read_values (f ∷ fs) s stop at = read_value f s stop at ∷ read_values fs s stop (field_end f s stop at)

-- ROWS by kind
pub data Row : Type 0 where
  no_row : Row
  row : Class → List Field → Pattern → Row

unfoldable pub row_in : ℕ → List Line → Row
row_in k [] = no_row
row_in k (kind j c f p ∷ es) = pick (eqb k j) (row c f p) (row_in k es)

unfoldable pub row_fields : Row → List Field
row_fields no_row = []
row_fields (row c fs p) = fs

-- CHECKING. What a pattern leaves after a record of a class, if it allows one; and whether it allows the end.
pub data Next : Type 0 where
  refused : Next
  left : Pattern → Next

unfoldable pub after : Pattern → Class → Next
after done c = refused
after (one a p) c = pick (eqb (class_no c) (class_no a)) (left p) refused
after (perhaps a p) c = pick (eqb (class_no c) (class_no a)) (left p) (after p c)
after (many a p) c = pick (eqb (class_no c) (class_no a)) (left (many a p)) (after p c)

unfoldable pub may_end : Pattern → Bool
may_end done = true
may_end (one a p) = false
may_end (perhaps a p) = may_end p
may_end (many a p) = may_end p

-- A record that starts at a place, with allowed kind, fitting length and valid fields: where its children start, where it stops,
-- the pattern of its children, and what the pattern around it leaves.
pub data Start : Type 0 where
  nothing : Start
  starts : (body stop : ℕ) (children rest : Pattern) → Start

unfoldable pub start_if : (body : Option ℕ) (stop : ℕ) → Pattern → Next → Start
start_if body stop p refused = nothing
start_if none stop p (left q) = nothing
start_if (some body) stop p (left q) = starts body stop p q

unfoldable pub start_row : List ℕ → ℕ → ℕ → Pattern → Row → Start
start_row s at stop q no_row = nothing
start_row s at stop q (row c fs p) = start_if (past_all fs s stop (at + 6)) stop p (after q c)

unfoldable pub start_at : List ℕ → ℕ → ℕ → Pattern → Start
start_at s at end q =
    pick (leb 6 (end - at))
    (pick (leb 6 (le 4 s at))
    (pick (leb (le 4 s at) (end - at)) (start_row s at (at + le 4 s at) q (row_in (le 2 s (at + 4)) rows)) nothing)
    nothing)
    nothing

pub data Verdict : Type 0 where
  Good : Verdict
  Bad : (place : ℕ) → Verdict

unfoldable pub and_then : Verdict → Verdict → Verdict
and_then Good a = a
and_then (Bad p) a = Bad p

unfoldable pub check_rest : (ℕ → ℕ → Pattern → Verdict) → ℕ → ℕ → Start → Verdict
check_rest f at end nothing = Bad at
check_rest f at end (starts body stop p q) = and_then (f body stop p) (f stop end q)

-- The records from `at` to `end` follow q, each with its children: first those, then what stands after it. So the first place found
-- bad is the lowest. The first number only bounds the calls: each record takes at least 6 of the `end - at` bytes.
unfoldable pub records_from : ℕ → List ℕ → ℕ → ℕ → Pattern → Verdict
records_from zero s at end q = Bad at
records_from (suc n) s at end q =
    pick (eqb at end) (pick (may_end q) Good (Bad at)) (check_rest (records_from n s) at end (start_at s at end q))

unfoldable pub check_records : List ℕ → ℕ → ℕ → Pattern → Verdict
check_records s at end q = records_from (suc (end - at)) s at end q

-- TREES OF RECORDS: the place at which a record was read, its kind, its fields, its children
mutual
  pub data Tree : Type 0 where
    node : (place kind : ℕ) → List FieldValue → Trees → Tree

  pub data Trees : Type 0 where
    tnil : Trees
    tcons : Tree → Trees → Trees

unfoldable pub write_record : ℕ → List ℕ → List ℕ
write_record k body = bytes 4 (6 + length body) ++ (bytes 2 k ++ body)

unfoldable mutual
  pub write_tree : Tree → List ℕ
  write_tree (node at k vs ts) = write_record k (write_values vs ++ write_trees ts)

  pub write_trees : Trees → List ℕ
  write_trees tnil = []
  write_trees (tcons t ts) = write_tree t ++ write_trees ts

unfoldable pub read_node : (ℕ → ℕ → Trees) → List ℕ → ℕ → ℕ → ℕ → List Field → Tree
read_node f s at stop k fs = node at k (read_values fs s stop (at + 6)) (f (fields_end fs s stop (at + 6)) stop)

-- the records from `at` to `end`; the first number bounds the calls
unfoldable pub trees_from : ℕ → List ℕ → ℕ → ℕ → Trees
trees_from zero s at end = tnil
trees_from (suc n) s at end =
    elim (eqb at end) [
      | true ↦ tnil
      | false ↦
          tcons (read_node (trees_from n s) s at (at + le 4 s at) (le 2 s (at + 4)) (row_fields (row_in (le 2 s (at + 4)) rows)))
          (trees_from n s (at + le 4 s at) end)
    ]

unfoldable pub read_records : List ℕ → ℕ → ℕ → Trees
read_records s at end = trees_from (suc (end - at)) s at end

-- FIELDS OF A NODE, by position. A kind's row fixes the form of each of its fields, so one form is met at a position. What stands for the others (0,
-- Void, none) would be written back as other bytes than were read (`NothingOverlooked`, `NothingOverlookedInPrograms`).
abbrev item_of : FieldValue → Item
item_of (item i) = i
item_of (group is) = small 0
item_of (rest is) = small 0

abbrev items_of : FieldValue → List Item
items_of (item i) = []
items_of (group is) = is
items_of (rest is) = is

abbrev pub number_of : Item → ℕ
number_of (small n) = n
number_of (opt o) = 0
number_of (word w n) = n
number_of (ty t) = 0
number_of (param v t) = v
number_of (pair a b) = a

abbrev pub type_of : Item → IrType
type_of (small n) = IrType.Void
type_of (opt o) = IrType.Void
type_of (word w n) = IrType.Void
type_of (ty t) = t
type_of (param v t) = t
type_of (pair a b) = IrType.Void

abbrev pub opt_of : Item → Option ℕ
opt_of (small n) = none
opt_of (opt o) = o
opt_of (word w n) = none
opt_of (ty t) = none
opt_of (param v t) = none
opt_of (pair a b) = none

abbrev pub item_at : ℕ → List FieldValue → Item
item_at i vs = item_of (get_or vs i (item (small 0)))

abbrev pub items_at : ℕ → List FieldValue → List Item
items_at i vs = items_of (get_or vs i (item (small 0)))

abbrev pub num_at : ℕ → List FieldValue → ℕ
num_at i vs = number_of (item_at i vs)

abbrev pub type_at : ℕ → List FieldValue → IrType
type_at i vs = type_of (item_at i vs)

abbrev pub opt_at : ℕ → List FieldValue → Option ℕ
opt_at i vs = opt_of (item_at i vs)

-- CHILDREN OF A NODE: what f makes of those of the kinds from `lo` to `hi`
abbrev pub kind_in : Tree → ℕ
kind_in (node at k vs ts) = k

abbrev pub gather {ℓ} : {A : Type ℓ} → (lo hi : ℕ) → (Tree → A) → Trees → List A
gather lo hi f tnil = []
gather lo hi f (tcons t ts) = pick (leb lo (kind_in t)) (pick (leb (kind_in t) hi) (f t ∷ gather lo hi f ts) (gather lo hi f ts)) (gather lo hi f ts)

abbrev pub trees_of {ℓ} : {A : Type ℓ} → (A → Tree) → List A → Trees → Trees
trees_of f [] ts = ts
trees_of f (a ∷ more) ts = tcons (f a) (trees_of f more ts)

-- NOTHING IS OVERLOOKED by a way of checking, reading and writing sheets: a sheet that passes is, byte for byte, the writing of what is read
-- from it. `NothingOverlooked` of ContractSheet and `NothingOverlookedInPrograms` of ProgramSheet say so of the two sheets.
abbrev pub ReadsAll : {A : Type 0} → (List ℕ → Verdict) → (List ℕ → A) → (A → List ℕ) → Type 0
ReadsAll check read write = (s : List ℕ) → Bytes s → check s ≡ Good → write (read s) ≡ s

-- One entry and a run of entries: what was written is valid and is read back. Assumes nothing.
use mathlib.Core.Path.{◌≡◌, refl, ap, ap₂}
use mathlib.Core.Bool.{true}
use mathlib.Core.List.{List, ◌∷◌}
use Prim.Native.Nat.{ℕ, ◌+◌, ◌*◌, ◌^◌, ◌<◌}
use native.Mathlib.Nat.{mul-suc, mul-zero}
use native.Mathlib.Omega.{arith}
use lib.Dec.{lit<}
use lib.ListN.{length, length-append}
use borrow.Author.Tests.{le-leb, ne_eqb}
use Rattle.definitions.specs.Fields.{bytes, le}
use Rattle.definitions.specs.Grammar.{Entry}
use Rattle.definitions.specs.Ir.{IrType, name_of, tag_of}
use Rattle.definitions.specs.Records.{Item, ok_item, ok_items, ok_type, opt_from, param, read_item, read_items, size_of, ty, type_from, write_item, write_items, write_type}
use Rattle.definitions.proofs.Sheets.Fits.{FitItem, fit_small, fit_none, fit_some, fit_raw, fit_type, fit_param, fit_pair, FitItems, no_item, and_item}
use Rattle.definitions.proofs.Fields.{Stands, Both, split, le_bytes, length_bytes}

record TypeOk (t : IrType) (s : List ℕ) (at : ℕ) : Type 0 where
  ok : ok_type (le 2 s at) (le 2 s (at + 2)) ≡ true
  is : type_from (le 2 s at) (le 2 s (at + 2)) ≡ t

tag_fits : (t : IrType) → tag_of t < 256 ^ 2
tag_fits IrType.U64 = lit< tt
tag_fits IrType.BoolT = lit< tt
tag_fits IrType.FieldT = lit< tt
tag_fits (IrType.Struct n) = lit< tt
tag_fits IrType.Void = lit< tt

type_ok : (t : IrType) → name_of t < 65535 → ok_type (tag_of t) (name_of t) ≡ true
unfolding ok_type
type_ok IrType.U64 h = refl
type_ok IrType.BoolT h = refl
type_ok IrType.FieldT h = refl
type_ok (IrType.Struct n) h = le-leb n 65534 (omega arith)
type_ok IrType.Void h = refl

type_is : (t : IrType) → type_from (tag_of t) (name_of t) ≡ t
unfolding type_from
type_is IrType.U64 = refl
type_is IrType.BoolT = refl
type_is IrType.FieldT = refl
type_is (IrType.Struct n) = refl
type_is IrType.Void = refl

type_law : {t : IrType} {s : List ℕ} {at : ℕ} → name_of t < 65535 → Stands s at (write_type t) → TypeOk t s at
unfolding write_type bytes
type_law {t} {s} {at} l h =
    let b : Both s at (bytes 2 (tag_of t)) (bytes 2 (name_of t)) = split (bytes 2 (tag_of t)) h in
    let e : le 2 s at ≡ tag_of t = le_bytes 2 (tag_fits t) b.front in
    let m : name_of t < 256 ^ 2 = omega arith in
    let f : le 2 s (at + 2) ≡ name_of t = le_bytes 2 m b.back in
    record { ok = rw (e, f) (type_ok t l); is = rw (e, f) (type_is t) }

-- one entry
pub record ItemOk (e : Entry) (i : Item) (s : List ℕ) (at : ℕ) : Type 0 where
  pub size : length (write_item i) ≡ size_of e
  pub ok : ok_item e s at ≡ true
  pub is : read_item e s at ≡ i

pub item_law : {e : Entry} {i : Item} {s : List ℕ} {at : ℕ} → FitItem e i → Stands s at (write_item i) → ItemOk e i s at
unfolding write_item size_of ok_item read_item write_type bytes opt_from
item_law {s = s} {at = at} (fit_small {m} {n} l k) h =
    let e : le 2 s at ≡ n = le_bytes 2 k h in
    record { size = refl; ok = rw e (le-leb n m l); is = rw e }
item_law {s = s} {at = at} fit_none h =
    let e : le 2 s at ≡ 65535 = le_bytes 2 (lit< tt) h in
    record { size = refl; ok = refl; is = rw e }
item_law {s = s} {at = at} (fit_some {n} l) h =
    let k : n < 256 ^ 2 = omega arith in
    let e : le 2 s at ≡ n = le_bytes 2 k h in
    record { size = refl; ok = refl; is = rw (e, ne_eqb n 65535 (λ z. omega arith)) }
item_law {s = s} {at = at} (fit_raw {w} {n} l) h = record { size = length_bytes w n; ok = refl; is = rw (le_bytes w l h) }
item_law {s = s} {at = at} (fit_type {t} l) h =
    let o : TypeOk t s at = type_law l h in
    record { size = refl; ok = o.ok; is = ap ty o.is }
item_law {s = s} {at = at} (fit_param {v} {t} k l) h =
    let b : Both s at (bytes 2 v) (write_type t) = split (bytes 2 v) h in
    let m : v < 256 ^ 2 = omega arith in
    let e : le 2 s at ≡ v = le_bytes 2 m b.front in
    let o : TypeOk t s (at + 2) = type_law l b.back in
    record { size = refl; ok = rw (e, le-leb v 65534 (omega arith)) o.ok; is = rw e (ap (param v) o.is) }
item_law {s = s} {at = at} (fit_pair {a} {b} k l) h =
    let c : Both s at (bytes 2 a) (bytes 2 b) = split (bytes 2 a) h in
    let m : a < 256 ^ 2 = omega arith in
    let n : b < 256 ^ 2 = omega arith in
    let e : le 2 s at ≡ a = le_bytes 2 m c.front in
    let f : le 2 s (at + 2) ≡ b = le_bytes 2 n c.back in
    record { size = refl; ok = rw (e, f, le-leb a 65534 (omega arith)) (le-leb b 65534 (omega arith)); is = rw (e, f) }

-- entries one after the other
pub record ItemsOk (e : Entry) (is' : List Item) (s : List ℕ) (at : ℕ) : Type 0 where
  pub size : length (write_items is') ≡ size_of e * length is'
  pub ok : ok_items e (length is') s at ≡ true
  pub is : read_items e (length is') s at ≡ is'

pub items_law : {e : Entry} {is' : List Item} {s : List ℕ} {at : ℕ} → FitItems e is' → Stands s at (write_items is') → ItemsOk e is' s at
unfolding write_items ok_items read_items
items_law {e} no_item h = record { size = rw mul-zero; ok = refl; is = refl }
items_law {e} {s = s} {at = at} (and_item {i} {is} f g) h =
    let b : Both s at (write_item i) (write_items is) = split (write_item i) h in
    let o : ItemOk e i s at = item_law f b.front in
    let p : ItemsOk e is s (at + size_of e) = items_law g (rw o.size at b.back) in
    let z : length (write_item i) ≡ size_of e = o.size in
    let y : length (write_items is) ≡ size_of e * length is = p.size in
    record { size = rw (length-append, z, y, mul-suc) (omega arith); ok = rw o.ok p.ok; is = ap₂ ◌∷◌ o.is p.is }

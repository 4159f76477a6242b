-- A type by its tag and name, and its four bytes. Assumes nothing.
use mathlib.Core.Path.{◌≡◌, refl}
use mathlib.Core.List.{◌++◌}
use Prim.Native.Nat.{ℕ, ◌+◌, ◌*◌, ◌/◌, ◌%◌, ◌<◌}
use native.Mathlib.Omega.{arith}
use Rattle.definitions.specs.Fields.{bytes}
use Rattle.definitions.specs.Ir.{tag_of, name_of}
use Rattle.definitions.specs.Records.{write_type}
use Rattle.ir.specs.declared.IrType.{IrType}
use Rattle.ir.specs.Types.{as_type, Coded}

two_and_two : (t n : ℕ) → t < 65536 → bytes 4 (t + 65536 * n) ≡ bytes 2 t ++ bytes 2 n
unfolding bytes
two_and_two t n h =
    let a : (t + 65536 * n) % 256 ≡ t % 256 = omega arith in
    let b : (t + 65536 * n) / 256 ≡ t / 256 + 256 * n = omega arith in
    let d : (t / 256 + 256 * n) % 256 ≡ t / 256 % 256 = omega arith in
    let e : (t / 256 + 256 * n) / 256 ≡ n = omega arith in
    rw (a, b, d, e)

-- the number of a tag and a name, which are written in sixteen bits
pub coded : (t : IrType) {tag name : ℕ} → (tag ≡ tag_of (as_type t)) × (name ≡ name_of (as_type t)) → tag < 65536 → name < 65536 → Coded t (tag + 65536 * name)
unfolding write_type
coded t {tag} {name} (p, q) h k = rw (← p, ← q) (refl, two_and_two tag name h, h, k)

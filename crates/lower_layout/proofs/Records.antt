-- A function's record from its pieces, blocks, parameters and locals: what each is, and that they are the record.
-- Assumes nothing.
use mathlib.Core.Path.{◌≡◌, refl, ap, sym, ◌∙◌}
use mathlib.Core.List.{List, [], ◌∷◌, ◌++◌, map, append_assoc, append-nil}
use Prim.Native.Nat.{ℕ, zero, suc, ◌+◌, ◌-◌, ◌*◌, ◌≤◌}
use native.Mathlib.Nat.{add-zero}
use native.Mathlib.Numerals.{add-one}
use native.Mathlib.Omega.{arith}
use borrow.Author.Tests.{leb-true}
use Rattle.std.specs.Prelude.{Option}
use lib.Dec.{leb}
use lib.Seq.{sets}
use mathlib.Core.Bool.{Bool, true}
use lib.ListN.{length, get_or, take, drop, length-append, length-map}
use Rattle.definitions.specs.Fields.{bytes}
use Rattle.definitions.specs.Ir.{IrType}
use Rattle.definitions.specs.Lower.{parse_ir_type, own_return_type}
use Rattle.definitions.specs.Records.{ty, group, write_type, write_item, write_items, write_value, write_record, write_values}
use Rattle.definitions.specs.ProgramSheet.{param_item}
use Rattle.definitions.specs.Ast as ast
use Rattle.definitions.specs.Ast.{Function}
use Rattle.definitions.proofs.Fields.{length_bytes}
use Rattle.ir.specs.Types.{as_type}
use Rattle.ir.specs.declared.IrType.{IrType as CodeType}
use Rattle.lower_walk.specs.Stmts.{LogCtx}
use Rattle.lower_walk.specs.Layout.{block_bytes, blocks_bytes, param_values, head_bytes, function_bytes}
use Rattle.lower_state.specs.Bytes.{Put}
use Rattle.lower_state.proofs.Appending.{◌then◌}
use Rattle.lower_layout.specs.Laid.{Laid}
use Rattle.lower_layout.specs.Parts.{LaidOrLost, blocks_part, head_of, head_size}
use Rattle.lower_layout.proofs.Storing.{put_length, run, run_more, put_as}

-- BLOCKS
abbrev pub block_at : LogCtx → ℕ → List ℕ
block_at c k = block_bytes c.log.bytes k (get_or c.starts k 0) (get_or c.stops k 0)

blocks_from : (c : LogCtx) (k n : ℕ) → blocks_bytes c.log.bytes c.starts c.stops k n ≡ run (block_at c) k n
unfolding blocks_bytes run
blocks_from c k zero = refl
blocks_from c k (suc n) = ap (λ (x : List ℕ). block_at c k ++ x) (blocks_from c (suc k) n)

pub blocks_run : (c : LogCtx) (n : ℕ) → c.next_block ≡ n → blocks_part c ≡ run (block_at c) 0 n
blocks_run c n e = blocks_from c 0 c.next_block ∙ ap (run (block_at c) 0) e

block_size : (k : ℕ) (x : List ℕ) → 6 + length (bytes 2 k ++ x) ≡ 8 + length x
block_size k x = simp (length-append, length_bytes) (omega arith)

pub block_is : (k : ℕ) (x : List ℕ) → ((bytes 4 (8 + length x) ++ bytes 2 53) ++ bytes 2 k) ++ x ≡ write_record 53 (bytes 2 k ++ x)
unfolding write_record
block_is k x = rw (block_size k x, append_assoc (bytes 4 (8 + length x) ++ bytes 2 53), append_assoc (bytes 4 (8 + length x)))

pub block_length : (k : ℕ) (x : List ℕ) → length (write_record 53 (bytes 2 k ++ x)) ≡ 8 + length x
block_length k x = rw (← block_is k x) (simp (length-append, length_bytes) (omega arith))

-- the block k of a function, whose records are x
pub block_here : (c : LogCtx) (k : ℕ) {x : List ℕ} → x ≡ take (get_or c.stops k 0 - get_or c.starts k 0) (drop (get_or c.starts k 0) c.log.bytes) → write_record 53 (bytes 2 k ++ x) ≡ block_at c k
unfolding block_bytes
block_here c k e = rw e

pub one_block : (c : LogCtx) (k : ℕ) (x : List ℕ) → write_record 53 (bytes 2 k ++ x) ≡ block_at c k → length (run (block_at c) 0 (k + 1)) ≡ length (run (block_at c) 0 k) + (8 + length x)
one_block c k x e =
    ap (λ (n : ℕ). length (run (block_at c) 0 n)) (add-one k) ∙ ap length (run_more (block_at c) k) ∙ length-append (run (block_at c) 0 k) (block_at c k)
    ∙ ap (λ (n : ℕ). length (run (block_at c) 0 k) + n) (ap length (sym e) ∙ block_length k x)

-- PARAMETERS, from the value v on
abbrev pub params_from : (v : ℕ) → List ast.Param → List ℕ
params_from v ps = write_items (map param_item (param_values v ps))

values_length : (v : ℕ) (ps : List ast.Param) → length (map param_item (param_values v ps)) ≡ length ps
unfolding param_values
values_length v [] = refl
values_length v (p ∷ ps) = ap suc (values_length (suc v) ps)

pub params_are : (ps : List ast.Param) → bytes 2 (length ps) ++ params_from 0 ps ≡ write_value (group (map param_item (param_values 0 ps)))
unfolding write_value
params_are ps = rw (values_length 0 ps)

pub type_length : (t : IrType) → length (write_type t) ≡ 4
unfolding write_type
type_length t = simp (length-append, length_bytes)

values_size : (v : ℕ) (ps : List ast.Param) → length (params_from v ps) ≡ 6 * length ps
unfolding write_items write_item param_values
values_size v [] = refl
values_size v (p ∷ ps) = simp (length-append, length_bytes, type_length, values_size (suc v) ps) (omega arith)

pub params_length : (ps : List ast.Param) → length (write_value (group (map param_item (param_values 0 ps)))) ≡ 2 + 6 * length ps
params_length ps = rw (← params_are ps) (simp (length-append, length_bytes, values_size 0 ps))

-- i of them are written at `to`, and those that are left make the whole
pub record Begun (ps left : List ast.Param) (before : List ℕ) (to i : ℕ) (after : List ℕ) : Type 0 where
  pub front : List ℕ
  pub put : Put front before to after (to + 6 * i)
  pub whole : front ++ params_from i left ≡ params_from 0 ps

pub params_none : (ps : List ast.Param) (l : List ℕ) (a : ℕ) → Begun ps ps l a 0 l
params_none ps l a = record { front = []; put = record { is = refl; past = refl }; whole = refl }

pub param_next : {ps qs : List ast.Param} {p : ast.Param} {l m n : List ℕ} {a i : ℕ} → Begun ps (p ∷ qs) l a i m → Put (bytes 2 i ++ write_type (parse_ir_type p.ty)) m (a + 6 * i) n (a + 6 * (i + 1)) → Begun ps qs l a (i + 1) n
unfolding write_items write_item param_values
param_next {ps} {qs} {p} {l} {m} {n} {a} {i} B x =
    record {
      front = B.front ++ (bytes 2 i ++ write_type (parse_ir_type p.ty));
      put = B.put then x;
      whole = ap (λ (v : ℕ). (B.front ++ (bytes 2 i ++ write_type (parse_ir_type p.ty))) ++ params_from v qs) (add-one i) ∙ append_assoc B.front _ _ ∙ B.whole;
    }

pub params_all : {ps : List ast.Param} {l m : List ℕ} {a i n : ℕ} → Begun ps [] l a i m → i + 0 ≡ n → Put (params_from 0 ps) l a m (a + 6 * n)
unfolding write_items param_values
params_all {i = i} B e = rw (← e, add-zero i) (put_as (sym (append-nil B.front) ∙ B.whole) B.put)

-- LOCALS
abbrev pub locals_part : List CodeType → List ℕ
locals_part ts = write_items (map ty (map as_type ts))

pub locals_are : (ts : List CodeType) → bytes 2 (length ts) ++ locals_part ts ≡ write_value (group (map ty (map as_type ts)))
unfolding write_value
locals_are ts = rw (length-map, length-map)

types_size : (ls : List IrType) → length (write_items (map ty ls)) ≡ 4 * length ls
unfolding write_items write_item
types_size [] = refl
types_size (t ∷ ls) = simp (length-append, type_length, types_size ls) (omega arith)

locals_length : (ls : List IrType) → length (write_value (group (map ty ls))) ≡ 2 + 4 * length ls
unfolding write_value
locals_length ls = simp (length-append, length_bytes, types_size ls)

-- THE START
pub head_is : (size i : ℕ) (f : Function) (ls : List IrType)
    → (((((bytes 4 size ++ bytes 2 51) ++ bytes 2 i) ++ bytes 2 f.name) ++ write_type (own_return_type f.return_type)) ++ write_value (group (map param_item (param_values 0 f.params)))) ++ write_value (group (map ty ls)) ≡ head_of size i f ls
unfolding write_values write_value write_item
head_is size i f ls = simp (append_assoc, append-nil)

pub head_length : (size i : ℕ) (f : Function) (ls : List IrType) → length (head_of size i f ls) ≡ head_size f (length ls)
head_length size i f ls = rw (← head_is size i f ls) (simp (length-append, length_bytes, type_length, params_length f.params, locals_length ls) (omega arith))

-- THE WHOLE, and its size as the code adds it up
pub sized : {n b : ℕ} (f : Function) (c : LogCtx) (ts : List CodeType) → n ≡ length f.params → map as_type ts ≡ c.locals → b ≡ length (blocks_part c) → 16 + 6 * n + 2 + 4 * length ts + b ≡ head_size f (length c.locals) + length (blocks_part c)
sized f c ts p e q = omega (arith, p, ap length e, length-map ts as_type, q)

module _ (i : ℕ) (f : Function) (c : LogCtx) where
  whole_bytes : (size : ℕ) → size ≡ head_size f (length c.locals) + length (blocks_part c) → head_of size i f c.locals ++ blocks_part c ≡ function_bytes i f c
  unfolding write_record function_bytes
  whole_bytes size e =
      let h : length (head_of size i f c.locals) ≡ 6 + length (head_bytes i f c.locals) = simp (length-append, length_bytes) (omega arith) in
      let g : 6 + length (head_bytes i f c.locals ++ blocks_part c) ≡ size = omega (arith, h, e, head_length size i f c.locals, length-append (head_bytes i f c.locals) (blocks_part c)) in
      rw (g, append_assoc (bytes 4 size), append_assoc (bytes 2 51))

  pub whole_length : {size : ℕ} → size ≡ head_size f (length c.locals) + length (blocks_part c) → length (function_bytes i f c) ≡ size
  whole_length {size} e = ap length (sym (whole_bytes size e)) ∙ (length-append (head_of size i f c.locals) (blocks_part c) ∙ omega (arith, e, head_length size i f c.locals))

  pub whole_put : {l m n : List ℕ} {a b : ℕ} {size : ℕ} → size ≡ head_size f (length c.locals) + length (blocks_part c) → Put (head_of size i f c.locals) l a m b → n ≡ sets m b (blocks_part c) → Put (function_bytes i f c) l a n (b + length (blocks_part c))
  whole_put {size = size} e p q = put_as (whole_bytes size e) (p then record { is = q; past = refl })

  -- the blocks have room behind the start
  pub blocks_room : {l m : List ℕ} {a b size : ℕ} → size ≡ head_size f (length c.locals) + length (blocks_part c) → Put (head_of size i f c.locals) l a m b → a + size ≤ length l → b + length (blocks_part c) ≤ length m
  blocks_room {size = size} e p h = omega (arith, e, h, p.past, put_length p, head_length size i f c.locals)

  -- a log that is whole is laid down, and not lost
  pub kept : {l m : List ℕ} {a : ℕ} {r : Option ℕ} {t : Bool} → t ≡ leb c.log.at 32768 → t ≡ true → Laid (function_bytes i f c) l a m r → LaidOrLost i f c l a m r
  kept e q x = (λ h. x, λ h. absurd (omega (arith, h, leb-true c.log.at 32768 (sym e ∙ q))))

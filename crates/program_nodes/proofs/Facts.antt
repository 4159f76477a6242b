-- What the nodes' ghost fields say, as the lemmas of this crate have it. Assumes nothing.
use mathlib.Core.Path.{◌≡◌, refl, ap, sym}
use mathlib.Core.Bool.{true, not}
use mathlib.Core.Option.{Option, some}
use Prim.Native.Nat.{ℕ, ◌+◌, ◌≤◌}
use native.Mathlib.Omega.{arith}
use lib.ListN.{length}
use borrow.Author.Tests.{leb-true, eq-eqb, ne_eqb}
use lib.Dec.{eqb}
use Rattle.definitions.proofs.Results.{by_test}
use Rattle.std.specs.Prelude.{Result, Ok, Err, IsErrAnd}
use Rattle.definitions.specs.Fields.{le}
use Rattle.definitions.specs.Records.{Bad, opt_from}
use Rattle.sheet.specs.declared.errors.Malformed.{Malformed}
use Rattle.format.specs.Kinds.{instr_number}
use Rattle.format.specs.declared.kinds.Instruction.{Instruction as InstrKind}
use Rattle.format.specs.declared.kinds.Instruction.TheVariants as instr
use Rattle.program_nodes.specs.Offsets.{records_at, own_at}
use Rattle.definitions.specs.Ir.{IrType, result_type, unless_void}
use Rattle.definitions.specs.InstrTable.{ResultRule, kind_row}
use Rattle.ir.specs.Kinds.{rule_in}
use Rattle.ir.specs.Types.{as_type}
use Rattle.ir.specs.declared.IrType.{IrType as CodeType}
use Rattle.ir.specs.declared.IrType.TheVariants as code
use Rattle.sheet.specs.Forms.{form_of}
use Rattle.program_nodes.specs.Nodes.{instr_in, result_is}
use Rattle.program_nodes.proofs.InstrRows.{own_typed, type_fits}
use Rattle.sheet.specs.Passed.{record_kind}
use Rattle.program_nodes.specs.Positions.{type_here, has_type, type_offset, own_rule, by_rule, term_size, InstrTo, BlockFrom, FunctionHere}
use Rattle.program_nodes.specs.declared.program.Program.{Program}
use Rattle.program_nodes.specs.declared.program.Function.{Function}
use Rattle.program_nodes.specs.declared.block.Block.{Block}
use Rattle.program_nodes.specs.declared.instr.Instr.{Instr}
use Rattle.program_nodes.specs.declared.term.Term.{Term}
use Rattle.sheet.proofs.Standing.{kept}
use Rattle.program_nodes.proofs.Walk.{instr_alone, term_alone}
use Rattle.program_nodes.proofs.FunctionSteps.{function_here_is}

pub function_is : (f : Function) → FunctionHere f.program.sheet.now f.at f.first f.stop f.name.0
function_is f = function_here_is f.here

-- the records of a block, as they passed
pub block_records : (b : Block) → BlockFrom b.sheet.now (b.at + records_at) b.stop
block_records b = kept b.here.0.0

pub instr_to : (i : Instr) → InstrTo i.sheet.now i.at i.stop (record_kind i.sheet.now i.at)
instr_to i = instr_alone (kept i.here.0) i.here.1

pub term_fits : (t : Term) → t.at + term_size (record_kind t.sheet.now t.at) ≤ length t.sheet.now
term_fits t = term_alone (kept t.here.0) t.here.1

pub instr_result_fits : (i : Instr) → i.at + own_at ≤ i.stop
instr_result_fits i = omega (arith, (instr_to i).room)

pub context_low : (i : Instr) {r : InstrKind} → instr_number r ≡ record_kind i.sheet.now i.at → r ≡ instr.ContextRead → le 2 i.sheet.now (i.at + own_at) ≤ 2
context_low i h e = let C = (instr_to i).place.context in leb-true _ _ (C (rw (← h, e) refl))

-- THE TYPE of an instruction's result, by its rule
module _ (i : Instr) {n : ℕ} (h : n ≡ record_kind i.sheet.now i.at) where
  instr_of : InstrTo i.sheet.now i.at i.stop n
  instr_of = rw h (instr_to i)

  pub own_type_fits : has_type n ≡ true → i.at + type_offset n + 4 ≤ i.stop
  own_type_fits t = omega (arith, type_fits n instr_of.place.rules t, instr_of.room)

  module _ {o : Option ResultRule} (e : o ≡ rule_in (kind_row n)) where
    pub has_own_type : own_rule o ≡ true → has_type n ≡ true
    has_own_type t = own_typed n instr_of.place.rules (rw e at t)

    pub type_by_rule : {t : IrType} → t ≡ type_here i.sheet.now (i.at + type_offset n) → by_rule o t ≡ result_type (instr_in i)
    type_by_rule z = rw (e, z, h) (sym ((instr_to i).place.gives i.stop))

-- whether the result is the value v: x stands there, and was read as n
pub gives_same : {n v x : ℕ} → n ≡ x → n ≡ v → not (eqb v 65535) ≡ result_is v (opt_from x)
unfolding opt_from
gives_same {n} {v} e z = rw (← e, z) (by_test (eqb v 65535) (λ q. rw q refl) (λ q. rw (q, eq-eqb v v refl) refl))

pub gives_other : {n v x : ℕ} → n ≡ x → (n ≡ v → ⊥) → eqb n v ≡ result_is v (opt_from x)
unfolding opt_from
gives_other {n} {v} e z = rw (← e, ne_eqb n v z) (by_test (eqb n 65535) (λ q. rw q refl) (λ q. rw (q, ne_eqb n v z) refl))

pub unless : (t : CodeType) → (t ≡ code.Void → ⊥) → unless_void (as_type t) ≡ some (as_type t)
unless code.U64 n = refl
unless code.Bool n = refl
unless code.Field n = refl
unless (code.Struct x) n = refl
unless code.Void n = absurd (n refl)

-- a fault that is handed on
pub fault_of : (r : Result Program Malformed) {x : Malformed} → IsErrAnd r (λ e. e ≡ x) → form_of r ≡ Bad x.0
unfolding form_of
fault_of (Err e) h = ap (λ (m : Malformed). Bad m.0) h
fault_of (Ok p) h = absurd h

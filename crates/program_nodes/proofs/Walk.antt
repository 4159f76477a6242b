-- The walk over the records of a program sheet that passed: those of a block, and blocks. Assumes nothing.
use mathlib.Core.Path.{◌≡◌, refl, ap, ap₂, sym, ◌∙◌, subst}
use mathlib.Core.List.{List, [], ◌∷◌, ◌++◌, map}
use mathlib.Core.Option.{Option, none, some}
use Prim.Native.Nat.{ℕ, ◌+◌, ◌≤◌, ◌<◌}
use native.Mathlib.Omega.{arith}
use lib.Dec.{lit≤}
use lib.ListN.{length}
use borrow.Author.Tests.{le-leb, lt-leb}
use Rattle.definitions.specs.Fields.{le}
use Rattle.definitions.specs.Ir.{Instruction}
use Rattle.definitions.specs.Grammar.{Class, Entry, up_to, optional, Field, single, Pattern, done, one, perhaps, many, origin, rows}
use Rattle.definitions.specs.Records.{FieldValue, opt_from, after, left, may_end, read_item, size_of, fields_end, read_values, node, Trees, tnil, tcons, read_records, gather}
use Rattle.definitions.specs.ProgramSheet.{own_of, terminator_of, instr_node_of, term_of, first_of, block_of}
use Rattle.format.specs.Kinds.{term_number}
use Rattle.format.specs.declared.kinds.Terminator.TheVariants as term
use Rattle.definitions.specs.Fine.{Head, Fine, ends, goes}
use Rattle.definitions.proofs.Sheets.Passed.{read_end, read_step}
use Rattle.definitions.proofs.Sheets.Lines.{OfRows, Given, by_lines}
use Rattle.definitions.proofs.Sheets.Singles.{items_from, after as after_all, Starts, starts, Own, own}
use Rattle.definitions.proofs.Sheets.Steps.{Step, here, past, One, this, many_step, perhaps_step, one_step, done_ends, low}
use Rattle.program_nodes.specs.Offsets.{head_width, block_id_at, records_at, fields_at, own_at}
use Rattle.sheet.specs.Passed.{record_kind, stop_of}
use Rattle.program_nodes.specs.Positions.{instr_here, size_here, term_here, term_size, instrs_here, terminator_here, block_here, blocks_here, BlockFrom, BlocksFrom, InstrTo}
use Rattle.program_nodes.proofs.InstrRows.{InstrAt, HasKind, instr_at, placed}

-- a record by itself
alone : {s : List ℕ} {at end b stop : ℕ} {p : Pattern} (c : Class) {fs : List Field} → after (one c done) c ≡ left done → Head s at end c fs p b stop → Fine s b stop p → Fine s at stop (one c done)
unfolding may_end
alone c a hd kids = goes (record { is = hd.is; stop_is = hd.stop_is; valid = hd.valid; body_is = hd.body_is; low = hd.low; mid = hd.mid; high = omega arith }) a kids (ends refl refl)

-- TERMINATORS, by their own values
pub record TermAt (s : List ℕ) (q stop k : ℕ) (vs : List FieldValue) : Type 0 where
  pub low : 90 ≤ k
  pub high : k ≤ 93
  pub fits : q + term_size k ≤ stop
  pub is : terminator_of k vs ≡ term_here k s q

module _ (s : List ℕ) (q end b stop : ℕ) where
  term_line : (k : ℕ) (es : List Entry) → 90 ≤ k → k ≤ 93 → after_all es fields_at ≡ term_size k
      → (terminator_of k (items_from es s q fields_at ++ []) ≡ term_here k s q)
      → Head s q end Class.terminator (origin ∷ (map single es ++ [])) done b stop → TermAt s q stop k (own_of (read_values (origin ∷ (map single es ++ [])) s stop (q + head_width)))
  unfolding read_values
  term_line k es lo hi size is hd =
      let S : Own es [] s q b stop = own es [] hd in
      record { low = lo; high = hi; fits = rw (← size) S.fits; is = ap (terminator_of k) S.values ∙ is }

  abbrev T : Class → ℕ → List Field → Pattern → Type 0
  T c k fs p = Head s q end c fs p b stop → (p ≡ done) × TermAt s q stop k (own_of (read_values fs s stop (q + head_width)))

  pub term_at : OfRows T Class.terminator rows
  unfolding Given rows items_from read_item after_all size_of term_here read_values
  term_at =
      by_lines T Class.terminator rows
      (λ hd. (refl, term_line 90 (up_to 65534 ∷ []) (lit≤ tt) (lit≤ tt) refl refl hd))
      (λ hd. (refl, term_line 91 (up_to 65534 ∷ up_to 65534 ∷ up_to 65534 ∷ []) (lit≤ tt) (lit≤ tt) refl refl hd))
      (λ hd. (refl, term_line 92 (optional ∷ []) (lit≤ tt) (lit≤ tt) refl refl hd))
      (λ hd. (refl, term_line 93 [] (lit≤ tt) (lit≤ tt) refl refl hd))

-- each has a kind of the code
pub term_kind : OfRows (HasKind term_number) Class.terminator rows
unfolding Given rows
term_kind = by_lines (HasKind term_number) Class.terminator rows (term.Jump, refl) (term.Branch, refl) (term.Return, refl) (term.Unreachable, refl)

-- A BLOCK'S RECORDS: what stands at q
pub record InstrStep (s : List ℕ) (q end stop : ℕ) : Type 0 where
  pub alone : Fine s q stop (one Class.instruction done)
  pub vs : List FieldValue
  pub at : InstrAt s q stop (record_kind s q) (own_of vs)
  pub high : stop ≤ end
  pub low : q + own_at ≤ stop
  pub next : BlockFrom s stop end
  pub ks : Trees
  pub read : read_records s q end ≡ tcons (node q (record_kind s q) vs ks) (read_records s stop end)

pub record TermStep (s : List ℕ) (q end : ℕ) : Type 0 where
  pub alone : Fine s q end (one Class.terminator done)
  pub stop_is : end ≡ stop_of s q
  pub vs : List FieldValue
  pub at : TermAt s q end (record_kind s q) (own_of vs)
  pub low : q + head_width ≤ end
  pub ks : Trees
  pub read : read_records s q end ≡ tcons (node q (record_kind s q) vs ks) tnil

pub data AtRecord (s : List ℕ) (q end : ℕ) : Type 0 where
  at_end : q ≡ end → AtRecord s q end
  at_instr : InstrStep s q end (stop_of s q) → AtRecord s q end
  at_term : TermStep s q end → AtRecord s q end

size_big : (k : ℕ) → own_at ≤ size_here k
size_big k = omega arith

at_terminator : {s : List ℕ} {q end : ℕ} → Step s q end Class.terminator done done → AtRecord s q end
unfolding after
at_terminator (past f) = at_end (done_ends f)
at_terminator {s} {q} {end} (here {fs = fs} {b = b} {stop = stop} hd kids more) =
    let t = term_at s q end b stop (record_kind s q) _ _ hd.is hd in
    let e : stop ≡ end = done_ends more in
    at_term (record {
      alone = subst (λ (x : ℕ). Fine s q x (one Class.terminator done)) e (alone Class.terminator refl hd kids);
      stop_is = sym e ∙ hd.stop_is;
      vs = read_values fs s stop (q + head_width);
      at = subst (λ (x : ℕ). TermAt s q x (record_kind s q) (own_of (read_values fs s stop (q + head_width)))) e t.1;
      low = omega (arith, hd.low, hd.mid);
      ks = read_records s b stop;
      read = read_step hd kids more ∙ ap (tcons (node q (record_kind s q) (read_values fs s stop (q + head_width)) (read_records s b stop))) (subst (λ (x : ℕ). read_records s stop x ≡ tnil) e (read_end s stop));
    })

at_instruction : {s : List ℕ} {q end : ℕ} → Step s q end Class.instruction (many Class.instruction (perhaps Class.terminator done)) (perhaps Class.terminator done) → AtRecord s q end
unfolding after
at_instruction (past f) = at_terminator (perhaps_step Class.terminator done f)
at_instruction {s} {q} {end} (here {fs = fs} {b = b} {stop = stop} hd kids more) =
    let t = instr_at s q end b stop (record_kind s q) _ _ hd.is hd in
    at_instr (subst (InstrStep s q end) hd.stop_is (record {
      alone = alone Class.instruction refl hd kids;
      vs = read_values fs s stop (q + head_width);
      at = t.1;
      high = hd.high;
      low = omega (arith, t.1.fits, size_big (record_kind s q));
      next = more;
      ks = read_records s b stop;
      read = read_step hd kids more;
    }))

pub at_record : {s : List ℕ} {q end : ℕ} → BlockFrom s q end → AtRecord s q end
at_record f = at_instruction (many_step Class.instruction (perhaps Class.terminator done) f)

-- a record that is there is long enough for its head, and its kind says which it is
pub record_fits : {s : List ℕ} {q end : ℕ} → BlockFrom s q end → q < end → q + head_width ≤ end
record_fits f l = elim (at_record f) [ at_end e ↦ absurd (omega arith) | at_instr I ↦ omega (arith, I.low, I.high) | at_term T ↦ T.low ]

pub record_long : {s : List ℕ} {q end : ℕ} → BlockFrom s q end → q < end → q < stop_of s q
record_long f l = elim (at_record f) [ at_end e ↦ absurd (omega arith) | at_instr I ↦ omega (arith, I.low) | at_term T ↦ omega (arith, T.stop_is) ]

pub instr_here_lem : {s : List ℕ} {q end : ℕ} → BlockFrom s q end → q < end → record_kind s q < 90 → InstrStep s q end (stop_of s q)
instr_here_lem f l k = elim (at_record f) [ at_end e ↦ absurd (omega arith) | at_instr I ↦ I | at_term T ↦ absurd (omega (arith, T.at.low)) ]

pub term_here_lem : {s : List ℕ} {q end : ℕ} → BlockFrom s q end → q < end → 90 ≤ record_kind s q → TermStep s q end
term_here_lem f l k = elim (at_record f) [ at_end e ↦ absurd (omega arith) | at_instr I ↦ absurd (omega (arith, I.at.high)) | at_term T ↦ T ]

-- what is left after it
pub rest_here : {s : List ℕ} {q end : ℕ} → BlockFrom s q end → q < end → BlockFrom s (stop_of s q) end
unfolding may_end
rest_here f l = elim (at_record f) [ at_end e ↦ absurd (omega arith) | at_instr I ↦ I.next | at_term T ↦ rw (← T.stop_is) (ends refl refl) ]

-- A RECORD BY ITSELF
pub instr_alone : {s : List ℕ} {q stop : ℕ} → Fine s q stop (one Class.instruction done) → stop ≤ length s → InstrTo s q stop (record_kind s q)
instr_alone {s} {q} {stop} f l = go (one_step Class.instruction done f)
  where
    go : One s q stop Class.instruction done → InstrTo s q stop (record_kind s q)
    go (this {fs = fs} {q = p} {b = b} {stop = x} hd kids more) =
        let I = (instr_at s q stop b x (record_kind s q) _ _ hd.is hd).1 in
        let z : x ≡ stop = done_ends more in
        record { place = placed I; room = omega (arith, I.fits); inside = l }

pub term_alone : {s : List ℕ} {q stop : ℕ} → Fine s q stop (one Class.terminator done) → stop ≤ length s → q + term_size (record_kind s q) ≤ length s
term_alone {s} {q} {stop} f l = go (one_step Class.terminator done f)
  where
    go : One s q stop Class.terminator done → q + term_size (record_kind s q) ≤ length s
    go (this {b = b} {stop = x} hd kids more) =
        let T = (term_at s q stop b x (record_kind s q) _ _ hd.is hd).1 in
        let z : x ≡ stop = done_ends more in
        omega (arith, T.fits)

-- its kind
pub kind_alone : {K : Type 0} (numbered : K → ℕ) {c : Class} {s : List ℕ} {q stop : ℕ} → OfRows (HasKind numbered) c rows → Fine s q stop (one c done) → (k : K) × (numbered k ≡ record_kind s q)
kind_alone {K} numbered {c} {s} {q} {stop} kinds f = go (one_step c done f)
  where
    go : One s q stop c done → (k : K) × (numbered k ≡ record_kind s q)
    go (this hd kids more) = kinds (record_kind s q) _ _ hd.is

-- THE INSTRUCTIONS AND THE TERMINATOR of a block's records from q on
module _ {s : List ℕ} {q end stop : ℕ} (I : InstrStep s q end stop) where
  pub instrs_step : instrs_here s q end ≡ record { result = opt_from (le 2 s (q + fields_at)); instr = instr_here (record_kind s q) s q stop } ∷ instrs_here s stop end
  unfolding instrs_here
  instrs_step =
      ap (gather 60 81 instr_node_of) I.read ∙ rw (le-leb 60 (record_kind s q) I.at.low, le-leb (record_kind s q) 81 I.at.high)
      (ap₂ (λ (r : Option ℕ) (i : Instruction). record { result = r; instr = i } ∷ gather 60 81 instr_node_of (read_records s stop end)) I.at.result I.at.is)

  pub terminator_instr : terminator_here s q end ≡ terminator_here s stop end
  unfolding terminator_here
  terminator_instr = ap (λ (x : Trees). first_of (gather 90 93 term_of x)) I.read ∙ rw (lt-leb 90 (record_kind s q) (omega (arith, I.at.high)))

module _ {s : List ℕ} {q end : ℕ} (T : TermStep s q end) where
  pub instrs_term : instrs_here s q end ≡ []
  unfolding instrs_here
  instrs_term = ap (gather 60 81 instr_node_of) T.read ∙ rw (le-leb 60 (record_kind s q) (omega (arith, T.at.low)), lt-leb (record_kind s q) 81 (omega (arith, T.at.low)))

  pub terminator_term : terminator_here s q end ≡ some (term_here (record_kind s q) s q)
  unfolding terminator_here
  terminator_term =
      ap (λ (x : Trees). first_of (gather 90 93 term_of x)) T.read ∙ rw (le-leb 90 (record_kind s q) T.at.low, le-leb (record_kind s q) 93 T.at.high) (ap some T.at.is)

pub instrs_end : (s : List ℕ) {q end : ℕ} → q ≡ end → instrs_here s q end ≡ []
unfolding instrs_here
instrs_end s {q} e = rw (← e) (ap (gather 60 81 instr_node_of) (read_end s q))

pub terminator_end : (s : List ℕ) {q end : ℕ} → q ≡ end → terminator_here s q end ≡ none
unfolding terminator_here
terminator_end s {q} e = rw (← e) (ap (λ (x : Trees). first_of (gather 90 93 term_of x)) (read_end s q))

-- BLOCKS
pub record BlockStep (s : List ℕ) (b end stop : ℕ) : Type 0 where
  pub high : stop ≤ end
  pub low : b + records_at ≤ stop
  pub records : BlockFrom s (b + records_at) stop
  pub next : BlocksFrom s stop end
  pub vs : List FieldValue
  pub block : (block_of (node b (record_kind s b) vs (read_records s (b + records_at) stop))).id ≡ le 2 s (b + block_id_at)
  pub kind : record_kind s b ≡ 53
  pub read : read_records s b end ≡ tcons (node b (record_kind s b) vs (read_records s (b + records_at) stop)) (read_records s stop end)

pub data AtBlock (s : List ℕ) (b end : ℕ) : Type 0 where
  no_block_lem : b ≡ end → AtBlock s b end
  at_block : BlockStep s b end (stop_of s b) → AtBlock s b end

module _ (s : List ℕ) (q end b stop : ℕ) where
  abbrev B : Class → ℕ → List Field → Pattern → Type 0
  B c k fs p =
      Head s q end c fs p b stop → (k ≡ 53) × (p ≡ many Class.instruction (perhaps Class.terminator done)) × (b ≡ q + records_at)
      × ((x : ℕ) (ts : Trees) → (block_of (node x k (read_values fs s stop (q + head_width)) ts)).id ≡ le 2 s (q + block_id_at))

  block_row : OfRows B Class.basic_block rows
  unfolding Given rows items_from read_item after_all size_of read_values fields_end
  block_row =
      by_lines B Class.basic_block rows
      (λ hd.
      let S : Starts (up_to 65534 ∷ []) [] s q b stop = starts (up_to 65534 ∷ []) [] hd in
      (refl, refl, S.body, λ x ts. ap (λ (v : List FieldValue). (block_of (node x 53 v ts)).id) S.values))

block_step : {s : List ℕ} {b end : ℕ} → Step s b end Class.basic_block (many Class.basic_block done) done → AtBlock s b end
block_step (past f) = no_block_lem (done_ends f)
block_step {s} {b} {end} (here {fs = fs} {q = q} {b = c} {stop = stop} hd kids more) =
    let t = block_row s b end c stop (record_kind s b) _ _ hd.is hd in
    let k : BlockFrom s (b + records_at) stop = subst (λ (x : ℕ). BlockFrom s x stop) t.2 (subst (λ (p : Pattern). Fine s c stop p) t.1 kids) in
    at_block (subst (BlockStep s b end) hd.stop_is (record {
      high = hd.high;
      low = low k;
      records = k;
      next = more;
      vs = read_values fs s stop (b + head_width);
      block = t.3 b (read_records s (b + records_at) stop);
      kind = t.0;
      read = subst (λ (x : ℕ). read_records s b end ≡ tcons (node b (record_kind s b) (read_values fs s stop (b + head_width)) (read_records s x stop)) (read_records s stop end)) t.2 (read_step hd kids more);
    }))

pub at_blocks : {s : List ℕ} {b end : ℕ} → BlocksFrom s b end → AtBlock s b end
at_blocks f = block_step (many_step Class.basic_block done f)

pub block_here_lem : {s : List ℕ} {b end : ℕ} → BlocksFrom s b end → b < end → BlockStep s b end (stop_of s b)
block_here_lem f l = elim (at_blocks f) [ no_block_lem e ↦ absurd (omega arith) | at_block B ↦ B ]

pub blocks_step : {s : List ℕ} {b end stop : ℕ} → BlockStep s b end stop → blocks_here s b end ≡ block_here s b stop ∷ blocks_here s stop end
unfolding blocks_here instrs_here terminator_here
blocks_step {s} {b} {end} {stop} B =
    ap (gather 53 53 block_of) B.read ∙ rw B.kind
    (ap (λ (x : ℕ). record { id = x; instrs = instrs_here s (b + records_at) stop; terminator = terminator_here s (b + records_at) stop } ∷ gather 53 53 block_of (read_records s stop end)) B.block)

pub blocks_end : (s : List ℕ) {b end : ℕ} → b ≡ end → blocks_here s b end ≡ []
unfolding blocks_here
blocks_end s {b} e = rw (← e) (ap (gather 53 53 block_of) (read_end s b))

-- Where a function's values stand in its frame of working memory. Untrusted helpers of contracts: no public promise cites them.
-- Assumes nothing: these are definitions.
use Rattle.std.specs.Prelude as code
use Rattle.std.specs.Prelude.{ℕ, suc, ◌<◌, Bool, false, List, [], ◌∷◌, ◌++◌, map, eqb, ltb, leb, length}
use Rattle.std.proofs.Math.Option.{Option, none, some}
use Rattle.definitions.specs.Ir.{IrType, InstrNode, BasicBlock, IrFunction}
use Rattle.definitions.specs.Records.{pick}
use Rattle.ir.specs.Answers.{option_of}
use Rattle.ir.specs.declared.ValueId.{ValueId}
use Rattle.machine_slots.specs.declared.Tally.{Tally}

-- THE IDS of a function in their order: its parameters', then its result ids
abbrev pub id_or_none : Option ℕ → List ℕ
id_or_none none = []
id_or_none (some v) = v ∷ []

unfoldable pub block_results : List InstrNode → List ℕ
block_results [] = []
block_results (n ∷ ns) = id_or_none n.result ++ block_results ns

unfoldable pub blocks_results : List BasicBlock → List ℕ
blocks_results [] = []
blocks_results (b ∷ bs) = block_results b.instrs ++ blocks_results bs

abbrev pub param_id : ℕ × IrType → ℕ
param_id p = p.0

unfoldable pub value_ids : IrFunction → List ℕ
value_ids f = map param_id f.params ++ blocks_results f.blocks

-- the position of the first of them that is v; their count if none is
unfoldable pub index_of : ℕ → List ℕ → ℕ
index_of v [] = 0
index_of v (x ∷ xs) = pick (eqb x v) 0 (suc (index_of v xs))

abbrev pub Among : ℕ → List ℕ → Type 0
Among v ids = index_of v ids < length ids

-- a number above all of them, m at least
unfoldable pub above : List ℕ → ℕ → ℕ
above [] m = m
above (x ∷ xs) m = above xs (pick (ltb x m) m (suc x))

abbrev pub above_all : List ℕ → ℕ
above_all ids = above ids 0

-- how many they are, and a number above all of them
abbrev pub tally_of : List ℕ → Tally
tally_of ids = record { count = length ids; above = above_all ids }

-- A SEARCH for v passes one id after another, and stops at v with its position
abbrev pub id_of : code.Option ValueId → Option ℕ
id_of = option_of (λ v. v.0)

abbrev pub none_yet : Tally
none_yet = record { count = 0; above = 0 }

abbrev pub with_one : Tally → ℕ → Tally
with_one i x = record { count = suc i.count; above = pick (ltb x i.above) i.above (suc x) }

abbrev pub is_it : ℕ → Option ℕ → Bool
is_it x none = false
is_it x (some v) = eqb x v

abbrev pub passed : Tally → ℕ → Option ℕ → code.Result Tally ℕ
passed i x v = pick (is_it x v) (code.Err i.count) (code.Ok (with_one i x))

unfoldable pub searched : Tally → List ℕ → Option ℕ → code.Result Tally ℕ
searched i [] v = code.Ok i
searched i (x ∷ xs) v = pick (is_it x v) (code.Err i.count) (searched (with_one i x) xs v)

-- THE SLOT of a value: where the ids are dense, all below their count, it is the id itself, and else its position
unfoldable pub slot_for : List ℕ → ℕ → ℕ
slot_for ids v = pick (leb (above_all ids) (length ids)) v (index_of v ids)

-- i of n, if there are so many
abbrev pub one_of : (n i : ℕ) → Option ℕ
one_of n i = pick (ltb i n) (some i) none

-- the slot of v, if it has one: where the ids are dense, each number below their count has one, and else only what is among them
abbrev pub slot_in : List ℕ → ℕ → Option ℕ
slot_in ids v = one_of (length ids) (slot_for ids v)

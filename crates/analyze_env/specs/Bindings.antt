-- The names that are known, as the code keeps them: a binding for each, newest last, and for each chain of names its newest. Assumes nothing: these are
-- definitions.
use Rattle.std.specs.Prelude.{ℕ, zero, suc, ◌%◌, ◌≤◌, ◌<◌, ◌≡◌, List, [], ◌∷◌, eqb, ltb, length, get_or}
use Rattle.std.proofs.Math.Option as maths
use Rattle.definitions.specs.Records.{pick}
use Rattle.definitions.specs.Analyze as analyze
use Rattle.analyze_env.specs.Types.{as_ty}
use Rattle.analyze_env.specs.declared.Link.{Link}
use Rattle.analyze_env.specs.declared.Binding.{Binding}
use Rattle.analyze_env.specs.declared.Ty.TheVariants as ty

-- a link has the position of a binding and one; 0 is none
abbrev pub position_of : ℕ → maths.Option ℕ
position_of zero = maths.none
position_of (suc i) = maths.some i

abbrev pub no_link : Link
no_link = record { 0 = 0 }

-- what is not read
abbrev pub blank : Binding
blank = record { name = record { 0 = 0 }; link = no_link; ty = ty.Unknown }

abbrev pub binding_at : List Binding → ℕ → Binding
binding_at l i = get_or l i blank

-- THE READING: the first n bindings, newest first
unfoldable pub env_of : List Binding → ℕ → analyze.Env
env_of l zero = []
env_of l (suc n) = ((binding_at l n).name.0, as_ty (binding_at l n).ty) ∷ env_of l n

-- the chain of a name: with 65,536 chains, its own
unfoldable pub chain_of : (chains name : ℕ) → ℕ
chain_of chains name = pick (ltb chains 65536) (name % 1024) name

-- the chain of the binding at i
abbrev pub chain_at : (chains : ℕ) → List Binding → ℕ → ℕ
chain_at chains l i = chain_of chains (binding_at l i).name.0

-- the newest of the chain b among the first n, as its position and one; 0 if there is none
unfoldable pub newest : (chains : ℕ) → List Binding → (b : ℕ) → ℕ → ℕ
newest chains l b zero = 0
newest chains l b (suc n) = pick (eqb (chain_at chains l n) b) (suc n) (newest chains l b n)

-- the first n bindings are known: the head of each chain is its newest binding, and each binding's link is the newest of its chain before it
pub record Known (l : List Binding) (heads : List Link) (n : ℕ) : Type 0 where
  pub room : n ≤ length l
  pub short : length l ≤ 65535
  pub wide : 1024 ≤ length heads
  pub head : (b : ℕ) → b < length heads → (get_or heads b no_link).0 ≡ newest (length heads) l b n
  pub link : (i : ℕ) → i < n → (binding_at l i).link.0 ≡ newest (length heads) l (chain_at (length heads) l i) i

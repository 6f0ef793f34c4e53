-- The words of an answer on shortest paths.
use Rattle.std.specs.Prelude.{ℕ, ◌+◌, ◌<◌, List, [], ◌∷◌, ◌++◌, length, codes, decimal, Option, Some, None, IfSome, All, ⊤}
use Rattle.std.specs.Fmt.{signed_decimal}
use Rattle.graph_defs.specs.declared.shortest.SpAnswer.{SpAnswer}
use Rattle.graph_defs.specs.declared.shortest.Finite.{Finite}
use Rattle.graph_defs.specs.declared.shortest.Low.{Low}
use Rattle.graph_defs.specs.declared.shortest.Seed.{Seed}
use Rattle.graph_defs.specs.declared.shortest.Why.{Why}
use Rattle.graph_defs.specs.declared.shortest.Why.TheVariants as why
use Rattle.graph_defs.specs.Shortest.{AreBelow}
use Rattle.reply_text.specs.Words.{word_at, words_at}

-- the counts of the finite, the low and the unreached nodes
abbrev pub sp_words : SpAnswer → List (List ℕ)
sp_words answer =
    codes "sp" ∷ decimal (length answer.finite) ∷ decimal (length answer.low)
    ∷ decimal (length answer.unreached) ∷ []

-- the arc that a node is reached by, or `-` at the source
abbrev pub pred_word : List ℕ → Option ℕ → List ℕ
pred_word edges None = codes "-"
pred_word edges (Some arc) = word_at (codes "e") edges arc

-- a node with its distance
abbrev pub finite_words : List ℕ → List ℕ → Finite → List (List ℕ)
finite_words nodes edges finite =
    codes "finite" ∷ word_at (codes "n") nodes finite.node ∷ signed_decimal finite.dist
    ∷ pred_word edges finite.pred ∷ []

-- a colon, and the edges of a walk
abbrev pub walk_words : List ℕ → List ℕ → List (List ℕ)
walk_words edges walk = codes ":" ∷ words_at (codes "e") edges walk

-- the node that a seed starts at, its walk, and its closed walk
abbrev pub seed_words : List ℕ → List ℕ → Seed → List (List ℕ)
seed_words nodes edges seed =
    codes "seed" ∷ word_at (codes "n") nodes seed.start
    ∷ (walk_words edges seed.walk ++ walk_words edges seed.cycle)

-- the seed's number from 1, or the arc
abbrev pub why_words : List ℕ → Why → List (List ℕ)
why_words edges (why.Seed seed) = codes "seed" ∷ decimal (seed + 1) ∷ []
why_words edges (why.Arc arc) = word_at (codes "e") edges arc ∷ []

-- a node whose walks have no least weight, and the reason
abbrev pub low_words : List ℕ → List ℕ → Low → List (List ℕ)
low_words nodes edges low =
    codes "-inf" ∷ word_at (codes "n") nodes low.node ∷ why_words edges low.why

-- a node to which no walk leads
abbrev pub unreached_words : List ℕ → ℕ → List (List ℕ)
unreached_words nodes node = codes "inf" ∷ word_at (codes "n") nodes node ∷ []

-- each number of a node or an arc in the answer has a name; a seed's number needs none
pub record IsFiniteNamed (nodes edges : List ℕ) (finite : Finite) : Type 0 where
  pub node : finite.node < length nodes
  pub pred : IfSome finite.pred (λ arc. arc < length edges)

pub record IsSeedNamed (nodes edges : List ℕ) (seed : Seed) : Type 0 where
  pub start : seed.start < length nodes
  pub walk : AreBelow (length edges) seed.walk
  pub cycle : AreBelow (length edges) seed.cycle

abbrev pub IsWhyNamed : List ℕ → Why → Type 0
IsWhyNamed edges (why.Seed seed) = ⊤
IsWhyNamed edges (why.Arc arc) = arc < length edges

pub record IsLowNamed (nodes edges : List ℕ) (low : Low) : Type 0 where
  pub node : low.node < length nodes
  pub why : IsWhyNamed edges low.why

pub record IsSpNamed (nodes edges : List ℕ) (answer : SpAnswer) : Type 0 where
  pub finite : All (IsFiniteNamed nodes edges) answer.finite
  pub seeds : All (IsSeedNamed nodes edges) answer.seeds
  pub low : All (IsLowNamed nodes edges) answer.low
  pub unreached : AreBelow (length nodes) answer.unreached
